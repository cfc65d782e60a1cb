-- What is said of the ends of a match's ranges is said of the ranges.
use Rattle.std.proofs.Common.{ℕ, List, [], ◌∷◌, map, option_map, Option, Some, None, IfSome, All}
use Rattle.std.proofs.lemmas.List.Elements.{All-nil, All-cons, All-head, All-tail}
use Rattle.std.specs.declared.ops.Range.{Range}
use Rattle.regress_match.specs.Views.{ends}

module _ (P : ℕ × ℕ → Type 0) (Q : Range ℕ → Type 0) (said : (r : Range ℕ) → P (ends r) → Q r) where
  of_group : (g : Option (Range ℕ)) → IfSome (option_map ends g) P → IfSome g Q
  of_group None of_ends = tt
  of_group (Some r) of_ends = said r of_ends

  -- of each range that a group took
  pub of_groups : (gs : List (Option (Range ℕ))) → All (λ g. IfSome g P) (map (option_map ends) gs) → All (λ g. IfSome g Q) gs
  of_groups [] all = All-nil (λ g. IfSome g Q)
  of_groups (g ∷ gs) all =
      All-cons (λ g. IfSome g Q) g gs (of_group g (All-head (λ g. IfSome g P) (option_map ends g) (map (option_map ends) gs) all))
      (of_groups gs (All-tail (λ g. IfSome g P) (option_map ends g) (map (option_map ends) gs) all))
