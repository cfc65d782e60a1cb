-- The text of a group that is asked for by its name, where several groups may have it.
use Rattle.std.proofs.Common.{◌≡◌, ◌==◌, ℕ, ◌+◌, Bool, true, false, not, suc, length, ne_eqb, arith, String, Global, string_bytes, List, [], ◌∷◌, map, Option, Some, None, option_map, if◌then◌else◌, refl, sym}
use Rattle.std.specs.List.{list_any}
use Rattle.std.specs.Option.{option_or}
use Rattle.regress_meaning.specs.Text.{same_text}
use Rattle.regress_match.specs.declared.found.Match.{Match}
use Rattle.regress_match.specs.Views.{ends, item_of}
use Rattle.regress_match.specs.GroupRanges.{numbered}
use Rattle.regress_match.specs.GroupViews.{names_of_match}
use Rattle.regress_match.specs.NamedRanges.{first_taken, named_taken}
use Rattle.regress_replacing.specs.Substitution.{is_some_named}
use Rattle.regress_replacing.proofs.GroupTexts.{numbered-map}

-- what the first group of a name took that took part, told otherwise
taken-map : {A B : Type 0} (f : A → B) (name : List ℕ) (groups : List (Option A)) (k : ℕ) (names : List (List ℕ))
    → first_taken name (numbered (map (option_map f) groups)) k names ≡ option_map f (first_taken name (numbered groups) k names)
unfolding first_taken
taken-map f name groups k [] = refl
taken-map {A} {B} f name groups k (n ∷ names) = go (same_text n name) (numbered groups k) (numbered-map f groups k) (taken-map f name groups (k + 1) names)
  where
    go : (b : Bool) (g : Option A) → numbered (map (option_map f) groups) k ≡ option_map f g
        → first_taken name (numbered (map (option_map f) groups)) (k + 1) names ≡ option_map f (first_taken name (numbered groups) (k + 1) names)
        → (if b then option_or (numbered (map (option_map f) groups) k) (first_taken name (numbered (map (option_map f) groups)) (k + 1) names)
        else first_taken name (numbered (map (option_map f) groups)) (k + 1) names)
        ≡ option_map f (if b then option_or g (first_taken name (numbered groups) (k + 1) names) else first_taken name (numbered groups) (k + 1) names)
    go true None here more = rw here more
    go true (Some x) here more = rw here refl
    go false g here more = more

-- the range of a group of a match is that of its item
pub taken-range : (m : Match) (name : List ℕ) → option_map ends (named_taken (names_of_match m) m.captures.items name) ≡ named_taken (names_of_match m) (item_of m).groups name
taken-range m [] = refl
taken-range m (c ∷ name) = sym (taken-map ends (c ∷ name) m.captures.items 0 (names_of_match m))

-- a text that is told not to be empty is another than the empty text
empty-text : (t : List ℕ) → (length t == 0) ≡ same_text t []
empty-text [] = refl
empty-text (c ∷ t) = ne_eqb (suc (length t)) 0 (omega arith)

-- some of these strings is not empty
pub some-named : (names : List (String Global)) → list_any (λ (name : String Global). not (length (string_bytes name) == 0)) names ≡ is_some_named (map string_bytes names)
some-named [] = refl
some-named (n ∷ names) = rw (empty-text (string_bytes n), some-named names) refl
