-- What lists of classes and patterns cost.
use Rattle.std.proofs.Common.{◌≡◌, ℕ, ◌+◌, ◌<◌, List, [], ◌∷◌, length, map, fold, sum_by, refl, arith}
use Rattle.std.proofs.lemmas.List.Sums.{sum_by-cons}
use Rattle.regress_meaning.specs.Table.{Table}
use Rattle.regress_meaning.specs.Class.{Class, intersection, difference}
use Rattle.regress_meaning.specs.Pattern.{Pattern, character}
use Rattle.regress_front_tokens.specs.Trees.{union_of, sequence_of, choice_of}
use Rattle.regress_front_costs.specs.Costs.{class_cost, cost}

module _ (table : Table) where
  -- members side by side
  pub union-cost : (cs : List Class) → class_cost table (union_of cs) ≡ sum_by (class_cost table) cs
  union-cost [] = refl
  union-cost (c ∷ cs) = omega (arith, union-cost cs, sum_by-cons (class_cost table) c cs)

  -- what others are met with, or taken from
  pub intersection-cost : (c : Class) (cs : List Class) → class_cost table (fold intersection c cs) ≡ class_cost table c + sum_by (class_cost table) cs
  intersection-cost c [] = omega arith
  intersection-cost c (d ∷ cs) = omega (arith, intersection-cost (intersection c d) cs, sum_by-cons (class_cost table) d cs)

  pub difference-cost : (c : Class) (cs : List Class) → class_cost table (fold difference c cs) ≡ class_cost table c + sum_by (class_cost table) cs
  difference-cost c [] = omega arith
  difference-cost c (d ∷ cs) = omega (arith, difference-cost (difference c d) cs, sum_by-cons (class_cost table) d cs)

  -- terms one after another
  pub sequence-cost : (ps : List Pattern) → cost table (sequence_of ps) ≡ sum_by (cost table) ps + 1
  sequence-cost [] = refl
  sequence-cost (p ∷ ps) = omega (arith, sequence-cost ps, sum_by-cons (cost table) p ps)

  -- alternatives, at least one
  pub choice-cost : (ps : List Pattern) → 0 < length ps → cost table (choice_of ps) + 1 ≡ sum_by (cost table) ps + length ps
  choice-cost [] some = absurd (omega arith)
  choice-cost (p ∷ []) some = omega (arith, sum_by-cons (cost table) p [])
  choice-cost (p ∷ q ∷ ps) some = omega (arith, choice-cost (q ∷ ps) (omega arith), sum_by-cons (cost table) p (q ∷ ps))

  -- characters
  pub characters-cost : (cs : List ℕ) → sum_by (cost table) (map character cs) ≡ length cs
  characters-cost [] = refl
  characters-cost (c ∷ cs) = omega (arith, characters-cost cs, sum_by-cons (cost table) (character c) (map character cs))

  -- one term
  pub one-cost : (p : Pattern) → sum_by (cost table) (p ∷ []) ≡ cost table p
  one-cost p = omega (arith, sum_by-cons (cost table) p [])
