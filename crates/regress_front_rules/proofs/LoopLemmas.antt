-- Loops: without groups nothing is cleared, and the first iterations may stand before the others.
use Rattle.std.proofs.Common.{◌≡◌, ℕ, zero, suc, ◌+◌, ◌-◌, ◌≤◌, Bool, true, false, ◌&&◌, List, [], ◌∷◌, Option, nat_le, nat_lt, refl, sym, ap, ◌∙◌, inl, inr, arith}
use Rattle.std.specs.List.{flat_map}
use Rattle.std.proofs.lemmas.Bool.{cases_lt, le-leb, lt-ltb}
use Rattle.std.proofs.lemmas.Bool.Decides.{nat_tests}
use Rattle.regress_meaning.specs.Meaning.{State, Direction, Context, clear_from, cleared, iterations}
use Rattle.regress_front_nodes.specs.Trees.{Tree, loop, single_loop, cat_of}
use Rattle.regress_front_nodes.specs.TreeMeaning.{node_outcomes}
use Rattle.regress_front_nodes.specs.WellFormed.{group_ids, AreNumbered}
use Rattle.regress_front_nodes.proofs.StepLemmas.{flat_map-self}
use Rattle.regress_front_rules.specs.Rules.{copies, unrolled}

-- no number lies in the range of no groups
pub no_groups-range : (first last : ℕ) → AreNumbered first last [] → first ≡ last
no_groups-range first last h =
    elim (cases_lt first last) [
      | inl some ↦
          let h1 : nat_le first first ≡ true = le-leb first first (omega arith) in
          let h2 : nat_lt first last ≡ true = lt-ltb first last some in
          let one : 0 ≡ 1 = h.once first ∙ (rw (h1, h2) refl) in
          absurd (omega (arith, one))
      | inr none ↦ let o = h.order in omega arith
    ]

module _ (w : Context) where
  clear_none : (i k : ℕ) (gs : List (Option (ℕ × ℕ))) → clear_from i k k gs ≡ gs
  clear_none i k [] = refl
  clear_none i k (g ∷ gs) =
      let none : (nat_le k i && nat_lt i k) ≡ false = outside in
      rw none (ap (λ hs. g ∷ hs) (clear_none (i + 1) k gs))
    where
      outside : (nat_le k i && nat_lt i k) ≡ false
      outside = grind (arith, nat_tests)

  -- where no groups are inside, nothing is cleared
  pub cleared-none : (first last : ℕ) → AreNumbered first last [] → (s : State) → cleared first last s ≡ s
  cleared-none first last h s =
      let same : last ≡ first = sym (no_groups-range first last h) in
      rw same (λ i. record { place = s.place; groups = clear_none 0 first s.groups i })

  -- a loop without groups inside is the iterations of its body
  pub loop-plain : (a : Tree) (first last least most : ℕ) (greedy : Bool) (dir : Direction) → group_ids a ≡ [] → AreNumbered first last (group_ids a) → (s : State)
      → node_outcomes w (loop a first last least most greedy) dir s ≡ iterations (node_outcomes w a dir) greedy most least s
  unfolding node_outcomes
  loop-plain a first last least most greedy dir none h s =
      let numbered : AreNumbered first last [] = rw (← none) h in
      (λ i. iterations (λ t. node_outcomes w a dir (cleared-none first last numbered t i)) greedy most least s)

  -- the first iterations one after another, and then the others; below the least number an iteration may take nothing
  iterations-begun : (a : Tree) (dir : Direction) (rest : Tree) (greedy : Bool) (least most : ℕ) → least ≤ most
      → ((s : State) → node_outcomes w rest dir s ≡ iterations (node_outcomes w a dir) greedy (most - least) 0 s) → (s : State)
      → node_outcomes w (cat_of (copies least a (rest ∷ []))) dir s ≡ iterations (node_outcomes w a dir) greedy most least s
  unfolding node_outcomes iterations
  iterations-begun a dir rest greedy zero most fits h s =
      let e : most - 0 ≡ most = omega arith in
      flat_map-self (node_outcomes w rest dir s) ∙ h s ∙ (rw e refl)
  iterations-begun a dir rest greedy (suc least) zero fits h s = absurd (omega arith)
  iterations-begun a dir rest greedy (suc least) (suc most) fits h s =
      let e : suc most - suc least ≡ most - least = omega arith in
      let again = iterations-begun a dir rest greedy least most (omega arith) (λ r. h r ∙ (rw e refl)) in
      (λ i. flat_map (λ r. again r i) (node_outcomes w a dir s))

  -- an unrolled loop leads where the loop does, from every state and in both directions
  pub unrolled-same : (a : Tree) (first last least most : ℕ) (greedy : Bool) (dir : Direction) → group_ids a ≡ [] → AreNumbered first last (group_ids a) → least ≤ most → (s : State)
      → node_outcomes w (loop a first last least most greedy) dir s ≡ node_outcomes w (unrolled a first last least most greedy) dir s
  unrolled-same a first last least most greedy dir none h fits s =
      loop-plain a first last least most greedy dir none h s
      ∙ sym (iterations-begun a dir (loop a first last zero (most - least) greedy) greedy least most fits (loop-plain a first last zero (most - least) greedy dir none h) s)

  -- a loop over what takes one character leads where the one-character loop does
  pub single-same : (a : Tree) (first last least most : ℕ) (greedy : Bool) (dir : Direction) → group_ids a ≡ [] → AreNumbered first last (group_ids a) → (s : State)
      → node_outcomes w (loop a first last least most greedy) dir s ≡ node_outcomes w (single_loop a least most greedy) dir s
  unfolding node_outcomes
  single-same a first last least most greedy dir none h s = loop-plain a first last least most greedy dir none h s
