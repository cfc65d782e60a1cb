-- Characters of ASCII that stand ahead, one after another.
use Rattle.std.specs.Prelude.{slice_index, get_or, ◌==◌}
use Rattle.std.proofs.Common.{◌≡◌, ℕ, suc, ◌+◌, ◌-◌, ◌<◌, ◌≤◌, Bool, true, false, not, List, [], ◌∷◌, length, take, drop, length-take, length-drop, Some, None, if◌then◌else◌, refl, sym, ap, ◌∙◌, subst, arith}
use Rattle.std.proofs.lemmas.Bool.{eq-eqb}
use Rattle.std.proofs.lemmas.Bool.Decides.{nat_tests}
use Rattle.std.proofs.lemmas.List.{get_or-take, get_or-drop}
use Rattle.std.proofs.lemmas.List.Folds.{list_any_at}
use Rattle.std.proofs.lemmas.Option.{slice_get-get_or}
use Rattle.regress_meaning.specs.Meaning.{Forward, is_line_end}
use Rattle.regress_meaning.specs.Text.{holds}
use Rattle.regress_meaning.specs.Steps.{passed}
use Rattle.regress_engine_input.specs.Views.{View, input_of}
use Rattle.regress_engine_scanning.specs.Units.{AreAscii}
use Rattle.regress_engine_singles.specs.Passing.{IsAsciiAhead, IsLowRun}
use Rattle.regress_engine_singles.proofs.ByteLemmas.{unit-next}

-- a byte of ASCII is the character ahead, and so is a unit
pub ascii-ahead : (v : View) (o : ℕ) → o < length v.units → slice_index v.units o < 0x80 → IsAsciiAhead v o
ascii-ahead v o inside low = record { low = low; next = unit-next v.kind v.table v.unicode v.units (slice_index v.units o) o low (slice_get-get_or v.units o 0 inside) }

-- it passes where its number does
pub ascii-passes : (v : View) (passes : ℕ → Bool) (o : ℕ) → IsAsciiAhead v o → passes (slice_index v.units o) ≡ true → Some (suc o) ≡ passed passes ((input_of v).next Forward o)
ascii-passes v passes o ahead e = sym (ap (passed passes) ahead.next ∙ ap (λ t. if t then Some (suc o) else None) e)

-- and does not where its byte does not
pub ascii-other : (v : View) (passes : ℕ → Bool) (o b : ℕ) (t : Bool) → IsAsciiAhead v o × (slice_index v.units o ≡ b) → t ≡ passes b → not t ≡ true
    → None ≡ passed passes ((input_of v).next Forward o)
ascii-other v passes o b true (ahead, is) e other = absurd (cc other)
ascii-other v passes o b false (ahead, is) e other = sym (ap (passed passes) ahead.next ∙ ap (λ t. if t then Some (suc o) else None) (ap passes is ∙ sym e))

pub ascii-passed : (v : View) (passes : ℕ → Bool) (o : ℕ) → IsAsciiAhead v o → Some (suc o) ≡ passed passes ((input_of v).next Forward o) → passes (slice_index v.units o) ≡ true
ascii-passed v passes o ahead e = by_test (passes (slice_index v.units o)) (e ∙ ap (passed passes) ahead.next)
  where
    by_test : (t : Bool) → Some (suc o) ≡ (if t then Some (suc o) else None) → t ≡ true
    by_test true f = refl
    by_test false f = absurd (cc f)

-- bytes of a part are those that stand there
module _ (text : List ℕ) (from to : ℕ) (room : to ≤ length text) where
  part-held : (k : ℕ) → from ≤ k → k < to → holds (take (to - from) (drop from text)) (slice_index text k) ≡ true
  part-held k low high =
      let part : List ℕ = take (to - from) (drop from text) in
      let size = length-drop from text in
      let sizes = length-take (to - from) (drop from text) in
      let inside : k - from < length part = omega (arith, size, sizes, low, high, room) in
      let same : from + (k - from) ≡ k = omega (arith, low) in
      let here : get_or part (k - from) 0 ≡ slice_index text k =
      get_or-take (to - from) (drop from text) (k - from) 0 (omega (arith, low, high)) ∙ get_or-drop from text (k - from) 0 ∙ ap (slice_index text) same in
      let there : holds part (get_or part (k - from) 0) ≡ true = list_any_at (λ x. x == get_or part (k - from) 0) part (k - from) 0 inside (eq-eqb _ _ refl) in
      ap (holds part) (sym here) ∙ there

  pub part-low : AreAscii (holds (take (to - from) (drop from text))) → (k : ℕ) → from ≤ k → k < to → slice_index text k < 0x80
  part-low low k from to = low (slice_index text k) (part-held k from to)

-- what no stop is passes where all but some characters do
module _ (v : View) (stops : List ℕ) (passes : ℕ → Bool) (others : (c : ℕ) → passes c ≡ not (holds stops c)) where
  pub other-passed : (o : ℕ) → IsAsciiAhead v o → Some (suc o) ≡ passed passes ((input_of v).next Forward o) → holds stops (slice_index v.units o) ≡ false
  other-passed o ahead e = by_test (holds stops (slice_index v.units o)) (sym (others (slice_index v.units o)) ∙ ascii-passed v passes o ahead e)
    where
      by_test : (t : Bool) → not t ≡ true → t ≡ false
      by_test false f = refl
      by_test true f = absurd (cc f)

-- each of a run of ASCII that passes is taken
module _ (v : View) (units : List ℕ) (same : units ≡ v.units) (passes : ℕ → Bool) (o end far : ℕ) (room : end ≤ length units) (run : IsLowRun passes units o end far) where
  pub run-ascii : (k : ℕ) → o ≤ k → k < far → IsAsciiAhead v k
  run-ascii k from less =
      let high = run.high in
      let inside : k < length units = omega (arith, less, high, room) in
      ascii-ahead v k (subst (λ (us : List ℕ). k < length us) same inside) (subst (λ (us : List ℕ). slice_index us k < 0x80) same (run.small k from less))

  pub run-each : (k : ℕ) → o ≤ k → k < far → Some (suc k) ≡ passed passes ((input_of v).next Forward k)
  run-each k from less = ascii-passes v passes k (run-ascii k from less) (subst (λ (us : List ℕ). passes (slice_index us k) ≡ true) same (run.each k from less))

-- a byte that is no end of a line and not another is taken where any character of a line is
module _ (b byte : ℕ) (low : b < 0x80) (other : holds (0x0A ∷ 0x0D ∷ byte ∷ []) b ≡ false) where
  pub in-line : not (is_line_end b) ≡ true
  in-line = grind (arith, nat_tests)

  pub not-byte : (b == byte) ≡ false
  not-byte = grind (arith, nat_tests)
