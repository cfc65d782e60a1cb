-- What a group took does not stand where another unit does.
use Rattle.std.specs.Prelude.{slice_get, slice_range, get_or}
use Rattle.std.proofs.Common.{◌≡◌, ◌≢◌, ℕ, ◌+◌, ◌-◌, ◌<◌, ◌≤◌, false, List, length, drop, Some, None, refl, sym, ap, ◌∙◌, subst, arith, length-take, length-drop}
use Rattle.std.proofs.lemmas.List.{get_or-drop, get_or-take}
use Rattle.std.proofs.lemmas.Option.{slice_get-get_or}
use Rattle.regress_meaning.specs.Meaning.{Forward}
use Rattle.regress_meaning.specs.Steps.{repeated}
use Rattle.regress_engine_input.specs.Views.{View, Kind, utf8, ascii, utf16, ucs2, AreOfKind, input_of, reading_of, outside_pairs}
use Rattle.regress_engine_matchers.proofs.ViewLemmas.{view_reads, view_repeats}
use Rattle.regress_engine_runs.specs.Meets.{IsAtPlace}
use Rattle.regress_engine_search.proofs.PlaceLemmas.{can-read, units-are}
use Rattle.regress_engine_search.proofs.ReadyLemmas.{place_is}
use Rattle.regress_engine_singles.proofs.ByteLemmas.{other-first}

-- none is outside of pairs where there is none
none-outside : (kind : Kind) (units : List ℕ) → None ≡ outside_pairs kind units None
none-outside utf8 units = refl
none-outside ascii units = refl
none-outside utf16 units = refl
none-outside ucs2 units = refl

-- the first unit of a range that has some
first-of-range : (units : List ℕ) (a b : ℕ) → a < b → b ≤ length units → (0 < length (slice_range units a b)) × (slice_get units a ≡ Some (get_or (slice_range units a b) 0 0))
first-of-range units a b some inside =
    let left = length-drop a units in
    let taken = length-take (b - a) (drop a units) in
    let none : a ≡ a + 0 = omega arith in (
      omega (arith, left, taken, some, inside),
      slice_get-get_or units a 0 (omega (arith, some, inside))
          ∙ ap (λ (x : ℕ). Some x) (ap (λ i. get_or units i 0) none ∙ sym (get_or-drop a units 0 0) ∙ sym (get_or-take (b - a) (drop a units) 0 0 (omega (arith, some)))),
    )

-- what a group took, if it took something, does not stand ahead where the first unit is another
pub other-reference : (v : View) → AreOfKind v.kind v.units → (a b o : ℕ) → a < b → IsAtPlace (reading_of v) a → IsAtPlace (reading_of v) b → IsAtPlace (reading_of v) o
    → slice_get v.units a ≢ slice_get v.units o → None ≡ repeated (input_of v) Forward false (Some (a, b)) o
other-reference v all a b o some start end place other =
    none-outside v.kind v.units ∙ ap (outside_pairs v.kind v.units) (other-first (input_of v) (slice_range (input_of v).units a b) o first.0 differs)
    ∙ view_repeats v all Forward a b o (omega (arith, some)) (place_is v a start) (place_is v b end) (place_is v o place)
  where
    inside : b ≤ length (input_of v).units
    inside = subst (λ (us : List ℕ). b ≤ length us) (sym (units-are v)) ((view_reads v all).inside b (can-read v all b end))

    first : (0 < length (slice_range (input_of v).units a b)) × (slice_get (input_of v).units a ≡ Some (get_or (slice_range (input_of v).units a b) 0 0))
    first = first-of-range (input_of v).units a b some inside

    differs : slice_get (input_of v).units o ≡ Some (get_or (slice_range (input_of v).units a b) 0 0) → ⊥
    differs here = other (ap (λ (us : List ℕ). slice_get us a) (sym (units-are v)) ∙ first.1 ∙ sym here ∙ ap (λ (us : List ℕ). slice_get us o) (units-are v))
