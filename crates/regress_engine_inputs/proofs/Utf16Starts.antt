-- Where a search in units of UTF-16 may begin: outside a pair.
use Rattle.std.specs.Prelude.{IsTrue}
use Rattle.std.proofs.Common.{◌≡◌, ◌⊎◌, inl, inr, ◌↔◌, ℕ, ◌+◌, ◌<◌, ◌≤◌, false, not, List, Option, Some, None, length, All, refl, sym, ap, ◌∙◌, arith}
use Rattle.std.proofs.lemmas.Option.{slice_get_past}
use Rattle.std.proofs.lemmas.Bool.{cases_lt, not-true}
use Rattle.regress_meaning.specs.Offsets.{offset, of_utf16, characters, Begins}
use Rattle.regress_meaning.specs.Inputs.{unit_before}
use Rattle.regress_meaning.specs.Steps.{pair_of, splits}
use Rattle.regress_engine_input.proofs.Utf16Texts.{IsShort, utf16_end}
use Rattle.regress_engine_input.proofs.Utf16Parts.{place-at, place-outside}

module _ (units : List ℕ) (short : All IsShort units) where
  -- past the end nothing is a pair
  past-outside : (at : ℕ) → length units ≤ at → splits units at ≡ false
  past-outside at room = ap (pair_of (unit_before units at)) (slice_get_past units at room) ∙ no-second (unit_before units at)
    where
      no-second : (u : Option ℕ) → pair_of u None ≡ false
      no-second None = refl
      no-second (Some u) = refl

  -- a search may begin exactly where no pair is cut
  pub starts-outside : (at : ℕ) → IsTrue (not (splits units at)) ↔ ((place : ℕ) × Begins (of_utf16 units) at place)
  starts-outside at = (λ outside. by_room outside (cases_lt (length units) at), λ (place, begins). inside place begins)
    where
      by_room : IsTrue (not (splits units at)) → (length units < at) ⊎ (at ≤ length units) → (place : ℕ) × Begins (of_utf16 units) at place
      by_room outside (inl past) = (length (characters units) + 1, inr (refl, rw (utf16_end units short) past))
      by_room outside (inr room) = let (place, fits, here) = place-at units short at room (not-true (splits units at) outside) in (place, inl (fits, here))

      inside : (place : ℕ) → Begins (of_utf16 units) at place → IsTrue (not (splits units at))
      inside place (inl (fits, here)) = ap not (ap (splits units) (sym here) ∙ place-outside units short place fits)
      inside place (inr (e, past)) = ap not (past-outside at (let all = utf16_end units short in omega (arith, past, all)))
