-- A search may begin where a match ends.
use Rattle.std.specs.Prelude.{ℕ, List, Option, Some, None, Result, Ok, Err, IfOk}
use Rattle.std.proofs.Common.{inl, sym}
use Rattle.std.specs.declared.ops.Range.{Range}
use Rattle.regress_meaning.specs.Offsets.{Reading, of_utf8}
use Rattle.regress_programs.specs.Filling.{SlotsAreAtPlaces}
use Rattle.regress.specs.Slotted.{EndsAreStarts, SlotsLieInUnits}
use Rattle.regress_calls.specs.Texts.{EndsAtStart}

module _ {E : Type 0} (result : Result (Option (Range ℕ)) E) where
  -- in a text
  pub ends-in-text : (bytes : List ℕ) → IfOk result (EndsAreStarts bytes) → IfOk result (EndsAtStart (of_utf8 bytes))
  ends-in-text bytes = by_result result
    where
      by_result : (r : Result (Option (Range ℕ)) E) → IfOk r (EndsAreStarts bytes) → IfOk r (EndsAtStart (of_utf8 bytes))
      by_result (Ok None) ends = tt
      by_result (Ok (Some range)) ends = ends.1
      by_result (Err e) ends = tt

  -- and in units
  pub ends-in-units : (reading : Reading) (units : List ℕ) (slots : List (Option (Range ℕ))) → IfOk result (λ found. SlotsLieInUnits reading units found slots)
      → IfOk result (EndsAtStart reading)
  ends-in-units reading units slots = by_result result
    where
      by_result : (r : Result (Option (Range ℕ)) E) → IfOk r (λ found. SlotsLieInUnits reading units found slots) → IfOk r (EndsAtStart reading)
      by_result (Ok None) lie = tt
      by_result (Ok (Some range)) lie = lie.0.3
      by_result (Err e) lie = tt

-- and where the ranges are at places
pub ends-at-places : (reading : Reading) (found : Option (Range ℕ)) (slots : List (Option (Range ℕ))) → SlotsAreAtPlaces reading found slots → EndsAtStart reading found
ends-at-places reading None slots at = tt
ends-at-places reading (Some range) slots at = let (p, room, here) = at.0.1 in (p, inl (room, sym here))
