-- What is written to slots of a caller lies in what was searched.
use Rattle.std.specs.Prelude.{ℕ, List, Option, IfSome}
use Rattle.std.specs.declared.ops.Range.{Range}
use Rattle.regress_meaning.specs.Offsets.{Reading}
use Rattle.regress_match.specs.TextRanges.{LiesBetween}
use Rattle.regress_programs.specs.Filling.{HoldsOfSlots}
use Rattle.regress_programs.specs.Coming.{IsStart}
use Rattle.regress_programs.specs.Units.{LiesInUnits}

-- they lie in a text between characters
abbrev pub SlotsLieInText : List ℕ → Option (Range ℕ) → List (Option (Range ℕ)) → Type 0
SlotsLieInText bytes = HoldsOfSlots (LiesBetween bytes)

-- they lie in units, and a search may begin at both ends of each
abbrev pub SlotsLieInUnits : Reading → List ℕ → Option (Range ℕ) → List (Option (Range ℕ)) → Type 0
SlotsLieInUnits reading units = HoldsOfSlots (LiesInUnits reading units)

-- a search in the text may begin at both ends of the match, if any
abbrev pub EndsAreStarts : List ℕ → Option (Range ℕ) → Type 0
EndsAreStarts bytes found = IfSome found (λ r. IsStart bytes r.start × IsStart bytes r.end)
