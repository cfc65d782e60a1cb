-- Bytes that stand in a text, or nowhere in it.
use Rattle.std.specs.Prelude.{◌≢◌, ℕ, List, length, take, drop}
use Rattle.regress_engine_scanning.specs.declared.landmark.Landmark.{Landmark}
use Rattle.regress_engine_scanning.specs.declared.landmark.Landmark.TheVariants.{Ahead, BehindRun}

-- at no offset does the text go on with these bytes
abbrev pub IsNowhereIn : List ℕ → List ℕ → Type 0
IsNowhereIn bytes text = (at : ℕ) → take (length bytes) (drop at text) ≢ bytes

-- the byte of a landmark
abbrev pub byte_by : Landmark → ℕ
byte_by (Ahead distance byte) = byte
byte_by (BehindRun run byte) = byte
