-- What exports answer as numbers, and why those that check a text refuse.
use Rattle.std.specs.Prelude.{◌≡◌, ℕ, ◌↔◌, ◌⊎◌, List}
use Rattle.std.specs.Str.{IsUtf8}
use Rattle.regress_engine_input.specs.Views.{utf8}
use Rattle.regress_programs.specs.declared.slots.Anchored.{Anchored}
use Rattle.regress_call_errors.specs.declared.call_error.CallError.{CallError}
use Rattle.regress_call_errors.specs.declared.call_error.CallError.TheVariants.{NotUtf8}
use Rattle.regress_calls.specs.Handles.{Content}
use Rattle.regress_calls.specs.Refusals.{MayRefuseSearch, MayRefuseMany}

-- the number is 1 where the fact holds, and else 0
abbrev pub IsTruthOf : ℕ → Type 0 → Type 0
IsTruthOf n P = (n ≡ 1 ↔ P) × ((n ≡ 0) ⊎ (n ≡ 1))

-- Why a search of bytes that are checked may be refused: they are not UTF-8, or as any search.
abbrev pub MayRefuseChecked : Content → Anchored → List ℕ → (start : ℕ) → CallError → Type 0
MayRefuseChecked c anchored bytes start NotUtf8 = ¬ (IsUtf8 bytes)
MayRefuseChecked c anchored bytes start e = MayRefuseSearch c anchored utf8 bytes start e

-- The same of a search for many matches.
abbrev pub MayRefuseCheckedMany : Content → List ℕ → (start next room width : ℕ) → CallError → Type 0
MayRefuseCheckedMany c bytes start next room width NotUtf8 = ¬ (IsUtf8 bytes)
MayRefuseCheckedMany c bytes start next room width e = MayRefuseMany c utf8 bytes start next room width e
