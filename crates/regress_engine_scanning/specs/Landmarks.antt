-- A byte that stands by an offset.
use Rattle.std.specs.Prelude.{ℕ, ◌+◌, ◌<◌, Bool, false, not, ◌&&◌, ◌||◌, nat_eq, List, [], ◌∷◌, drop, slice_get}
use Rattle.regress_meaning.specs.Meaning.{is_some_and}
use Rattle.regress_front_bytes.specs.declared.bitmaps.ByteBitmap.{ByteBitmap}
use Rattle.regress_front_bytes.specs.Bitmaps.{byte_bitmap_contains}
use Rattle.regress_engine_scanning.specs.Units.{AreAscii}
use Rattle.regress_engine_scanning.specs.declared.landmark.Landmark.{Landmark}
use Rattle.regress_engine_scanning.specs.declared.landmark.Landmark.TheVariants.{Ahead, BehindRun}

-- one or more bytes other than the byte pass, and right behind them it stands
abbrev pub run_then : (ℕ → Bool) → ℕ → List ℕ → Bool
run_then run byte [] = false
run_then run byte (b ∷ bs) = not (nat_eq byte b) && run b && (is_some_and (slice_get bs 0) (nat_eq byte) || run_then run byte bs)

-- the byte stands by an offset
abbrev pub stands : Landmark → List ℕ → ℕ → Bool
stands (Ahead distance byte) bytes at = is_some_and (slice_get bytes (at + distance)) (nat_eq byte)
stands (BehindRun run byte) bytes at = run_then (byte_bitmap_contains run) byte (drop at bytes)

-- a byte of a set stands at an offset, and the byte of the landmark by it
abbrev pub begins_by : ByteBitmap → Landmark → List ℕ → ℕ → Bool
begins_by set landmark bytes at = is_some_and (slice_get bytes at) (byte_bitmap_contains set) && stands landmark bytes at

-- each byte that a landmark tells is below 0x80
abbrev pub IsLow : Landmark → Type 0
IsLow (Ahead distance byte) = byte < 0x80
IsLow (BehindRun run byte) = AreAscii (byte_bitmap_contains run) × (byte < 0x80)
