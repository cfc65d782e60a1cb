use Rattle.std.proofs.Common.{◌≡◌, ℕ, ◌<◌, ◌||◌, drop}
use Rattle.regress_meaning.specs.TableParts.{in_intervals}
use Rattle.regress_front_bytes.specs.Bitmaps.{ascii_bitmap_contains}
use Rattle.regress_front_sets.specs.Intervals.{ends_of}
use Rattle.regress_front_sets.proofs.code_point_set.CodePointSet.ascii_members.Given as goal

-- what is added and what is still to come are the ASCII members
abbrev pub invariant-loop-interval : goal.invariant-loop-interval
invariant-loop-interval l =
    (c : ℕ) → c < 0x80 → (ascii_bitmap_contains l.bitmap c || in_intervals (drop l.interval-index (ends_of l.interval-items)) c) ≡ in_intervals (ends_of l.interval-items) c
