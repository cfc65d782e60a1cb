-- Where it goes on from several ways, read forward, by the byte that stands ahead.
use Rattle.std.specs.Prelude.{◌≡◌, ◌+◌, ◌<◌, ℕ, zero, suc, Bool, true, false, cond, nat_lt, Option, None, Some, List, [], length, slice_get, slice_index, slice_index_or}
use Rattle.regress_front_bytes.specs.declared.bitmaps.ByteBitmap.{ByteBitmap}
use Rattle.regress_engine_insn.specs.Instructions.{Instruction, Program}
use Rattle.regress_engine_insn.specs.Instructions as code
use Rattle.regress_engine_analysis.specs.MayBegin.{may_begin_with}
use Rattle.regress_engine_analysis.specs.declared.ways.Ways.{Ways}

-- the second of two ways of an instruction at an address, where that lies behind
abbrev pub second_way : (at : ℕ) → Instruction → Option ℕ
second_way at (code.alt second) = cond (nat_lt at second) (Some second) None
second_way at _ = None

-- the same of the instruction that stands there
abbrev pub second_at : Program → (at : ℕ) → Option ℕ
second_at program at = elim (slice_get program.instructions at) [ None ↦ None | Some i ↦ second_way at i ]

-- of two ways the second where no match may begin by the first, or the first where none may by the second, or neither
abbrev pub one_of : (by_first by_second : Bool) → (first second : ℕ) → Option ℕ
one_of false by_second first second = Some second
one_of true false first second = Some first
one_of true true first second = None

-- where it goes on from an address before a byte, if that is one of two ways there
unfoldable pub next_way : Program → List ByteBitmap → (byte at : ℕ) → Option ℕ
next_way program sets byte at =
    elim (second_at program at) [ None ↦ None | Some second ↦ one_of (may_begin_with sets (at + 1) byte) (may_begin_with sets second byte) (at + 1) second ]

-- where it goes on from there, in at most so many steps
unfoldable pub goes_on : Program → List ByteBitmap → (byte steps at : ℕ) → ℕ
goes_on program sets byte zero at = at
goes_on program sets byte (suc n) at = elim (next_way program sets byte at) [ None ↦ at | Some next ↦ goes_on program sets byte n next ]

-- Where it goes on from an address before a byte: as long as of two ways no match by one may begin with it, by the other. Each
-- step leads on, so there are no more of them than instructions.
abbrev pub way_before : Program → List ByteBitmap → (byte at : ℕ) → ℕ
way_before program sets byte at = goes_on program sets byte (length program.instructions) at

-- a table tells where it goes on from an address before each character of ASCII
abbrev pub AreWays : Program → List ByteBitmap → (at : ℕ) → Ways → Type 0
AreWays program sets at ways = (b : ℕ) → b < 0x80 → slice_index ways.0 b ≡ way_before program sets b at

-- what stands in for a table that is not there
abbrev pub no_ways : Ways
no_ways = record { 0 = [] }

-- a table with a number, of some, tells where it goes on from an address
abbrev pub HasWays : Program → List ByteBitmap → List Ways → (at k : ℕ) → Type 0
HasWays program sets tables at k = (k < length tables) × AreWays program sets at (slice_index_or tables k no_ways)
