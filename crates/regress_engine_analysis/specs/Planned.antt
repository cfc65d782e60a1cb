-- What is known of the addresses of a program without running it.
use Rattle.std.specs.Prelude.{◌≡◌, ◌==◌, ℕ, ◌+◌, ◌<◌, Bool, true, false, List, map, None, Some, slice_get}
use Rattle.regress_meaning.specs.Inputs.{is_continuation}
use Rattle.regress_front_bytes.specs.declared.bitmaps.ByteBitmap.{ByteBitmap}
use Rattle.regress_engine_insn.specs.Instructions.{Instruction, LoopFields, Program, Stands, begins_loop}
use Rattle.regress_engine_insn.specs.Instructions as code
use Rattle.regress_engine_insn.specs.InsnViews.{instruction}
use Rattle.regress_engine_insn.specs.declared.insn.Insn.{Insn}
use Rattle.regress_engine_analysis.specs.declared.facts.Facts.{Facts}
use Rattle.regress_engine_analysis.specs.declared.facts.Turn as turn
use Rattle.regress_engine_analysis.specs.declared.facts.Known.{Known}
use Rattle.regress_engine_analysis.specs.declared.facts.Known.TheVariants.{Nothing, Possessive, Turn, Ways}
use Rattle.regress_engine_analysis.specs.declared.ways.Ways as table
use Rattle.regress_engine_analysis.specs.MayBegin.{AreFirstBytes, may_begin_with}
use Rattle.regress_engine_analysis.specs.Ways.{HasWays, way_before}

-- an instruction is a class
abbrev pub is_class : Instruction → Bool
is_class (code.bracket k) = true
is_class (code.ascii_bracket cs) = true
is_class _ = false

-- the sets of first bytes among facts
abbrev pub firsts : List Facts → List ByteBitmap
firsts facts = map (λ f. f.first) facts

-- what is known of an address besides its first bytes; of one that has no facts nothing
abbrev pub known_of : List Facts → (at : ℕ) → Known
known_of facts at = elim (slice_get facts at) [ None ↦ Nothing | Some f ↦ f.known ]

-- no byte with which a character may begin that is read at one address may begin a match from another
abbrev pub AreApart : List ByteBitmap → (at other : ℕ) → Type 0
AreApart sets at other =
    (b : ℕ) → b < 256 → is_continuation b ≡ false → may_begin_with sets at b ≡ true → may_begin_with sets other b ≡ false

-- an instruction stands at an address that passes a test
abbrev pub stands_as : Program → (Instruction → Bool) → (at : ℕ) → Bool
stands_as program test at = elim (slice_get program.instructions at) [ None ↦ false | Some i ↦ test i ]

-- an instruction jumps to an address
abbrev pub jumps_to : (target : ℕ) → Instruction → Bool
jumps_to target (code.jump a) = a == target
jumps_to target _ = false

-- an iteration ends, of the repetition that begins at an address
abbrev pub ends_iteration : (begin : ℕ) → Instruction → Bool
ends_iteration begin (code.loop_again a) = a == begin
ends_iteration begin _ = false

-- At an address an iteration of a repetition begins with two ways. The first is a class, and then the iteration ends; no match
-- from the second one, nor from behind the repetition, may begin as the class does.
pub record IsTurnAt (program : Program) (sets : List ByteBitmap) (at begin again : ℕ) : Type 0 where
  pub class : stands_as program is_class (at + 1) ≡ true
  pub jump : stands_as program (jumps_to again) (at + 2) ≡ true
  pub ends : stands_as program (ends_iteration begin) again ≡ true
  pub begins : stands_as program begins_loop begin ≡ true
  pub body : begin + 1 ≡ at
  pub way : (second : ℕ) → Stands program at (code.alt second) → AreApart sets (at + 1) second
  pub out : (f : LoopFields) → Stands program begin (code.enter_loop f) → AreApart sets (at + 1) f.exit

-- what is known of an address is so, with some tables
abbrev pub IsSo : Program → List ByteBitmap → List table.Ways → (at : ℕ) → Known → Type 0
IsSo program sets tables at Nothing = Unit {0}
IsSo program sets tables at Possessive = AreApart sets (at + 1) (at + 2)
IsSo program sets tables at (Turn t) = IsTurnAt program sets at t.begin t.again
IsSo program sets tables at (Ways k) = HasWays program sets tables at k

-- Of the addresses of a program, from the first on, these facts are so.
pub record ArePlanned (program : Program) (facts : List Facts) : Type 0 where
  pub first : AreFirstBytes program (firsts facts)
  pub possessive : (at : ℕ) → known_of facts at ≡ Possessive → AreApart (firsts facts) (at + 1) (at + 2)
  pub turn : (at : ℕ) (t : turn.Turn) → known_of facts at ≡ Turn t → IsTurnAt program (firsts facts) at t.begin t.again

-- each address of which a table is known has one among these that tells where it goes on from there
abbrev pub AreTabled : Program → List Facts → List table.Ways → Type 0
AreTabled program facts tables = (at k : ℕ) → known_of facts at ≡ Ways k → HasWays program (firsts facts) tables at k

-- Of the addresses of a program with these instructions, what is known stays so, with other tables and facts: if it was so of each
-- address, it is.
abbrev pub KeepsKnown : List Insn → List ByteBitmap → (tables : List table.Ways) → List Facts → (later : List table.Ways) → List Facts → Type 0
KeepsKnown insns sets tables facts later after = (program : Program) → program.instructions ≡ map instruction insns
    → ((at : ℕ) → IsSo program sets tables at (known_of facts at)) → (at : ℕ) → IsSo program sets later at (known_of after at)

-- with right tables, it goes on from an address before a byte at this one, in each program with these instructions
abbrev pub IsWayFrom : List Insn → List Facts → List table.Ways → (byte at way : ℕ) → Type 0
IsWayFrom insns facts tables byte at way = (program : Program) → program.instructions ≡ map instruction insns
    → AreTabled program facts tables → way ≡ way_before program (firsts facts) byte at
