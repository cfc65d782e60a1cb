-- What is spared: ways that no match can be reached by, wherever a character is taken.
use Rattle.std.specs.Prelude.{◌≡◌, ℕ, ◌+◌, true, List, Some}
use Rattle.regress_meaning.specs.Meaning.{Forward}
use Rattle.regress_engine_input.specs.Views.{View, input_of, reading_of}
use Rattle.regress_engine_insn.specs.Instructions.{Instruction, LoopFields, Program, Stands}
use Rattle.regress_engine_insn.specs.Instructions as code
use Rattle.regress_engine_runs.specs.Meets.{IsAtPlace}
use Rattle.regress_engine_runs.specs.Runs.{advance}
use Rattle.regress_engine_runs.specs.States.{Marks}
use Rattle.regress_engine_analysis.specs.Planned.{is_class}
use Rattle.regress_engine_singles.specs.Failing.{IsDead}

-- wherever an instruction takes something ahead of a place, no match can be reached from an address
abbrev pub IsDeadBefore : Program → View → Instruction → (at : ℕ) → Type 0
IsDeadBefore program v i at = (groups : List Marks) (o q : ℕ) → IsAtPlace (reading_of v) o → advance program (input_of v) i Forward groups o ≡ Some q
    → IsDead program (input_of v) Forward at o

-- At an address an iteration of a repetition begins with two ways. The first is a class, and then the iteration ends; where the
-- class takes a character, no match can be reached by the second one, nor behind the repetition.
pub record IsTurn (program : Program) (v : View) (at second begin again : ℕ) (i : Instruction) (f : LoopFields) : Type 0 where
  pub class : is_class i ≡ true
  pub first : Stands program (at + 1) i
  pub jump : Stands program (at + 2) (code.jump again)
  pub ends : Stands program again (code.loop_again begin)
  pub begins : Stands program begin (code.enter_loop f)
  pub body : begin + 1 ≡ at
  pub way : IsDeadBefore program v i second
  pub out : IsDeadBefore program v i f.exit
