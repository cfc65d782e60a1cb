-- What is taken first.
use Rattle.std.specs.Prelude.{◌≡◌, ℕ, Bool, true}
use Rattle.regress_meaning.specs.Inputs.{Input}
use Rattle.regress_engine_input.specs.Views.{direction_of}
use Rattle.regress_engine_insn.specs.Instructions.{Instruction, Program}
use Rattle.regress_engine_runs.specs.Closed.{Fits}
use Rattle.regress_engine_singles.specs.Failing.{IsDead, TakesNothing}
use Rattle.regress_engine_singles.specs.Taking.{is_taking}

-- From an address on an instruction takes a character or bytes first: where it takes nothing, no match can be reached.
pub record IsTakenFirst (program : Program) (at : ℕ) (i : Instruction) : Type 0 where
  pub fits : Fits program 0 i
  pub takes : is_taking i ≡ true
  pub dead : (input : Input) (forward : Bool) (o : ℕ) → TakesNothing program input (direction_of forward) i o → IsDead program input (direction_of forward) at o
