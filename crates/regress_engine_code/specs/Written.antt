-- What is written of a program, while it is made.
use Rattle.std.specs.Prelude.{◌≡◌, ℕ, ◌<◌, ◌≤◌, ◌⊎◌, Bool, List, [], ◌∷◌, ◌++◌, length, Some, slice_get, slice_set, map}
use Rattle.regress_meaning.specs.Table.{Table}
use Rattle.regress_front_core.specs.declared.error.Error.{Error}
use Rattle.regress_front_core.specs.declared.error.Error.TheVariants.{OutOfMemory, TooLarge}
use Rattle.regress_front_nodes.specs.Trees.{Tree}
use Rattle.regress_engine_code.specs.declared.code.Code.{Code}
use Rattle.regress_engine_insn.specs.Instructions.{Instruction, jump, Program, Stands}
use Rattle.regress_engine_insn.specs.InsnViews.{instruction}
use Rattle.regress_engine_insn.specs.Layout.{ProgramPoint, Lies}
use Rattle.regress_engine_insn.specs.ProgramViews.{bracket_ends}

-- The instructions and brackets so far, and how many loops begin in them.
pub record Written : Type 0 where
  pub instructions : List Instruction
  pub brackets : List (Bool × List (ℕ × ℕ))
  pub loops : ℕ

-- what a code holds
abbrev pub written : Code → Written
written code = record {
  instructions = map instruction code.insns.items;
  brackets = map bracket_ends code.brackets.items;
  loops = code.loops;
}

-- the program point behind it
abbrev pub end : Written → ProgramPoint
end w = record { address = length w.instructions; loops = w.loops }

-- with more instructions
abbrev pub with : Written → List Instruction → Written
with w is = record w { instructions = w.instructions ++ is }

-- with another instruction at an address
abbrev pub changed : Written → ℕ → Instruction → Written
changed w address i = record w { instructions = slice_set w.instructions address i }

-- with a jump at each of some addresses
abbrev pub closed : Written → List ℕ → ℕ → Written
closed w [] to = w
closed w (j ∷ js) to = changed (closed w js to) j (jump to)

-- A program has what is written from an address on, and all the brackets.
pub record Has (program : Program) (low : ℕ) (w : Written) : Type 0 where
  pub instructions : (k : ℕ) (i : Instruction) → low ≤ k → slice_get w.instructions k ≡ Some i → Stands program k i
  pub brackets : (k : ℕ) (x : Bool × List (ℕ × ℕ)) → slice_get w.brackets k ≡ Some x → slice_get program.brackets k ≡ Some x

-- What was written stands there still.
pub record Keeps (old new : Written) : Type 0 where
  pub further : length old.instructions ≤ length new.instructions
  pub instructions : (k : ℕ) (i : Instruction) → slice_get old.instructions k ≡ Some i → slice_get new.instructions k ≡ Some i
  pub brackets : (k : ℕ) (x : Bool × List (ℕ × ℕ)) → slice_get old.brackets k ≡ Some x → slice_get new.brackets k ≡ Some x

-- What was written is kept, and behind it is written what lies thus between its program points, in any program that has it.
pub record Adds (units : Bool) (lies : Program → ProgramPoint → ProgramPoint → Type 0) (old new : Written) : Type 0 where
  pub kept : Keeps old new
  pub lie : (program : Program) → program.units ≡ units → Has program (length old.instructions) new → lies program (end old) (end new)

-- A tree is added, of a program that is made for a table and a mode; backward: inside a lookbehind.
abbrev pub AddsTree : (units : Bool) → Table → (unicode backward : Bool) → Tree → Written → Written → Type 0
AddsTree units table unicode backward t =
    Adds units (λ program p q. Lies (record { program = program; table = table; unicode = unicode }) backward t p q)

-- so many instructions cannot be addressed, or so many loops not be numbered
abbrev pub AreTooMany : (instructions loops : ℕ) → Type 0
AreTooMany instructions loops = (0xFFFF_FFFF < instructions) ⊎ (65535 < loops)

-- Memory is refused, or so many are too many.
abbrev pub MayRefuse : (instructions loops : ℕ) → Error → Type 0
MayRefuse instructions loops e = (e ≡ OutOfMemory) ⊎ ((e ≡ TooLarge) × AreTooMany instructions loops)
