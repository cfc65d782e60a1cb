-- What is known of a place before a run begins there.
use Rattle.std.specs.Prelude.{◌≡◌, ℕ, true, Some, List, ◌⊎◌}
use Rattle.regress_meaning.specs.Inputs.{Input}
use Rattle.regress_meaning.specs.Meaning.{Forward}
use Rattle.regress_engine_input.specs.Views.{View, input_of}
use Rattle.regress_engine_insn.specs.Instructions.{Instruction, Program, Stands}
use Rattle.regress_engine_runs.specs.States.{Marks}
use Rattle.regress_engine_runs.specs.Runs.{advance}
use Rattle.regress_engine_search.specs.Ready.{is_simple}
use Rattle.regress_engine_singles.specs.Failing.{IsDead}
use Rattle.regress_engine_singles.specs.Passed.{PassesOver}
use Rattle.regress_engine_leading.specs.declared.leading.Beginning.{Beginning}
use Rattle.regress_engine_leading.specs.declared.leading.Beginning.TheVariants.{Passed, At}

-- Where no match can be reached from an address on, nothing is from the first one.
abbrev pub BeginsAt : Program → View → (at : ℕ) → Type 0
BeginsAt program v at = (o : ℕ) → IsDead program (input_of v) Forward at o → IsDead program (input_of v) Forward 0 o

-- An instruction stands first that leads on and takes nothing from a place.
abbrev pub IsPassed : Program → Input → (start : ℕ) → Instruction → Type 0
IsPassed program input start i = Stands program 0 i × (is_simple i ≡ true) × ((groups : List Marks) → advance program input i Forward groups start ≡ Some start)

-- A run from a place is at an address, at the place: at the first one, or behind an instruction that takes nothing.
abbrev pub Comes : Program → Input → (start first : ℕ) → Type 0
Comes program input start first = (first ≡ 0) ⊎ ((first ≡ 1) × ((i : Instruction) × IsPassed program input start i))

-- No run has an answer up to an offset, or a run from the place comes to an address.
abbrev pub IsKnown : Program → View → (start : ℕ) → Beginning → Type 0
IsKnown program v start (Passed past) = PassesOver program v start past
IsKnown program v start (At first) = Comes program (input_of v) start first
