-- What is known of one-character loops.
use Rattle.std.specs.Prelude.{◌≡◌, ◌+◌, ◌⊎◌, ℕ, true}
use Rattle.regress_engine_insn.specs.Instructions.{Instruction, Program, Stands, goal}
use Rattle.regress_engine_input.specs.Views.{View}
use Rattle.regress_engine_runs.specs.Closed.{takes_character}
use Rattle.regress_engine_singles.specs.Sparing.{IsDeadBefore}

-- A loop at an address gives nothing back, read forward: no match can be reached from where a character was given back, or a goal stands behind it.
abbrev pub Spares : Program → View → (at : ℕ) → Type 0
Spares program v at = ((i : Instruction) → Stands program (at + 1) i → takes_character i ≡ true → IsDeadBefore program v i (at + 2)) ⊎ Stands program (at + 2) goal
