-- The exits of a loop of a class, and that no match can be reached from them.
use Rattle.std.specs.Prelude.{◌≡◌, ℕ, ◌+◌, true, List, All, Some}
use Rattle.regress_meaning.specs.Meaning.{Forward}
use Rattle.regress_engine_input.specs.Views.{View, input_of}
use Rattle.regress_engine_insn.specs.Instructions.{Instruction, Program, Stands}
use Rattle.regress_engine_insn.specs.Instructions as code
use Rattle.regress_engine_runs.specs.States.{Marks}
use Rattle.regress_engine_runs.specs.Runs.{as_far, one_by_one}
use Rattle.regress_engine_analysis.specs.Planned.{is_class}
use Rattle.regress_engine_singles.specs.Failing.{IsDead, TakesNothing}

-- From an address on one character is taken, and then another address is come to: where from there no match can be reached
-- behind the character ahead, none can from the first one before it.
abbrev pub TakesFirst : Program → View → (at next : ℕ) → Type 0
TakesFirst program v at next = (o c q : ℕ) → (input_of v).next Forward o ≡ Some (c, q) → IsDead program (input_of v) Forward next q → IsDead program (input_of v) Forward at o

-- A greedy loop of a class stands at an address.
pub record IsLoop (program : Program) (at most : ℕ) (j : Instruction) : Type 0 where
  pub here : Stands program at (code.single_loop 0 most true)
  pub body : Stands program (at + 1) j
  pub class : is_class j ≡ true

-- a class takes nothing from an offset
abbrev pub Stops : Program → View → Instruction → (far : ℕ) → Type 0
Stops program v class far = TakesNothing program (input_of v) Forward class far

-- with at most so many characters it comes from one offset to another
abbrev pub ComesTo : Program → View → Instruction → (most near far : ℕ) → Type 0
ComesTo program v class most near far = (groups : List Marks) → as_far program (input_of v) most class Forward groups near ≡ far

-- So it does, and from none of the exits of the loop at an address, whose class it is, a match can be reached.
abbrev pub Ends : Program → View → (at : ℕ) → Instruction → (far most near : ℕ) → Type 0
Ends program v at class far most near = (groups : List Marks) →
    (as_far program (input_of v) most class Forward groups near ≡ far) × All (IsDead program (input_of v) Forward (at + 2)) (one_by_one program (input_of v) most class Forward groups near)

-- At an address a greedy loop of a class stands. From one offset on it stops at another, and from none of its exits a match can be reached.
pub record IsDeadEnd (program : Program) (v : View) (at near far : ℕ) : Type 0 where
  pub most : ℕ
  pub class : Instruction
  pub loop : IsLoop program at most class
  pub stops : Stops program v class far
  pub ends : Ends program v at class far most near
