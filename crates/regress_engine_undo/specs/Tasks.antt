-- What the executor has still to do.
use Rattle.std.specs.Prelude.{◌≡◌, ℕ, Bool, true, List, [], ◌∷◌, if◌then◌else◌, slice_set}
use Rattle.regress_meaning.specs.Inputs.{Input}
use Rattle.regress_engine_insn.specs.Instructions.{LoopFields, Program}
use Rattle.regress_engine_runs.specs.States.{Whole, Marks, onward}
use Rattle.regress_engine_runs.specs.Runs.{choices, is_idle}
use Rattle.regress_engine_runs.specs.UndoStack.{whole, stands_for}
use Rattle.regress_engine_input.specs.Views.{View, direction_of}
use Rattle.regress_engine_search.specs.Tasks.{Task, Leads}
use Rattle.regress_engine_singles.specs.Failing.{IsDead}
use Rattle.regress_engine_undo.specs.Held.{Held}
use Rattle.regress_engine_undo.specs.Sound.{IsHeld}
use Rattle.regress_engine_undo.specs.declared.undo.Spot.{Spot}

-- the state at a spot
abbrev pub state_at : Spot → Held → Whole
state_at p h = whole p.at p.offset h.loops h.groups

module _ (program : Program) (input : Input) where
  -- what is to be done with some states first
  abbrev pub task_of : List Whole → Spot → Held → Task
  task_of states p h = record { dir = direction_of p.forward; states = states; work = stands_for program input (direction_of p.forward) h.stack h.loops h.groups }

  -- what is to be done at a spot, or where the state there has failed
  abbrev pub task : (going : Bool) → Spot → Held → Task
  task going p h = task_of (if going then state_at p h ∷ [] else []) p h

-- It continues to a spot, or failed, from these states on, whatever the program and the text.
abbrev pub GoesOn : List Whole → Spot → Held → (going : Bool) → Spot → Held → Type 0
GoesOn states p h going q k = (program : Program) (input : Input) → Leads program input 0 (task_of program input states p h) (task program input going q k)

-- It continues, if no match can be reached from an address at the offset of the spot.
abbrev pub GoesOnPast : (exit : ℕ) → List Whole → Spot → Held → (going : Bool) → Spot → Held → Type 0
GoesOnPast exit states p h going q k = (program : Program) (input : Input) → IsDead program input (direction_of p.forward) exit p.offset
    → Leads program input 0 (task_of program input states p h) (task program input going q k)

-- the states of two ways: at the next address, and at another
abbrev pub two_ways : (target : ℕ) → Whole → List Whole
two_ways target s = onward s ∷ record s { at = target } ∷ []

-- the state at the next address, where a group has these marks
abbrev pub with_marks : (group : ℕ) → Marks → Whole → List Whole
with_marks group m s = onward (record s { groups = slice_set s.groups group m }) ∷ []

-- the states to which the beginning of a repetition leads, of which so many iterations are taken as done
abbrev pub ways_in : (done : ℕ) → LoopFields → Whole → List Whole
ways_in done f s = choices f s.at (record s { loops = slice_set s.loops f.loop_id (done, s.offset) })

-- the states to which the end of an iteration leads, of a repetition that begins at an address
abbrev pub ways_again : (begin : ℕ) → LoopFields → Whole → List Whole
ways_again begin f s = if is_idle f s then [] else choices f begin s

-- It continues to a spot, or failed, from what follows the state at another.
abbrev pub GoesTo : (Whole → List Whole) → Spot → Held → (going : Bool) → Spot → Held → Type 0
GoesTo next p h going q k = GoesOn (next (state_at p h)) p h going q k

-- A repetition that begins at an address continues as it may, if no match can be reached from behind it.
abbrev pub RepeatsPast : LoopFields → (begin : ℕ) → Spot → Held → (going : Bool) → Spot → Held → Type 0
RepeatsPast f begin p h going q k = GoesOnPast f.exit (choices f begin (state_at p h)) p h going q k

-- A repetition continues from what follows the state at a spot, where it may be told that no match can be reached from behind it.
abbrev pub RepeatsIf : (dead : Bool) → (f : LoopFields) → (LoopFields → Whole → List Whole) → Spot → Held → (going : Bool) → Spot → Held → Type 0
RepeatsIf dead f next p h going q k = (program : Program) (input : Input) → (dead ≡ true → IsDead program input (direction_of p.forward) f.exit p.offset)
    → Leads program input 0 (task_of program input (next f (state_at p h)) p h) (task program input going q k)

-- what is held stays sound
abbrev pub StaysSound : Held → Held → Type 0
StaysSound h k = (program : Program) (v : View) → IsHeld program v h → IsHeld program v k
