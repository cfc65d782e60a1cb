-- What an executor remembers of failures.
use Rattle.std.specs.Prelude.{◌≡◌, ℕ, ◌-◌, ◌<◌, Bool, true, false, Option, Some, None, if◌then◌else◌, ◌⊎◌}
use Rattle.regress_engine_input.specs.Views.{direction_of, input_of}
use Rattle.regress_engine_insn.specs.Instructions.{Instruction, Stands}
use Rattle.regress_engine_runs.specs.Closed.{takes_character}
use Rattle.regress_engine_runs.specs.Runs.{as_far}
use Rattle.regress_engine_runs.specs.States.{Whole}
use Rattle.regress_engine_runs.specs.UndoStack.{Undo, give_back, take_on}
use Rattle.regress_engine_search.specs.Tasks.{IsTried, Leads}
use Rattle.regress_engine_undo.specs.declared.undo.Spot.{Spot}
use Rattle.regress_engine_undo.specs.Held.{Held, pushed}
use Rattle.regress_engine_undo.specs.Dead.{given_from}
use Rattle.regress_engine_undo.specs.Tasks.{task}
use Rattle.regress_engine_memory.specs.declared.failures.Failures.{Failures}
use Rattle.regress_engine_memory.specs.Deciding.{is_flow}
use Rattle.regress_engine_memory.specs.Held.{ExitsFailWith}
use Rattle.regress_engine_memory.specs.Planes.{AreKnown}
use Rattle.regress_engine_memory.specs.Needs.{are_needs}
use Rattle.regress_engine_memory.specs.Remembered.{keyed_of}
use Rattle.regress_engine_memory.specs.TableViews.{needs_of, table_of}
use Rattle.regress_engine_trying.specs.Trying.{World, advanced, GoesBack, Steps, Undoes}
use Rattle.regress_engine_trying.specs.declared.exit.Exit.{Exit}

-- Failures are a world's: their table passes its tests with its program, and all that is kept is known to fail in it.
pub record AreOf (w : World) (f : Failures) : Type 0 where
  pub tested : is_flow (table_of f.table) w.program ≡ true
  pub needed : are_needs (needs_of f.table) w.program ≡ true
  pub known : AreKnown w.program (input_of w.view) f

-- a run is tried, going on at a spot or back from it
abbrev pub IsUnderWay : World → (going : Bool) → Spot → Held → Type 0
IsUnderWay w going p h = (n : ℕ) × (r : Option Whole) × IsTried w.program w.view n r (task w.program (input_of w.view) going p h)

-- A state at a spot is dropped, since it surely fails; or it is tried, which may be recorded.
abbrev pub Drops : World → Spot → Held → Held → (dropped : Bool) → Type 0
Drops w p h k true = Leads w.program (input_of w.view) 1 (task w.program (input_of w.view) true p h) (task w.program (input_of w.view) false p k)
Drops w p h k false = Leads w.program (input_of w.view) 0 (task w.program (input_of w.view) true p h) (task w.program (input_of w.view) true p k)

-- A state at a spot is begun to be tried: it is dropped, or a one-character loop is done there; or its instruction is still to be
-- done, with the same loops and groups.
abbrev pub Begins : World → Spot → Held → Spot → Held → Option Bool → Type 0
Begins w p h q k None = (q ≡ p) × (k.loops ≡ h.loops) × (k.groups ≡ h.groups) × Drops w p h k false
Begins w p h q k (Some going) = Steps w p h q k (Some going)

-- A record is undone, or nothing is.
abbrev pub MayUndo : World → Undo → Spot → Held → Spot → Held → Option Bool → Type 0
MayUndo w u p h q k None = (q ≡ p) × (k ≡ h)
MayUndo w u p h q k (Some going) = Undoes w u p h q k going × (going ≡ false → k.stack ≡ h.stack)

-- ---- exits of one-character loops

-- what a one-character loop repeats that goes on at an address
abbrev pub IsBodyOf : World → (at : ℕ) → Instruction → Type 0
IsBodyOf w at i = Stands w.program (at - 1) i × (takes_character i ≡ true) × (0 < at)

-- no exit follows one, behind one more iteration, or it is known that all that follow fail
abbrev pub RestFails : World → Failures → Instruction → Spot → Held → Type 0
RestFails w f i s h = (advanced w i s.forward h.groups s.offset ≡ None)
    ⊎ ((q : ℕ) × (advanced w i s.forward h.groups s.offset ≡ Some q) × ExitsFailWith w.program (input_of w.view) (keyed_of (table_of f.table)) (record s { offset = q }) h.loops)

-- what is held, with the record of an exit, if it may lead on
abbrev pub taken_up : (at : ℕ) → Exit → Held → Held
taken_up at e h = if e.may_go then pushed (take_on at e.offset e.left) h else h

-- What is taken on from one offset leads to what is taken on from another, or to nothing, with what is held.
abbrev pub TakesUp : World → (forward : Bool) → (at offset left : ℕ) → Exit → Held → Type 0
TakesUp w forward at offset left e h = (p : Spot) → p.forward ≡ forward → GoesBack w p (pushed (take_on at offset left) h) p (taken_up at e h) false

-- What is given back from as far as a loop goes leads to what is given back from another offset, or to nothing, with what is held.
abbrev pub GivesUpTo : World → (forward : Bool) → (at near left : ℕ) → Option ℕ → Held → Type 0
GivesUpTo w forward at near left found h = (i : Instruction) → Stands w.program (at - 1) i → (p : Spot) → p.forward ≡ forward
    → GoesBack w p (pushed (give_back at near (as_far w.program (input_of w.view) left i (direction_of forward) h.groups near)) h) p (given_from at near found h) false
