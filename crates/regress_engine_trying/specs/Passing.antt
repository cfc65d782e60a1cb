-- Places that are passed over at once, and how many steps more are counted for them.
use Rattle.std.specs.Prelude.{◌≡◌, ℕ, ◌+◌, ◌*◌, ◌/◌, ◌≤◌, Bool, false, length, Option, Some, None, if◌then◌else◌, ◌⊎◌}
use Rattle.regress_meaning.specs.Inputs.{Input}
use Rattle.regress_engine_input.specs.Views.{View, input_of}
use Rattle.regress_engine_insn.specs.Instructions.{Program}
use Rattle.regress_engine_runs.specs.UndoStack.{Undo, take_on}
use Rattle.regress_engine_search.specs.Tasks.{Leads}
use Rattle.regress_engine_undo.specs.declared.undo.Spot.{Spot}
use Rattle.regress_engine_undo.specs.Held.{Held, pushed}
use Rattle.regress_engine_undo.specs.Dead.{taken_from}
use Rattle.regress_engine_undo.specs.Tasks.{task}
use Rattle.regress_engine_trying.specs.declared.exit.Exit.{Exit}
use Rattle.regress_engine_trying.specs.Remembering.{taken_up}
use Rattle.regress_engine_trying.specs.Trying.{World}

-- in so many steps of a run, at most so many more are counted: one for each 64 units of the text in each of them
abbrev pub Passes : View → (steps before after : ℕ) → Type 0
Passes v steps before after = after ≤ before + steps * (length v.units / 64)

-- the same in a step, if one was taken
abbrev pub PassesIf : View → Option Bool → (before after : ℕ) → Type 0
PassesIf v None before after = after ≤ before
PassesIf v (Some going) before after = Passes v 1 before after

-- the exit that may lead on, if one may
abbrev pub found_at : Exit → Option (ℕ × ℕ)
found_at e = if e.may_go then Some (e.offset, e.left) else None

-- What is taken on from one offset leads to what is taken on from another, or to nothing, in a step at least.
abbrev pub TakesOver : Program → Input → (forward : Bool) → (at offset left : ℕ) → Option (ℕ × ℕ) → Type 0
TakesOver program input forward at offset left found = (p : Spot) (h : Held) → p.forward ≡ forward
    → Leads program input 1 (task program input false p (pushed (take_on at offset left) h)) (task program input false p (taken_from at found h))

-- the same with what is held
abbrev pub TakesUpMore : World → (forward : Bool) → (at offset left : ℕ) → Exit → Held → Type 0
TakesUpMore w forward at offset left e h = (p : Spot) → p.forward ≡ forward
    → Leads w.program (input_of w.view) 1 (task w.program (input_of w.view) false p (pushed (take_on at offset left) h)) (task w.program (input_of w.view) false p (taken_up at e h))

-- A record is undone in a step at least.
abbrev pub UndoesOver : World → Undo → Spot → Held → Spot → Held → (going : Bool) → Type 0
UndoesOver w u p h q k going = Leads w.program (input_of w.view) 1 (task w.program (input_of w.view) false p (pushed u h)) (task w.program (input_of w.view) going q k)

-- A record is undone: nothing more is counted, or that of a step, in a step at least.
abbrev pub UndoesMore : World → Undo → Spot → Held → Spot → Held → (going : Bool) → (before after : ℕ) → Type 0
UndoesMore w u p h q k going before after = (after ≤ before) ⊎ (Passes w.view 1 before after × UndoesOver w u p h q k going)

-- the same, if it is undone
abbrev pub MayUndoMore : World → Undo → Spot → Held → Spot → Held → (before after : ℕ) → Option Bool → Type 0
MayUndoMore w u p h q k before after None = after ≤ before
MayUndoMore w u p h q k before after (Some going) = UndoesMore w u p h q k going before after

-- Where a spot has failed it goes back, and no more is counted than for the steps of that.
abbrev pub GoesBackMore : World → Spot → Held → Spot → Held → (going : Bool) → (before after : ℕ) → Type 0
GoesBackMore w p h q k going before after = (n : ℕ) × Passes w.view n before after
    × Leads w.program (input_of w.view) n (task w.program (input_of w.view) false p h) (task w.program (input_of w.view) going q k)
