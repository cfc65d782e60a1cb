-- What a step comes to.
use Rattle.std.specs.Prelude.{◌≡◌, [], ◌∷◌, Option, Some, None}
use Rattle.regress_meaning.specs.Inputs.{Input}
use Rattle.regress_engine_insn.specs.Instructions.{Program, Stands, goal}
use Rattle.regress_engine_runs.specs.States.{Whole}
use Rattle.regress_engine_runs.specs.UndoStack.{Frame}
use Rattle.regress_engine_search.specs.Tasks.{Leads, ComesAs, outside_of}
use Rattle.regress_engine_copying.specs.declared.stack.Frame as code
use Rattle.regress_engine_copying.specs.declared.state.State.{State}
use Rattle.regress_engine_copying.specs.StateOf.{state_of}
use Rattle.regress_engine_copying.specs.Held.{Held, frame_of}
use Rattle.regress_engine_copying.specs.Tasks.{work_of, task_of}

-- A step from a state: it has come to that state as the answer, or what waits is continued.
abbrev pub Steps : Program → Input → Whole → Held → Option Whole → Held → Type 0
Steps program input s h None k = Leads program input 1 (task_of (s ∷ []) h) (task_of [] k)
Steps program input s h (Some t) k = (t ≡ s) × ComesAs program input (task_of (s ∷ []) h) s

-- A goal is left: where nothing is around it the state there is the answer, else what is around it is left.
abbrev pub Leaves : Whole → Held → Option Whole → Held → Type 0
Leaves s h found k = (program : Program) (input : Input) → Stands program s.at goal → Steps program input s h found k

-- what waits is taken off down to the innermost lookaround or atomic group, if there is one
abbrev pub Unwinds : Held → Option (Frame × Whole) → Held → Type 0
Unwinds h None k = outside_of (work_of h.entries) ≡ None
Unwinds h (Some (f, s)) k = outside_of (work_of h.entries) ≡ Some (f, s, work_of k.entries)

-- a lookaround or an atomic group, and the state at it
abbrev pub submatch_at : code.Frame × State → Frame × Whole
submatch_at (f, s) = (frame_of f (state_of s), state_of s)
