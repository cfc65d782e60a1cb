-- How a lookaround or an atomic group is left, and the whole program.
use Rattle.std.specs.Prelude.{◌≡◌, Bool, true, Option, Some, None, IfSome}
use Rattle.regress_meaning.specs.Meaning.{Direction}
use Rattle.regress_meaning.specs.Inputs.{Input}
use Rattle.regress_engine_input.specs.Views.{View}
use Rattle.regress_engine_insn.specs.Instructions.{Program, Stands, goal}
use Rattle.regress_engine_runs.specs.States.{Whole}
use Rattle.regress_engine_runs.specs.UndoStack.{Frame, Work, whole, stands_for}
use Rattle.regress_engine_search.specs.Tasks.{Leads, ComesAs, outside_of, HasGroups}
use Rattle.regress_engine_undo.specs.declared.undo.Spot.{Spot}
use Rattle.regress_engine_undo.specs.Held.{Held}
use Rattle.regress_engine_undo.specs.Sound.{IsHeld}
use Rattle.regress_engine_undo.specs.Tasks.{state_at, task}

-- the work that a stack stands for
abbrev pub work_of : Program → Input → Direction → Held → Work
work_of program input dir h = stands_for program input dir h.stack h.loops h.groups

-- what is outside of a lookaround or an atomic group with these loops and groups, and nothing where there is none
abbrev pub told_outside : Option Frame → Held → Program → Input → Option (Frame × Whole × Work)
told_outside None k program input = None
told_outside (Some f) k program input = Some (f, whole f.at f.offset k.loops k.groups, work_of program input f.outside k)

-- the same, but where there is none what is outside of the work that is left
abbrev pub left_outside : Option Frame → Held → Program → Input → Direction → Option (Frame × Whole × Work)
left_outside None k program input dir = outside_of (work_of program input dir k)
left_outside (Some f) k program input dir = told_outside (Some f) k program input

-- What is held is unwound to the innermost lookaround or atomic group, if there is one.
abbrev pub Unwinds : Held → Option Frame → Held → Type 0
Unwinds h found k = (program : Program) (input : Input) (dir : Direction) → outside_of (work_of program input dir h) ≡ told_outside found k program input

-- A record is put back: it is the lookaround or the atomic group outside of which is what was outside, or that is as it was.
abbrev pub PutsBack : Held → Option Frame → Held → Type 0
PutsBack h found k = (program : Program) (input : Input) (dir : Direction) → outside_of (work_of program input dir h) ≡ left_outside found k program input dir

-- the work that the stacks stand for is the same
abbrev pub IsSameWork : Held → Held → Type 0
IsSameWork h k = (program : Program) (input : Input) (dir : Direction) → work_of program input dir k ≡ work_of program input dir h

-- what is held stays sound, and the groups inside are there
abbrev pub StaysUnwound : Held → Option Frame → Held → Type 0
StaysUnwound h found k = (program : Program) (v : View) → IsHeld program v h → IsHeld program v k × IfSome found (HasGroups program)

-- what is to be done comes to the state at a spot as its answer
abbrev pub EndsAt : Spot → Held → Type 0
EndsAt p h = (program : Program) (input : Input) → Stands program p.at goal → ComesAs program input (task program input true p h) (state_at p h)

-- A goal is left: where nothing is around it the state there is the answer, else the run continues behind that, or has failed.
abbrev pub Leaves : Spot → Held → Option Bool → Spot → Held → Type 0
Leaves p h None q k = (q ≡ p) × (k.groups ≡ h.groups) × EndsAt p h
Leaves p h (Some going) q k = (program : Program) (input : Input) → Stands program p.at goal → Leads program input 1 (task program input true p h) (task program input going q k)

-- and what is held stays sound
abbrev pub LeavesSound : Held → Option Bool → Held → Type 0
LeavesSound h left k = (program : Program) (v : View) → IsHeld program v h → IfSome left (λ going. IsHeld program v k)
