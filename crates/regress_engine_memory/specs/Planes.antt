-- Which keys are known to fail, by what is kept.
use Rattle.std.specs.Prelude.{◌≡◌, ℕ, ◌-◌, Bool, true, false, List, Some, slice_get}
use Rattle.regress_meaning.specs.Inputs.{Input}
use Rattle.regress_engine_input.specs.Views.{direction_of}
use Rattle.regress_engine_insn.specs.Instructions.{Instruction, Program, Stands}
use Rattle.regress_engine_undo.specs.declared.undo.Spot.{Spot}
use Rattle.regress_engine_memory.specs.BitViews.{has}
use Rattle.regress_engine_memory.specs.Deciding.{Table, flow_of, live_at}
use Rattle.regress_engine_memory.specs.Keys.{AreFresh, Keyed, Key, FailsWhere, ExitsFail}
use Rattle.regress_engine_memory.specs.Remembered.{HaveClasses, class_in, keyed_of}
use Rattle.regress_engine_memory.specs.TableViews.{table_of}
use Rattle.regress_engine_memory.specs.declared.failures.Failures.{Failures}
use Rattle.regress_engine_memory.specs.declared.failures.Plane.{Plane}

-- the key of a plane and an offset
abbrev pub key_in : Table → Plane → ℕ → Key
key_in t p o = record { dir = direction_of p.forward; at = p.at; offset = o; classes = class_in (live_at t p.at) p.classes.items }

-- from a key no run has an answer where some loops are fresh; or, if that is told, none at all, nor behind further iterations of the
-- instruction before its address
abbrev pub FailsAsTold : Program → Input → Keyed → (further : Bool) → (fresh : List ℕ) → Key → Type 0
FailsAsTold program input keyed false fresh k = FailsWhere program input keyed fresh k
FailsAsTold program input keyed true fresh k = (i : Instruction) → Stands program (k.at - 1) i → ExitsFail program input keyed i k

-- what a set bit of a plane tells
abbrev pub FailsIn : Program → Input → Table → Plane → ℕ → Type 0
FailsIn program input t p o = FailsAsTold program input (keyed_of t) p.further p.fresh.items (key_in t p o)

-- what each set bit of some planes tells
abbrev pub KnownIn : Program → Input → Table → List Plane → Type 0
KnownIn program input t planes = (k o : ℕ) (p : Plane) → slice_get planes k ≡ Some p → has p.offsets o ≡ true → FailsIn program input t p o

-- the same of all planes that are kept
abbrev pub AreKnown : Program → Input → Failures → Type 0
AreKnown program input f = KnownIn program input (table_of f.table) f.planes.items

-- a plane is that of a spot and of the loops that are held
abbrev pub IsPlaneOf : Table → Spot → (further : Bool) → List (ℕ × ℕ) → Plane → Type 0
IsPlaneOf t s further loops p = (p.at ≡ s.at) × (p.forward ≡ s.forward) × HaveClasses t s.at p.classes.items loops × (p.further ≡ further)
    × AreFresh (flow_of t) s.offset p.fresh.items loops
