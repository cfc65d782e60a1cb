-- What an executor has still to do, and that a step leads on to what comes to the same.
use Rattle.std.specs.Prelude.{◌≡◌, ℕ, ◌+◌, ◌≤◌, ◌<◌, List, Option, Some, None}
use Rattle.regress_meaning.specs.Meaning.{Direction}
use Rattle.regress_meaning.specs.Offsets.{Reading}
use Rattle.regress_meaning.specs.Inputs.{Input}
use Rattle.regress_engine_input.specs.Views.{View, input_of, reading_of}
use Rattle.regress_engine_insn.specs.Instructions.{Program}
use Rattle.regress_engine_runs.specs.States.{Whole}
use Rattle.regress_engine_runs.specs.UndoStack.{Frame, Work, outermost, inside, trying, Comes, ReadOn, steps_left}

-- Some states that are read in a direction, and then the work.
pub record Task : Type 0 where
  pub dir : Direction
  pub states : List Whole
  pub work : Work

-- the lookaround or atomic group inside of which work is to be done, the state at it, and the work outside: a state that is
-- tried on the way there is passed over
abbrev pub outside_of : Work → Option (Frame × Whole × Work)
outside_of (outermost ts) = None
outside_of (inside ts f s rest) = Some (f, s, rest)
outside_of (trying ts t rest) = outside_of rest

-- the groups inside a lookaround or an atomic group are there
abbrev pub HasGroups : Program → Frame → Type 0
HasGroups program f = (k : ℕ) → f.first ≤ k → k < f.last → k < program.groups

module _ (program : Program) (input : Input) where
  -- A task leads to another: that comes to the same answers, in at least so many fewer steps, and reads at places where this
  -- one does.
  pub record Leads (steps : ℕ) (t u : Task) : Type 0 where
    pub comes : (n : ℕ) (r : Option Whole) → Comes program input t.dir t.states t.work n r
        → (m : ℕ) × (m + steps ≤ n) × Comes program input u.dir u.states u.work m r
    pub reads : (reading : Reading) → ReadOn program input reading t.dir t.states t.work → ReadOn program input reading u.dir u.states u.work

  -- a task comes to a state as its answer, whatever else is to be done
  abbrev pub ComesAs : Task → Whole → Type 0
  ComesAs t s = (n : ℕ) (r : Option Whole) → Comes program input t.dir t.states t.work n r → r ≡ Some s

  -- the number of steps of a task that are left, computed, where it is less than the first number
  abbrev pub left_of : ℕ → Task → ℕ
  left_of n t = steps_left program input n t.dir t.states t.work

-- A run is tried, of so many steps and with this answer: what is to be done comes to it, in no more steps, and reads at places.
pub record IsTried (program : Program) (v : View) (n : ℕ) (r : Option Whole) (t : Task) : Type 0 where
  pub comes : (m : ℕ) × (m ≤ n) × Comes program (input_of v) t.dir t.states t.work m r
  pub reads : ReadOn program (input_of v) (reading_of v) t.dir t.states t.work
