-- What waits on the executor's stack, as the definitions have it.
use Rattle.std.specs.Prelude.{Bool, List, ◌∷◌, ◌++◌, map, reverse}
use Rattle.regress_engine_input.specs.Views.{direction_of}
use Rattle.regress_engine_runs.specs.States.{Whole}
use Rattle.regress_engine_runs.specs.UndoStack.{Frame}
use Rattle.regress_engine_search.specs.Submatches.{submatch_of}
use Rattle.regress_engine_copying.specs.declared.stack.Frame as code
use Rattle.regress_engine_copying.specs.declared.stack.Pending.{Pending}
use Rattle.regress_engine_copying.specs.declared.stack.Pending.TheVariants.{Tried, Submatch}
use Rattle.regress_engine_copying.specs.declared.stack.Stack.{Stack}
use Rattle.regress_engine_copying.specs.StateOf.{state_of}

-- What waits on a stack.
pub data Entry : Type 0 where
  -- a state to be tried
  tried : Whole → Entry
  -- a lookaround or an atomic group, and the state at it
  submatched : Frame → Whole → Entry

-- a lookaround or an atomic group at a state
abbrev pub frame_of : code.Frame → Whole → Frame
frame_of f s = record {
  kind = submatch_of f.kind;
  first = f.first;
  last = f.last;
  continuation = f.continuation;
  at = s.at;
  offset = s.offset;
  outside = direction_of f.forward;
}

-- what waits
abbrev pub entry_of : Pending → Entry
entry_of (Tried s) = tried (state_of s)
entry_of (Submatch f s) = submatched (frame_of f (state_of s)) (state_of s)

-- Whether the topmost states are read forward, and what waits, the topmost first.
pub record Held : Type 0 where
  pub forward : Bool
  pub entries : List Entry

-- what a stack holds
abbrev pub held : Stack → Held
held k = record { forward = k.forward; entries = map entry_of (reverse k.pending.items) }

-- one more on top
abbrev pub pushed : Entry → Held → Held
pushed e h = record h { entries = e ∷ h.entries }

-- some states on top, the first of them topmost
abbrev pub put : List Whole → Held → Held
put ss h = record h { entries = map tried ss ++ h.entries }
