-- What the executor holds, as the definitions have it.
use Rattle.std.specs.Prelude.{ℕ, List, [], ◌∷◌, map, reverse, get_or, slice_set}
use Rattle.regress_engine_input.specs.Views.{direction_of}
use Rattle.regress_engine_runs.specs.States.{Marks, unset}
use Rattle.regress_engine_runs.specs.UndoStack.{Undo, Frame}
use Rattle.regress_engine_runs.specs.UndoStack as stack
use Rattle.regress_engine_search.specs.StateViews.{loop_of, marks_of}
use Rattle.regress_engine_search.specs.Submatches.{submatch_of}
use Rattle.regress_engine_undo.specs.declared.undo.Undo as code
use Rattle.regress_engine_undo.specs.declared.undo.Undo.TheVariants.{OldLoop, OldGroup, Resume, Iterate, GiveBack, TakeOn, Tried}
use Rattle.regress_engine_undo.specs.declared.undo.Undo.TheVariants as variant
use Rattle.regress_engine_undo.specs.declared.undo.Frame as inner
use Rattle.regress_engine_undo.specs.declared.memory.Memory.{Memory}

-- a lookaround or an atomic group
abbrev pub frame_of : inner.Frame → Frame
frame_of f = record {
  kind = submatch_of f.kind;
  first = f.first;
  last = f.last;
  continuation = f.continuation;
  at = f.spot.at;
  offset = f.spot.offset;
  outside = direction_of f.spot.forward;
}

-- a record
abbrev pub undo_of : code.Undo → Undo
undo_of (OldLoop id d) = stack.old_loop id (loop_of d)
undo_of (OldGroup k g) = stack.old_group k (marks_of g)
undo_of (Resume at offset) = stack.resume at offset
undo_of (Iterate id begin offset) = stack.iterate id begin offset
undo_of (GiveBack at near far) = stack.give_back at near far
undo_of (TakeOn at offset left) = stack.take_on at offset left
undo_of (variant.Submatch f) = stack.frame (frame_of f)
undo_of (Tried at offset) = stack.tried at offset

-- The records, the last one first, the loops and the groups.
pub record Held : Type 0 where
  pub stack : List Undo
  pub loops : List (ℕ × ℕ)
  pub groups : List Marks

-- what a memory holds
abbrev pub held : Memory → Held
held m = record {
  stack = map undo_of (reverse m.stack.items);
  loops = map loop_of m.loops.items;
  groups = map marks_of m.groups.items;
}

-- one more record
abbrev pub pushed : Undo → Held → Held
pushed u h = record h { stack = u ∷ h.stack }

-- A record is put on records, but on none: where there is nothing to go back to, nothing has to be undone.
unfoldable pub recorded : Undo → List Undo → List Undo
recorded u [] = []
recorded u (v ∷ stack) = u ∷ v ∷ stack

-- the data of a loop are recorded
abbrev pub loop_recorded : ℕ → Held → Held
loop_recorded id h = record h { stack = recorded (stack.old_loop id (get_or h.loops id (0, 0))) h.stack }

-- the marks of a group are recorded
abbrev pub group_recorded : ℕ → Held → Held
group_recorded k h = record h { stack = recorded (stack.old_group k (get_or h.groups k unset)) h.stack }

-- a loop's data are written, and the old ones recorded
abbrev pub loop_written : ℕ → ℕ × ℕ → Held → Held
loop_written id x h = record h { stack = recorded (stack.old_loop id (get_or h.loops id (0, 0))) h.stack; loops = slice_set h.loops id x }

-- a group's marks are written, and the old ones recorded
abbrev pub group_written : ℕ → Marks → Held → Held
group_written k m h = record h { stack = recorded (stack.old_group k (get_or h.groups k unset)) h.stack; groups = slice_set h.groups k m }
