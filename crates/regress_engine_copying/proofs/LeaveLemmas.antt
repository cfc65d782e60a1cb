-- A goal is left.
use Rattle.std.proofs.Common.{◌≡◌, true, false, List, [], ◌∷◌, Some, None, refl, ap, ◌∙◌, subst}
use Rattle.regress_meaning.specs.Inputs.{Input}
use Rattle.regress_engine_input.specs.Views.{direction_of}
use Rattle.regress_engine_insn.specs.Instructions.{Program, Stands, goal}
use Rattle.regress_engine_runs.specs.States.{Whole, mixed}
use Rattle.regress_engine_runs.specs.Runs.{after_submatch}
use Rattle.regress_engine_runs.specs.UndoStack.{Frame}
use Rattle.regress_engine_search.specs.Tasks.{Leads, ComesAs, outside_of}
use Rattle.regress_engine_search.proofs.TaskLemmas.{leads-then, leads-found, ends-outermost, outside-first}
use Rattle.regress_engine_search.specs.Submatches.{submatch_of, is_negated, end_offset}
use Rattle.regress_engine_search.proofs.SubmatchLemmas.{after-negated, after-some}
use Rattle.regress_engine_copying.specs.declared.stack.Frame as stack
use Rattle.regress_engine_copying.specs.Held.{tried, submatched, Held, frame_of, pushed, put}
use Rattle.regress_engine_copying.specs.Tasks.{work_of, task_of}
use Rattle.regress_engine_copying.specs.Stepping.{Unwinds}
use Rattle.regress_engine_copying.proofs.TaskLemmas.{put-leads}

-- a state that waits changes nothing outside
pub tried-outside : (s : Whole) (h : Held) → outside_of (work_of (pushed (tried s) h).entries) ≡ outside_of (work_of h.entries)
unfolding work_of
tried-outside s h = outside-first (s ∷ []) (work_of h.entries)

-- a lookaround and an atomic group have the work below them outside
pub submatch-outside : (f : Frame) (s : Whole) (h : Held) → outside_of (work_of (pushed (submatched f s) h).entries) ≡ Some (f, s, work_of h.entries)
unfolding work_of
submatch-outside f s h = refl

-- with nothing waiting nothing is outside
pub none-outside : (h : Held) → h.entries ≡ [] → outside_of (work_of h.entries) ≡ None
unfolding work_of
none-outside h none = ap (λ es. outside_of (work_of es)) none

module _ (program : Program) (input : Input) (t : Whole) (h : Held) (here : Stands program t.at goal) where
  -- the whole program is left
  pub leaves-all : (k : Held) → Unwinds h None k → ComesAs program input (task_of (t ∷ []) h) t
  leaves-all k unwinds n r come = ends-outermost program input (direction_of h.forward) t (work_of h.entries) unwinds here n r come

  -- a lookaround or an atomic group is left
  leaves-found : (f : stack.Frame) (s : Whole) (k : Held) (ss : List Whole) → Unwinds h (Some (frame_of f s, s)) k
      → after_submatch (submatch_of f.kind) f.first f.last f.continuation s (Some t) ≡ ss
      → Leads program input 1 (task_of (t ∷ []) h) (task_of ss (record k { forward = f.forward }))
  leaves-found f s k ss unwinds e =
      subst (λ x. Leads program input 1 (task_of (t ∷ []) h) (task_of x (record k { forward = f.forward }))) e
      (leads-found program input (direction_of h.forward) t (work_of h.entries) (frame_of f s, s, work_of k.entries) unwinds here)

  -- a negated one fails
  pub leaves-negated : (f : stack.Frame) (s : Whole) (k : Held) → Unwinds h (Some (frame_of f s, s)) k → is_negated (submatch_of f.kind) ≡ true
      → Leads program input 1 (task_of (t ∷ []) h) (task_of [] (record k { forward = f.forward }))
  leaves-negated f s k unwinds e = leaves-found f s k [] unwinds (after-negated (submatch_of f.kind) f.first f.last f.continuation s t e)

  -- another one takes the groups on
  pub leaves-positive : (f : stack.Frame) (s u : Whole) (k l : Held) → Unwinds h (Some (frame_of f s, s)) k → is_negated (submatch_of f.kind) ≡ false
      → u ≡ record s { at = f.continuation; offset = end_offset (submatch_of f.kind) s.offset t.offset; groups = mixed 0 f.first f.last t.groups s.groups }
      → l ≡ put (u ∷ []) (record k { forward = f.forward }) → Leads program input 1 (task_of (t ∷ []) h) (task_of [] l)
  leaves-positive f s u k l unwinds e is pushes =
      let v : Whole = record s { at = f.continuation; offset = end_offset (submatch_of f.kind) s.offset t.offset; groups = mixed 0 f.first f.last t.groups s.groups } in
      leads-then program input 1 0 (leaves-found f s k (v ∷ []) unwinds (after-some (submatch_of f.kind) f.first f.last f.continuation s t e))
      (put-leads program input (v ∷ []) (record k { forward = f.forward }) l (pushes ∙ ap (λ x. put (x ∷ []) (record k { forward = f.forward })) is))
