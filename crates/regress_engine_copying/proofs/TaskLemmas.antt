-- What each change of the stack leads to.
use Rattle.std.proofs.Common.{◌≡◌, Bool, true, false, List, [], ◌∷◌, ◌++◌, map, if◌then◌else◌, refl, sym, ap, ◌∙◌, subst}
use Rattle.regress_meaning.specs.Meaning.{Direction}
use Rattle.regress_meaning.specs.Inputs.{Input}
use Rattle.regress_front_nodes.specs.TreeMeaning.{submatch_direction}
use Rattle.regress_engine_input.specs.Views.{direction_of}
use Rattle.regress_engine_insn.specs.Instructions.{Instruction, Program, Stands}
use Rattle.regress_engine_insn.specs.Instructions as code
use Rattle.regress_engine_runs.specs.States.{Whole, onward}
use Rattle.regress_engine_runs.specs.Runs.{successors, is_plain}
use Rattle.regress_engine_runs.specs.UndoStack.{Work, outermost, inside, trying, first_do}
use Rattle.regress_engine_search.specs.Tasks.{Leads}
use Rattle.regress_engine_search.specs.Submatches.{submatch_of, is_negated, reads_forward}
use Rattle.regress_engine_search.proofs.SubmatchLemmas.{direction_of-submatch, after-none}
use Rattle.regress_engine_search.proofs.TaskLemmas.{leads-then, leads-first, leads-later, leads-plain, leads-inside, leads-exhausted}
use Rattle.regress_engine_copying.specs.declared.stack.Frame as stack
use Rattle.regress_engine_copying.specs.Held.{Entry, tried, submatched, Held, frame_of, pushed, put}
use Rattle.regress_engine_copying.specs.Tasks.{work_of, task_of}

-- one state before some others
first_do-one : (s : Whole) (ss : List Whole) (w : Work) → first_do (s ∷ []) (first_do ss w) ≡ first_do (s ∷ ss) w
first_do-one s ss (outermost ts) = refl
first_do-one s ss (inside ts f u rest) = refl
first_do-one s ss (trying ts t rest) = refl

first_do-none : (w : Work) → w ≡ first_do [] w
first_do-none (outermost ts) = refl
first_do-none (inside ts f u rest) = refl
first_do-none (trying ts t rest) = refl

-- states on top are done first
work-put : (ss : List Whole) (es : List Entry) → work_of (map tried ss ++ es) ≡ first_do ss (work_of es)
unfolding work_of
work-put [] es = first_do-none (work_of es)
work-put (s ∷ ss) es = ap (first_do (s ∷ [])) (work-put ss es) ∙ first_do-one s ss (work_of es)

module _ (program : Program) (input : Input) where
  -- states are put on top
  pub put-leads : (ss : List Whole) (h k : Held) → k ≡ put ss h → Leads program input 0 (task_of ss h) (task_of [] k)
  put-leads ss h k is =
      subst (λ x. Leads program input 0 (task_of ss h) (task_of [] x)) (sym is)
      (subst (λ (w : Work). Leads program input 0 (task_of ss h) (record { dir = direction_of h.forward; states = []; work = w })) (sym (work-put ss h.entries))
      (leads-later program input (direction_of h.forward) [] ss (work_of h.entries)))

  -- a plain instruction
  pub plain-leads : (i : Instruction) (s : Whole) (h k : Held) → Stands program s.at i → is_plain i ≡ true → k ≡ put (successors program input i (direction_of h.forward) s) h
      → Leads program input 1 (task_of (s ∷ []) h) (task_of [] k)
  plain-leads i s h k here plain is =
      leads-then program input 1 0 (leads-plain program input i (direction_of h.forward) s (work_of h.entries) here plain)
      (put-leads (successors program input i (direction_of h.forward) s) h k is)

  -- a lookaround or an atomic group begins
  pub submatch-leads : (f : stack.Frame) (s : Whole) (h k : Held) → Stands program s.at (code.submatch (submatch_of f.kind) f.first f.last f.continuation) → f.forward ≡ h.forward
      → k ≡ record { forward = reads_forward (submatch_of f.kind) f.forward; entries = tried (onward s) ∷ submatched (frame_of f s) s ∷ h.entries }
      → Leads program input 1 (task_of (s ∷ []) h) (task_of [] k)
  unfolding work_of
  submatch-leads f s h k here turned is =
      subst (λ x. Leads program input 1 (task_of (s ∷ []) h) (task_of [] x)) (sym is)
      (subst (λ d. Leads program input 1 (task_of (s ∷ []) h) (record { dir = d; states = []; work = first_do (onward s ∷ []) within })) (direction_of-submatch (submatch_of f.kind) f.forward)
      (subst (λ b. Leads program input 1 (record { dir = direction_of b; states = s ∷ []; work = work_of h.entries }) (record { dir = inner; states = []; work = first_do (onward s ∷ []) within })) turned
      (leads-then program input 1 0 (leads-inside program input s (work_of h.entries) (frame_of f s) here)
      (leads-later program input inner [] (onward s ∷ []) within))))
    where
      within : Work
      within = inside [] (frame_of f s) s (work_of h.entries)

      inner : Direction
      inner = submatch_direction (submatch_of f.kind) (direction_of f.forward)

  -- a state is taken off
  pub tried-leads : (s : Whole) (h : Held) → Leads program input 0 (task_of [] (pushed (tried s) h)) (task_of (s ∷ []) h)
  unfolding work_of
  tried-leads s h = leads-first program input (direction_of h.forward) [] (s ∷ []) (work_of h.entries)

  -- a lookaround or an atomic group whose contents have no answer
  exhausted-leads : (f : stack.Frame) (s : Whole) (h : Held) (b : Bool) → is_negated (submatch_of f.kind) ≡ b
      → Leads program input 0 (task_of [] (pushed (submatched (frame_of f s) s) h)) (task_of (if b then record s { at = f.continuation } ∷ [] else []) (record h { forward = f.forward }))
  unfolding work_of
  exhausted-leads f s h b e =
      subst (λ x. Leads program input 0 (task_of [] (pushed (submatched (frame_of f s) s) h)) (task_of (if x then record s { at = f.continuation } ∷ [] else []) (record h { forward = f.forward }))) e
      (subst (λ (ss : List Whole). Leads program input 0 (task_of [] (pushed (submatched (frame_of f s) s) h)) (task_of ss (record h { forward = f.forward }))) (after-none (submatch_of f.kind) f.first f.last f.continuation s)
      (leads-exhausted program input (direction_of h.forward) (frame_of f s) s (work_of h.entries)))

  pub negated-leads : (f : stack.Frame) (s : Whole) (h : Held) → is_negated (submatch_of f.kind) ≡ true
      → Leads program input 0 (task_of [] (pushed (submatched (frame_of f s) s) h)) (task_of (record s { at = f.continuation } ∷ []) (record h { forward = f.forward }))
  negated-leads f s h e = exhausted-leads f s h true e

  pub positive-leads : (f : stack.Frame) (s : Whole) (h : Held) → is_negated (submatch_of f.kind) ≡ false
      → Leads program input 0 (task_of [] (pushed (submatched (frame_of f s) s) h)) (task_of [] (record h { forward = f.forward }))
  positive-leads f s h e = exhausted-leads f s h false e
