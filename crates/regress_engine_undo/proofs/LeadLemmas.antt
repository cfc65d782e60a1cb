-- How one task leads to another.
use Rattle.std.specs.Prelude.{get_or, slice_set}
use Rattle.std.proofs.Common.{◌≡◌, ℕ, List, [], ◌∷◌, refl, sym, ap}
use Rattle.regress_meaning.specs.Meaning.{Direction}
use Rattle.regress_meaning.specs.Inputs.{Input}
use Rattle.regress_engine_input.specs.Views.{direction_of}
use Rattle.regress_engine_insn.specs.Instructions.{Program}
use Rattle.regress_engine_runs.specs.States.{Whole, Marks, unset}
use Rattle.regress_engine_runs.specs.UndoStack.{Undo, Work, old_loop, old_group, stands_for}
use Rattle.regress_engine_runs.proofs.UndoLemmas.{loop_recorded, group_recorded}
use Rattle.regress_engine_search.specs.Tasks.{Leads}
use Rattle.regress_engine_search.proofs.TaskLemmas.{leads-equal}
use Rattle.regress_engine_undo.specs.declared.undo.Spot.{Spot}
use Rattle.regress_engine_undo.specs.Held.{Held, recorded, loop_written, group_written}
use Rattle.regress_engine_undo.specs.Tasks.{task_of}

module _ (program : Program) (input : Input) where
  -- a recorded write changes nothing of what is to be done
  pub loop-kept : (dir : Direction) (stack : List Undo) (loops : List (ℕ × ℕ)) (groups : List Marks) (id : ℕ) (x : ℕ × ℕ)
      → stands_for program input dir (recorded (old_loop id (get_or loops id (0, 0))) stack) (slice_set loops id x) groups ≡ stands_for program input dir stack loops groups
  unfolding recorded stands_for
  loop-kept dir [] loops groups id x = refl
  loop-kept dir (u ∷ stack) loops groups id x = loop_recorded program input dir (u ∷ stack) loops groups id x

  pub group-kept : (dir : Direction) (stack : List Undo) (loops : List (ℕ × ℕ)) (groups : List Marks) (k : ℕ) (m : Marks)
      → stands_for program input dir (recorded (old_group k (get_or groups k unset)) stack) loops (slice_set groups k m) ≡ stands_for program input dir stack loops groups
  unfolding recorded stands_for
  group-kept dir [] loops groups k m = refl
  group-kept dir (u ∷ stack) loops groups k m = group_recorded program input dir (u ∷ stack) loops groups k m unset

  pub leads-loop : (states : List Whole) (p : Spot) (h : Held) (id : ℕ) (x : ℕ × ℕ)
      → Leads program input 0 (task_of program input states p h) (task_of program input states p (loop_written id x h))
  leads-loop states p h id x =
      leads-equal program input _ _ (ap (λ (w : Work). record { dir = direction_of p.forward; states = states; work = w }) (sym (loop-kept (direction_of p.forward) h.stack h.loops h.groups id x)))

  pub leads-group : (states : List Whole) (p : Spot) (h : Held) (k : ℕ) (m : Marks)
      → Leads program input 0 (task_of program input states p h) (task_of program input states p (group_written k m h))
  leads-group states p h k m =
      leads-equal program input _ _ (ap (λ (w : Work). record { dir = direction_of p.forward; states = states; work = w }) (sym (group-kept (direction_of p.forward) h.stack h.loops h.groups k m)))
