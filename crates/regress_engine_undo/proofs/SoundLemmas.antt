-- What is held stays sound.
use Rattle.std.specs.Prelude.{get_or, slice_set}
use Rattle.std.proofs.Common.{ℕ, ◌<◌, List, [], ◌∷◌, sym, ◌∙◌, subst}
use Rattle.std.proofs.lemmas.List.{set-set, set-get_or, length-set}
use Rattle.regress_engine_input.specs.Views.{View}
use Rattle.regress_engine_insn.specs.Instructions.{Program}
use Rattle.regress_engine_runs.specs.States.{Marks, unset}
use Rattle.regress_engine_runs.specs.UndoStack.{Undo, old_loop, old_group}
use Rattle.regress_engine_runs.proofs.UndoLemmas.{loop_undone}
use Rattle.regress_engine_undo.specs.Held.{Held, recorded, loop_written, group_written}
use Rattle.regress_engine_undo.specs.Sound.{IsSound, IsHeld}

module _ (program : Program) (v : View) where
  loop-stays : (stack : List Undo) (loops : List (ℕ × ℕ)) (groups : List Marks) (id : ℕ) (x : ℕ × ℕ) → IsSound program v stack loops groups → id < program.loops
      → IsSound program v (recorded (old_loop id (get_or loops id (0, 0))) stack) (slice_set loops id x) groups
  unfolding IsSound recorded
  loop-stays [] loops groups id x sound there = tt
  loop-stays (u ∷ stack) loops groups id x sound there = (there, subst (λ ls. IsSound program v (u ∷ stack) ls groups) (sym (loop_undone loops id x)) sound)

  group-stays : (stack : List Undo) (loops : List (ℕ × ℕ)) (groups : List Marks) (k : ℕ) (m : Marks) → IsSound program v stack loops groups → k < program.groups
      → IsSound program v (recorded (old_group k (get_or groups k unset)) stack) loops (slice_set groups k m)
  unfolding IsSound recorded
  group-stays [] loops groups k m sound there = tt
  group-stays (u ∷ stack) loops groups k m sound there =
      (there, subst (IsSound program v (u ∷ stack) loops) (sym (set-set groups k m (get_or groups k unset) ∙ set-get_or groups k unset)) sound)

  pub held-loop : (h : Held) (id : ℕ) (x : ℕ × ℕ) → IsHeld program v h → id < program.loops → IsHeld program v (loop_written id x h)
  held-loop h id x held there = record { loops = length-set h.loops id x ∙ held.loops; groups = held.groups; sound = loop-stays h.stack h.loops h.groups id x held.sound there }

  pub held-group : (h : Held) (k : ℕ) (m : Marks) → IsHeld program v h → k < program.groups → IsHeld program v (group_written k m h)
  held-group h k m held there = record { loops = held.loops; groups = length-set h.groups k m ∙ held.groups; sound = group-stays h.stack h.loops h.groups k m held.sound there }
