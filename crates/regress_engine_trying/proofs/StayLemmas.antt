-- Greedy one-character loops that may take nothing.
use Rattle.std.proofs.Common.{◌≡◌, ℕ, zero, suc, ◌+◌, ◌-◌, true, false, List, Option, Some, None, sym, ap, ◌∙◌, refl, subst, arith}
use Rattle.regress_meaning.specs.Meaning.{Direction, Forward, Backward}
use Rattle.regress_meaning.specs.Inputs.{Input}
use Rattle.regress_engine_input.specs.Views.{direction_of}
use Rattle.regress_engine_insn.specs.Instructions.{Instruction, Program, Stands, single_loop}
use Rattle.regress_engine_runs.specs.States.{Marks}
use Rattle.regress_engine_runs.specs.Runs.{advance, after_times, as_far, gap, successors}
use Rattle.regress_engine_runs.specs.UndoStack.{give_back}
use Rattle.regress_engine_search.specs.Tasks.{Leads}
use Rattle.regress_engine_search.proofs.TaskLemmas.{leads-then}
use Rattle.regress_engine_undo.specs.declared.undo.Spot.{Spot}
use Rattle.regress_engine_undo.specs.Held.{Held, pushed}
use Rattle.regress_engine_undo.specs.Tasks.{task_of, task, state_at}
use Rattle.regress_engine_undo.proofs.BackLemmas.{give_back-last}
use Rattle.regress_engine_undo.proofs.SingleLemmas.{repeat-greedy}

-- from an offset to itself there is no gap
pub no-gap : (dir : Direction) (near far : ℕ) → near ≡ far → gap dir near far ≡ 0
no-gap Forward near far same = omega (arith, same)
no-gap Backward near far same = omega (arith, same)

-- where an instruction takes nothing, it goes no further however often it may
pub takes-none : (program : Program) (input : Input) (i : Instruction) (dir : Direction) (groups : List Marks) (o most : ℕ)
    → None ≡ advance program input i dir groups o → o ≡ as_far program input most i dir groups o
unfolding as_far
takes-none program input i dir groups o zero none = refl
takes-none program input i dir groups o (suc n) none = ap (λ x. elim x [ None ↦ o | Some q ↦ as_far program input n i dir groups q ]) none

-- where no iteration is asked for, they end where they begin
no-times : (program : Program) (input : Input) (i : Instruction) (dir : Direction) (groups : List Marks) (o : ℕ) → after_times program input 0 i dir groups o ≡ Some o
unfolding after_times
no-times program input i dir groups o = refl

module _ (program : Program) (input : Input) (i : Instruction) (p : Spot) (h : Held) (here : Stands program (p.at + 1) i) (most far : ℕ)
    (goes : far ≡ as_far program input most i (direction_of p.forward) h.groups p.offset) where
  -- it has gone as far as it may, and what it took may be given back
  pub goes-far : Leads program input 0 (task_of program input (successors program input (single_loop 0 most true) (direction_of p.forward) (state_at p h)) p h)
      (task program input false p (pushed (give_back (p.at + 2) p.offset far) h))
  goes-far =
      let none : most ≡ most - 0 = omega arith in
      repeat-greedy program input i p h here 0 most true (pushed (give_back (p.at + 2) p.offset far) h) p.offset far refl (no-times program input i (direction_of p.forward) h.groups p.offset)
      (goes ∙ ap (λ n. as_far program input n i (direction_of p.forward) h.groups p.offset) none) refl

  -- where it took nothing, it goes on behind
  pub stays : p.offset ≡ far → Leads program input 0 (task_of program input (successors program input (single_loop 0 most true) (direction_of p.forward) (state_at p h)) p h)
      (task program input true (record p { at = p.at + 2; offset = far }) h)
  stays same = leads-then program input 0 0 goes-far (give_back-last program input p h (p.at + 2) p.offset far (no-gap (direction_of p.forward) p.offset far same))
