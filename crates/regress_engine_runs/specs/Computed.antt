-- Runs, computed.
use Rattle.std.specs.Prelude.{◌≡◌, ℕ, zero, suc, ◌+◌, ◌<◌, List, [], ◌∷◌, ◌++◌, Option, Some, None, slice_get, option_map, option_and_then}
use Rattle.regress_meaning.specs.Meaning.{Direction}
use Rattle.regress_meaning.specs.Inputs.{Input}
use Rattle.regress_front_nodes.specs.TreeMeaning.{submatch_direction}
use Rattle.regress_engine_insn.specs.Instructions.{Instruction, Program}
use Rattle.regress_engine_insn.specs.Instructions as code
use Rattle.regress_engine_runs.specs.States.{Whole, onward}
use Rattle.regress_engine_runs.specs.Runs.{after_submatch, successors}

module _ (program : Program) (input : Input) where
  -- what a computed run gives: how many steps it takes, and its answer
  abbrev pub Counted : Type 0
  Counted = Option (ℕ × Option Whole)

  -- the same after so many steps
  abbrev pub more_steps : ℕ → Counted → Counted
  more_steps n o = option_map (λ x. (n + x.0, x.1)) o

  -- a run at the instruction of its first state, by a function that goes on with it
  abbrev pub run_at : (Direction → List Whole → Counted) → Direction → Whole → List Whole → Option Instruction → Counted
  run_at go dir s ss None = None
  run_at go dir s ss (Some code.goal) = Some (1, Some s)
  run_at go dir s ss (Some (code.submatch kind first last continuation)) =
      option_and_then (λ x. more_steps (suc x.0) (go dir (after_submatch kind first last continuation s x.1 ++ ss))) (go (submatch_direction kind dir) (onward s ∷ []))
  run_at go dir s ss (Some i) = more_steps 1 (go dir (successors program input i dir s ++ ss))

  -- A run over states, where it takes fewer steps than the number.
  unfoldable pub run : ℕ → Direction → List Whole → Counted
  run zero dir ss = None
  run (suc n) dir [] = Some (0, None)
  run (suc n) dir (s ∷ ss) = run_at (run n) dir s ss (slice_get program.instructions s.at)

  -- A run over states is computed, with every number past its steps.
  abbrev pub IsComputed : Direction → List Whole → Type 0
  IsComputed dir ss = (x : ℕ × Option Whole) × ((f : ℕ) → x.0 < f → run f dir ss ≡ Some x)
