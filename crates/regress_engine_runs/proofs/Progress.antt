-- A run that ends has made progress.
use Rattle.std.proofs.Common.{◌≡◌, ℕ, List, ◌∷◌, Option, refl, subst, ◌++◌, arith}
use Rattle.regress_meaning.specs.Meaning.{Direction}
use Rattle.regress_meaning.specs.Inputs.{Input}
use Rattle.regress_engine_insn.specs.Instructions.{Instruction, Program, Stands}
use Rattle.regress_engine_insn.specs.Instructions as code
use Rattle.regress_engine_runs.specs.States.{Whole}
use Rattle.regress_engine_runs.specs.Runs.{Run, Runs, finds, goes, looks, after_submatch}
use Rattle.regress_engine_runs.specs.Meets.{Meets, now, later, inside, behind}
use Rattle.regress_engine_runs.proofs.Computed.{one_run}
use Rattle.regress_engine_runs.proofs.RunViews.{run_goes, run_looks}

module _ (program : Program) (input : Input) where
  -- where the first state of a run is an instruction stands
  pub first_stands : {dir : Direction} {s : Whole} {ss : List Whole} {n : ℕ} {r : Option Whole} → Run program input dir (s ∷ ss) n r
      → (i : Instruction) × Stands program s.at i
  first_stands (finds here) = (code.goal, here)
  first_stands (goes {i = i} here plain run) = (i, here)
  first_stands (looks {kind = kind} {first = first} {last = last} {continuation = continuation} here inner run) =
      (code.submatch kind first last continuation, here)

  -- and at each state that it meets
  pub stands-where_met : {dir : Direction} {ss : List Whole} {t : Whole} → Meets program input dir ss t → (r : Option Whole) → Runs program input dir ss r
      → (i : Instruction) × Stands program t.at i
  stands-where_met now r (n, run) = first_stands run
  stands-where_met (later {i = i} here plain met) r (n, run) =
      let rest = run_goes program input i here plain run in stands-where_met met r (rest.0, rest.2)
  stands-where_met (inside {kind = kind} {first = first} {last = last} {continuation = continuation} here met) r (n, run) =
      let (q, m, k, count, inner, outer) = run_looks program input (code.submatch kind first last continuation) here refl (λ e. grind arith) run in
      stands-where_met met q (m, inner)
  stands-where_met (behind {dir = dir} {kind = kind} {first = first} {last = last} {continuation = continuation} {s = s} {ss = ss} {q = p} here (l, answered) met) r (n, run) =
      let (q, m, k, count, inner, outer) = run_looks program input (code.submatch kind first last continuation) here refl (λ e. grind arith) run in
      let same : q ≡ p = (one_run program input inner answered).1 in
      stands-where_met met r (k, subst (λ x. Run program input dir (after_submatch kind first last continuation s x ++ ss) k r) same outer)
