-- Records of what is tried, against the run that a stack of records stands for.
use Rattle.std.proofs.Common.{◌≡◌, ℕ, suc, ◌+◌, ◌<◌, List, [], ◌∷◌, Option, Some, None, refl, sym, subst, arith}
use Rattle.regress_meaning.specs.Meaning.{Direction}
use Rattle.regress_meaning.specs.Inputs.{Input}
use Rattle.regress_engine_insn.specs.Instructions.{Program, Stands}
use Rattle.regress_engine_insn.specs.Instructions as code
use Rattle.regress_engine_runs.specs.States.{Whole}
use Rattle.regress_engine_runs.specs.Runs.{Run, Runs, after_submatch}
use Rattle.regress_engine_runs.specs.Runs as steps
use Rattle.regress_engine_runs.specs.UndoStack.{Work, outermost, inside, trying, Fails, Comes, alone, within, failed, succeeded}
use Rattle.regress_engine_runs.proofs.RunViews.{run_none, run_found}
use Rattle.regress_engine_runs.proofs.Parts.{Split, run-splits, run-behind, meets-answer, steps-some}

module _ (program : Program) (input : Input) where
  -- A state is tried: its own run comes first, and what is to be done goes on by the answer of that.
  pub tried_pushed : {dir : Direction} (t : Whole) (work : Work) (n : ℕ) (r : Option Whole) → Comes program input dir (t ∷ []) work n r
      → Comes program input dir (t ∷ []) (trying [] t work) n r
  tried_pushed {dir = dir} t (outermost ts) n r (alone run) = by_answer (run-splits program input dir (t ∷ []) ts n r run)
    where
      by_answer : Split program input dir (t ∷ []) ts n r → Comes program input dir (t ∷ []) (trying [] t (outermost ts)) n r
      by_answer (None, m, first, (k, count, rest)) =
          subst (λ j. Comes program input dir (t ∷ []) (trying [] t (outermost ts)) j r) count (failed (m, first) first (alone rest))
      by_answer (Some w, m, first, (same, count)) =
          let goal = (meets-answer program input first w refl).1 in
          let e : m + 0 ≡ n = omega (arith, count) in
          subst (λ j. Comes program input dir (t ∷ []) (trying [] t (outermost ts)) j r) e
          (succeeded (m, first) first (subst (λ x. Comes program input dir (w ∷ []) (outermost ts) 1 x) (sym same) (alone (steps.finds goal))))
  tried_pushed {dir = dir} t (inside ts f s rest) n r (within {m = a} {n = b} {q = p} turned run outer) = by_answer (run-splits program input dir (t ∷ []) ts a p run)
    where
      by_answer : Split program input dir (t ∷ []) ts a p → Comes program input dir (t ∷ []) (trying [] t (inside ts f s rest)) (a + b) r
      by_answer (None, m, first, (k, count, more)) =
          let e : m + (k + b) ≡ a + b = omega (arith, count) in
          subst (λ j. Comes program input dir (t ∷ []) (trying [] t (inside ts f s rest)) j r) e (failed (m, first) first (within turned more outer))
      by_answer (Some w, m, first, (same, count)) =
          let goal = (meets-answer program input first w refl).1 in
          let e : m + b ≡ a + b = omega (arith, count) in
          let one : 1 + b ≡ suc b = omega arith in
          subst (λ j. Comes program input dir (t ∷ []) (trying [] t (inside ts f s rest)) j r) e
          (succeeded (m, first) first (subst (λ j. Comes program input dir (w ∷ []) (inside ts f s rest) j r) one
          (within turned (steps.finds goal) (subst (λ x. Comes program input f.outside (after_submatch f.kind f.first f.last f.continuation s x) rest b r) same outer))))
  tried_pushed {dir = dir} t (trying ts u rest) n r (failed {m = a} {n = b} none run behind) = by_answer (run-splits program input dir (t ∷ []) ts a None run)
    where
      by_answer : Split program input dir (t ∷ []) ts a None → Comes program input dir (t ∷ []) (trying [] t (trying ts u rest)) (a + b) r
      by_answer (None, m, first, (k, count, more)) =
          let e : m + (k + b) ≡ a + b = omega (arith, count) in
          subst (λ j. Comes program input dir (t ∷ []) (trying [] t (trying ts u rest)) j r) e (failed (m, first) first (failed none more behind))
      by_answer (Some w, m, first, (same, count)) = absurd (cc same)
  tried_pushed {dir = dir} t (trying ts u rest) n r (succeeded {w = v} {m = a} {n = b} some run behind) = by_answer (run-splits program input dir (t ∷ []) ts a (Some v) run)
    where
      by_answer : Split program input dir (t ∷ []) ts a (Some v) → Comes program input dir (t ∷ []) (trying [] t (trying ts u rest)) (a + b) r
      by_answer (None, m, first, (k, count, more)) =
          let e : m + (k + b) ≡ a + b = omega (arith, count) in
          subst (λ j. Comes program input dir (t ∷ []) (trying [] t (trying ts u rest)) j r) e (failed (m, first) first (succeeded some more behind))
      by_answer (Some w, m, first, (same, count)) =
          let goal = (meets-answer program input first w refl).1 in
          let e : m + b ≡ a + b = omega (arith, count) in
          let one : 1 + b ≡ suc b = omega arith in
          let is : v ≡ w = cc in
          subst (λ j. Comes program input dir (t ∷ []) (trying [] t (trying ts u rest)) j r) e
          (succeeded (m, first) first (subst (λ j. Comes program input dir (w ∷ []) (trying ts u rest) j r) one
          (succeeded (subst (λ x. Runs program input dir (u ∷ []) (Some x)) is some) (steps.finds goal) (subst (λ x. Comes program input dir (x ∷ []) rest (suc b) r) is behind))))

  -- Nothing is left of what was tried: the state has no answer.
  pub nothing_left : {dir : Direction} (t : Whole) (work : Work) (n : ℕ) (r : Option Whole) → Comes program input dir [] (trying [] t work) n r → Fails program input dir (t ∷ [])
  nothing_left t work n r (failed none run behind) = none
  nothing_left t work n r (succeeded some run behind) = let e = (run_none program input run).1 in absurd (cc e)

  -- and what is behind goes on
  pub tried_exhausted : {dir : Direction} (t : Whole) (work : Work) (n : ℕ) (r : Option Whole) → Comes program input dir [] (trying [] t work) n r → Comes program input dir [] work n r
  tried_exhausted {dir = dir} t work n r (failed {n = k} none run behind) =
      let count = (run_none program input run).0 in
      let e : k ≡ n = omega (arith, count) in
      subst (λ j. Comes program input dir [] work j r) e behind
  tried_exhausted t work n r (succeeded some run behind) = let e = (run_none program input run).1 in absurd (cc e)

  -- A state at a goal is an answer of what is tried: the record is passed over.
  pub tried_found : {dir : Direction} (s t : Whole) (ts : List Whole) (work : Work) (n : ℕ) (r : Option Whole) → Stands program s.at code.goal
      → Comes program input dir (s ∷ []) (trying ts t work) n r → Comes program input dir (s ∷ []) work n r
  tried_found s t ts work n r here (failed none run behind) = let e = (run_found program input here run).1 in absurd (cc e)
  tried_found {dir = dir} s t ts work n r here (succeeded {w = w} {n = k} some run behind) =
      let found = run_found program input here run in
      let count = found.0 in
      let answer = found.1 in
      let is : w ≡ s = cc in
      let e : suc k ≡ n = omega (arith, count) in
      subst (λ j. Comes program input dir (s ∷ []) work j r) e (subst (λ x. Comes program input dir (x ∷ []) work (suc k) r) is behind)

  -- What surely has no answer is dropped.
  pub dropped : {dir : Direction} (s : Whole) (work : Work) (n : ℕ) (r : Option Whole) → Fails program input dir (s ∷ []) → Comes program input dir (s ∷ []) work n r
      → (m : ℕ) × (m < n) × Comes program input dir [] work m r
  dropped {dir = dir} s (outermost ts) n r fails (alone run) =
      let (k, count, rest) = run-behind program input dir (s ∷ []) ts fails.0 n r fails.1 run in
      let some = steps-some program input fails.1 in (k, omega (arith, count, some), alone rest)
  dropped {dir = dir} s (inside ts f u rest) n r fails (within {m = m} {n = l} {q = q} turned run outer) =
      let (k, count, on) = run-behind program input dir (s ∷ []) ts fails.0 m q fails.1 run in
      let some = steps-some program input fails.1 in (k + l, omega (arith, count, some), within turned on outer)
  dropped {dir = dir} s (trying ts u rest) n r fails (failed {m = m} {n = l} none run behind) =
      let (k, count, on) = run-behind program input dir (s ∷ []) ts fails.0 m None fails.1 run in
      let some = steps-some program input fails.1 in (k + l, omega (arith, count, some), failed none on behind)
  dropped {dir = dir} s (trying ts u rest) n r fails (succeeded {w = w} {m = m} {n = l} found run behind) =
      let (k, count, on) = run-behind program input dir (s ∷ []) ts fails.0 m (Some w) fails.1 run in
      let some = steps-some program input fails.1 in (k + l, omega (arith, count, some), succeeded found on behind)
