-- States that fail may be left out of what is to be tried, wherever they stand.
use Rattle.std.proofs.Common.{◌≡◌, ℕ, suc, ◌+◌, ◌≤◌, List, [], ◌∷◌, ◌++◌, All, Option, Some, None, refl, sym, ap, ◌∙◌, subst, arith, append_assoc}
use Rattle.std.proofs.lemmas.List.Elements.{All-head, All-tail}
use Rattle.regress_meaning.specs.Meaning.{Direction}
use Rattle.regress_meaning.specs.Inputs.{Input}
use Rattle.regress_front_nodes.specs.Trees.{atomic}
use Rattle.regress_engine_insn.specs.Instructions.{Program}
use Rattle.regress_engine_insn.specs.Instructions as code
use Rattle.regress_engine_runs.specs.States.{Marks, Whole}
use Rattle.regress_engine_runs.specs.Runs.{Run, Runs, ends, finds, goes, looks, successors, after_submatch}
use Rattle.regress_engine_runs.specs.Meets.{Meets, now, later, inside, behind}
use Rattle.regress_engine_runs.specs.UndoStack.{Frame, Work, outermost, first_do, whole, at_each, Comes, alone, within, ComesTo, meets_alone, meets_within, meets_outside, meets_left, meets_tried, meets_failed, meets_succeeded}
use Rattle.regress_engine_runs.specs.UndoStack as stack
use Rattle.regress_engine_runs.proofs.RunViews.{run_goes, run_none, run_looks}
use Rattle.regress_engine_search.specs.Tasks.{Leads}
use Rattle.regress_engine_singles.specs.Failing.{Fail, failed, steps, inner, IsDead}

module _ (program : Program) (input : Input) where
  abbrev Gone : Direction → List Whole → Type 0
  Gone dir xs = Fail program input dir xs

  -- what fails, and then what fails
  pub fail-both : {dir : Direction} {xs : List Whole} → Gone dir xs → (ys : List Whole) → Gone dir ys → Gone dir (xs ++ ys)
  fail-both failed ys second = second
  fail-both {dir = dir} (steps {i = i} {s = s} {ss = ss} here plain rest) ys second =
      steps here plain (subst (Gone dir) (append_assoc (successors program input i dir s) ss ys) (fail-both rest ys second))
  fail-both (inner here contents others) ys second = inner here contents (fail-both others ys second)

  -- ---- at the front

  -- a run over it is one over the others, in no more steps
  front-left : {dir : Direction} {xs : List Whole} → Gone dir xs → (rest : List Whole) (n : ℕ) (r : Option Whole) → Run program input dir (xs ++ rest) n r
      → (m : ℕ) × (m ≤ n) × Run program input dir rest m r
  front-left failed rest n r run = (n, omega arith, run)
  front-left {dir = dir} (steps {i = i} {s = s} {ss = ss} here plain more) rest n r run =
      let (m, count, on) = run_goes program input i here plain run in
      let (k, less, last) = front-left more rest m r (subst (λ xs. Run program input dir xs m r) (sym (append_assoc (successors program input i dir s) ss rest)) on) in
      (k, omega (arith, count, less), last)
  front-left {dir = dir} (inner {first = low} {last = high} {continuation = continuation} {s = s} {ss = ss} here contents others) rest n r run =
      let (q, m, k, count, ran, on) = run_looks program input (code.submatch atomic low high continuation) here refl (λ e. grind arith) run in
      let (j, some, at_end) = front-left contents [] m q ran in
      let none : q ≡ None = (run_none program input at_end).1 in
      let (l, less, last) = front-left others rest k r (subst (λ x. Run program input dir (after_submatch atomic low high continuation s x ++ (ss ++ rest)) k r) none on) in
      (l, omega (arith, count, less), last)

  -- and one over the others is one over it
  front-put : {dir : Direction} {xs : List Whole} → Gone dir xs → (rest : List Whole) (r : Option Whole) → Runs program input dir rest r → Runs program input dir (xs ++ rest) r
  front-put failed rest r runs = runs
  front-put {dir = dir} (steps {i = i} {s = s} {ss = ss} here plain more) rest r runs =
      let (n, run) = front-put more rest r runs in
      (suc n, goes here plain (subst (λ xs. Run program input dir xs n r) (append_assoc (successors program input i dir s) ss rest) run))
  front-put (inner here contents others) rest r runs =
      let (m, ran) = front-put contents [] None (0, ends) in
      let (n, run) = front-put others rest r runs in
      (suc (m + n), looks here ran run)

  -- and meets what that meets
  front-meets : {dir : Direction} {xs : List Whole} → Gone dir xs → (rest : List Whole) (t : Whole) → Meets program input dir rest t → Meets program input dir (xs ++ rest) t
  front-meets failed rest t met = met
  front-meets {dir = dir} (steps {i = i} {s = s} {ss = ss} here plain more) rest t met =
      later here plain (subst (λ xs. Meets program input dir xs t) (append_assoc (successors program input i dir s) ss rest) (front-meets more rest t met))
  front-meets (inner here contents others) rest t met = behind here (front-put contents [] None (0, ends)) (front-meets others rest t met)

  -- So it has no answer.
  pub fail-none : {dir : Direction} {xs : List Whole} → Gone dir xs → Runs program input dir (xs ++ []) None
  fail-none gone = front-put gone [] None (0, ends)

  -- ---- anywhere

  middle-left : (xs rest : List Whole) {dir : Direction} {ss : List Whole} {n : ℕ} {r : Option Whole} → Run program input dir ss n r → Gone dir xs → (p : List Whole) → ss ≡ p ++ (xs ++ rest)
      → (m : ℕ) × (m ≤ n) × Run program input dir (p ++ rest) m r
  middle-left xs rest {dir = dir} {n = n} {r = r} h gone [] e = front-left gone rest n r (subst (λ ss. Run program input dir ss n r) e h)
  middle-left xs rest ends gone (t ∷ p) e = absurd (grind arith)
  middle-left xs rest (finds {dir = dir} {s = s} {ss = ss} here) gone (t ∷ p) e =
      let first : s ≡ t = cc in
      (1, omega arith, subst (λ x. Run program input dir (x ∷ (p ++ rest)) 1 (Some s)) first (finds here))
  middle-left xs rest (goes {dir = dir} {i = i} {s = s} {ss = ss} {r = r} here plain run) gone (t ∷ p) e =
      let first : s ≡ t = cc in
      let others : ss ≡ p ++ (xs ++ rest) = cc in
      let new : List Whole = successors program input i dir s in
      let (k, less, on) = middle-left xs rest run gone (new ++ p) (ap (λ ys. new ++ ys) others ∙ sym (append_assoc new p (xs ++ rest))) in (
        suc k,
        omega (arith, less),
        subst (λ x. Run program input dir (x ∷ (p ++ rest)) (suc k) r) first
            (goes here plain (subst (λ ys. Run program input dir ys k r) (append_assoc new p rest) on)),
      )
  middle-left xs rest (looks {dir = dir} {kind = kind} {first = low} {last = high} {continuation = continuation} {s = s} {ss = ss} {m = m} {q = q} {r = r} here ran run) gone (t ∷ p) e =
      let first : s ≡ t = cc in
      let others : ss ≡ p ++ (xs ++ rest) = cc in
      let new : List Whole = after_submatch kind low high continuation s q in
      let (k, less, on) = middle-left xs rest run gone (new ++ p) (ap (λ ys. new ++ ys) others ∙ sym (append_assoc new p (xs ++ rest))) in (
        suc (m + k),
        omega (arith, less),
        subst (λ x. Run program input dir (x ∷ (p ++ rest)) (suc (m + k)) r) first
            (looks here ran (subst (λ ys. Run program input dir ys k r) (append_assoc new p rest) on)),
      )

  middle-put : (xs rest : List Whole) {dir : Direction} {ss : List Whole} {n : ℕ} {r : Option Whole} → Run program input dir ss n r → Gone dir xs → (p : List Whole) → ss ≡ p ++ rest
      → Runs program input dir (p ++ (xs ++ rest)) r
  middle-put xs rest {dir = dir} {n = n} {r = r} h gone [] e = front-put gone rest r (n, subst (λ ss. Run program input dir ss n r) e h)
  middle-put xs rest ends gone (t ∷ p) e = absurd (grind arith)
  middle-put xs rest (finds {dir = dir} {s = s} {ss = ss} here) gone (t ∷ p) e =
      let first : s ≡ t = cc in
      (1, subst (λ x. Run program input dir (x ∷ (p ++ (xs ++ rest))) 1 (Some s)) first (finds here))
  middle-put xs rest (goes {dir = dir} {i = i} {s = s} {ss = ss} {r = r} here plain run) gone (t ∷ p) e =
      let first : s ≡ t = cc in
      let others : ss ≡ p ++ rest = cc in
      let new : List Whole = successors program input i dir s in
      let (k, on) = middle-put xs rest run gone (new ++ p) (ap (λ ys. new ++ ys) others ∙ sym (append_assoc new p rest)) in (
        suc k,
        subst (λ x. Run program input dir (x ∷ (p ++ (xs ++ rest))) (suc k) r) first
            (goes here plain (subst (λ ys. Run program input dir ys k r) (append_assoc new p (xs ++ rest)) on)),
      )
  middle-put xs rest (looks {dir = dir} {kind = kind} {first = low} {last = high} {continuation = continuation} {s = s} {ss = ss} {m = m} {q = q} {r = r} here ran run) gone (t ∷ p) e =
      let first : s ≡ t = cc in
      let others : ss ≡ p ++ rest = cc in
      let new : List Whole = after_submatch kind low high continuation s q in
      let (k, on) = middle-put xs rest run gone (new ++ p) (ap (λ ys. new ++ ys) others ∙ sym (append_assoc new p rest)) in (
        suc (m + k),
        subst (λ x. Run program input dir (x ∷ (p ++ (xs ++ rest))) (suc (m + k)) r) first
            (looks here ran (subst (λ ys. Run program input dir ys k r) (append_assoc new p (xs ++ rest)) on)),
      )

  middle-meets : (xs rest : List Whole) {dir : Direction} {ss : List Whole} {u : Whole} → Meets program input dir ss u → Gone dir xs → (p : List Whole) → ss ≡ p ++ rest
      → Meets program input dir (p ++ (xs ++ rest)) u
  middle-meets xs rest {dir = dir} {u = u} h gone [] e = front-meets gone rest u (subst (λ ss. Meets program input dir ss u) e h)
  middle-meets xs rest (now {dir = dir} {s = s} {ss = ss}) gone (t ∷ p) e =
      let first : s ≡ t = cc in subst (λ x. Meets program input dir (x ∷ (p ++ (xs ++ rest))) s) first now
  middle-meets xs rest {u = u} (later {dir = dir} {i = i} {s = s} {ss = ss} here plain met) gone (t ∷ p) e =
      let first : s ≡ t = cc in
      let others : ss ≡ p ++ rest = cc in
      let new : List Whole = successors program input i dir s in
      let on = middle-meets xs rest met gone (new ++ p) (ap (λ ys. new ++ ys) others ∙ sym (append_assoc new p rest)) in
      subst (λ x. Meets program input dir (x ∷ (p ++ (xs ++ rest))) u) first
      (later here plain (subst (λ ys. Meets program input dir ys u) (append_assoc new p (xs ++ rest)) on))
  middle-meets xs rest {u = u} (inside {dir = dir} {s = s} here met) gone (t ∷ p) e =
      let first : s ≡ t = cc in subst (λ x. Meets program input dir (x ∷ (p ++ (xs ++ rest))) u) first (inside here met)
  middle-meets xs rest {u = u} (behind {dir = dir} {kind = kind} {first = low} {last = high} {continuation = continuation} {s = s} {ss = ss} {q = q} here runs met) gone (t ∷ p) e =
      let first : s ≡ t = cc in
      let others : ss ≡ p ++ rest = cc in
      let new : List Whole = after_submatch kind low high continuation s q in
      let on = middle-meets xs rest met gone (new ++ p) (ap (λ ys. new ++ ys) others ∙ sym (append_assoc new p rest)) in
      subst (λ x. Meets program input dir (x ∷ (p ++ (xs ++ rest))) u) first
      (behind here runs (subst (λ ys. Meets program input dir ys u) (append_assoc new p (xs ++ rest)) on))

  -- ---- before what is to be done

  work-left : (dir : Direction) (ss xs : List Whole) → Gone dir xs → (work : Work) (n : ℕ) (r : Option Whole) → Comes program input dir ss (first_do xs work) n r
      → (m : ℕ) × (m + 0 ≤ n) × Comes program input dir ss work m r
  work-left dir ss xs gone (outermost ts) n r (alone run) =
      let (m, less, on) = middle-left xs ts run gone ss refl in (m, omega (arith, less), alone on)
  work-left dir ss xs gone (stack.inside ts f s rest) n r (within {m = k} {n = l} turned run outer) =
      let (m, less, on) = middle-left xs ts run gone ss refl in (m + l, omega (arith, less), within turned on outer)
  work-left dir ss xs gone (stack.trying ts t rest) n r (stack.failed {n = l} none run outer) =
      let (m, less, on) = middle-left xs ts run gone ss refl in (m + l, omega (arith, less), stack.failed none on outer)
  work-left dir ss xs gone (stack.trying ts t rest) n r (stack.succeeded {n = l} some run outer) =
      let (m, less, on) = middle-left xs ts run gone ss refl in (m + l, omega (arith, less), stack.succeeded some on outer)

  work-meets : (dir : Direction) (ss xs : List Whole) → Gone dir xs → (work : Work) (t : Whole) → ComesTo program input dir ss work t → ComesTo program input dir ss (first_do xs work) t
  work-meets dir ss xs gone (outermost ts) t (meets_alone met) = meets_alone (middle-meets xs ts met gone ss refl)
  work-meets dir ss xs gone (stack.inside ts f s rest) t (meets_within met) = meets_within (middle-meets xs ts met gone ss refl)
  work-meets dir ss xs gone (stack.inside ts f s rest) t (meets_outside (n, run) outer) = meets_outside (middle-put xs ts run gone ss refl) outer
  work-meets dir ss xs gone (stack.trying ts s rest) t (meets_left met) = meets_left (middle-meets xs ts met gone ss refl)
  work-meets dir ss xs gone (stack.trying ts s rest) t (meets_tried met) = meets_tried met
  work-meets dir ss xs gone (stack.trying ts s rest) t (meets_failed (n, run) outer) = meets_failed (middle-put xs ts run gone ss refl) outer
  work-meets dir ss xs gone (stack.trying ts s rest) t (meets_succeeded (n, run) outer) = meets_succeeded (middle-put xs ts run gone ss refl) outer

  -- What fails may be left out behind what is tried first.
  pub leads-without : (dir : Direction) (ss xs : List Whole) (work : Work) → Gone dir xs
      → Leads program input 0 (record { dir = dir; states = ss; work = first_do xs work }) (record { dir = dir; states = ss; work = work })
  leads-without dir ss xs work gone = record {
    comes = λ n r come. work-left dir ss xs gone work n r come;
    reads = λ reading on t i met. on t i (work-meets dir ss xs gone work t met);
  }

  -- states at each of some offsets from which no match can be reached
  pub fail-each : (dir : Direction) (at : ℕ) (loops : List (ℕ × ℕ)) (groups : List Marks) (os : List ℕ) → All (IsDead program input dir at) os
      → Gone dir (at_each program input at loops groups os)
  fail-each dir at loops groups [] all = failed
  fail-each dir at loops groups (o ∷ os) all =
      fail-both (All-head (IsDead program input dir at) o os all loops groups) (at_each program input at loops groups os)
      (fail-each dir at loops groups os (All-tail (IsDead program input dir at) o os all))
