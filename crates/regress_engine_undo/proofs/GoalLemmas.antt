-- A state at a goal is the answer, whatever else is to be done beside it.
use Rattle.std.proofs.Common.{◌≡◌, ℕ, ◌+◌, ◌<◌, ◌≤◌, true, false, List, [], ◌∷◌, ◌++◌, Option, Some, None, ◌⊎◌, inl, inr, refl, sym, ap, ◌∙◌, subst, arith}
use Rattle.std.proofs.lemmas.Bool.{cases_lt}
use Rattle.regress_meaning.specs.Meaning.{Direction}
use Rattle.regress_meaning.specs.Inputs.{Input}
use Rattle.regress_engine_input.specs.Views.{direction_of}
use Rattle.regress_engine_insn.specs.Instructions.{Program, Stands}
use Rattle.regress_engine_insn.specs.Instructions as code
use Rattle.regress_engine_runs.specs.States.{Whole}
use Rattle.regress_engine_runs.specs.Runs.{Run, Runs, is_plain, after_submatch, against, gap, given_back}
use Rattle.regress_engine_runs.specs.Runs as steps
use Rattle.regress_engine_runs.specs.Meets.{Meets}
use Rattle.regress_engine_runs.specs.Meets as meets
use Rattle.regress_engine_runs.specs.UndoStack.{Work, outermost, inside, trying, Comes, alone, within, failed, succeeded, ComesTo, meets_alone, meets_within, meets_outside, meets_left, meets_tried, meets_failed, meets_succeeded, give_back, whole, first_do, at_each, stands_for, MovesOn}
use Rattle.regress_engine_runs.proofs.RunViews.{run_found}
use Rattle.regress_engine_search.specs.Tasks.{Leads}
use Rattle.regress_engine_search.proofs.TaskLemmas.{leads-then}
use Rattle.regress_engine_undo.specs.declared.undo.Spot.{Spot}
use Rattle.regress_engine_undo.specs.Held.{Held, pushed}
use Rattle.regress_engine_undo.specs.Tasks.{task}
use Rattle.regress_engine_undo.proofs.BackLemmas.{give_back-last, give_back-none, give_back-more}

module _ (program : Program) (input : Input) (dir : Direction) (t : Whole) (ts : List Whole) (here : Stands program t.at code.goal) where
  -- it comes to the same without the states that were to be tried later
  alone-comes : (w : Work) (n : ℕ) (r : Option Whole) → Comes program input dir (t ∷ []) (first_do ts w) n r → Comes program input dir (t ∷ []) w n r
  alone-comes (outermost us) n r (alone run) =
      let found = run_found program input here run in
      subst (λ j. Comes program input dir (t ∷ []) (outermost us) j r) (sym found.0)
      (subst (λ x. Comes program input dir (t ∷ []) (outermost us) 1 x) (sym found.1) (alone (steps.finds here)))
  alone-comes (inside us f s rest) n r (within {m = m} {n = k} turned run outer) =
      let found = run_found program input here run in
      let count = found.0 in
      let e : 1 + k ≡ m + k = omega (arith, count) in
      subst (λ j. Comes program input dir (t ∷ []) (inside us f s rest) j r) e
      (within turned (steps.finds here) (subst (λ x. Comes program input f.outside (after_submatch f.kind f.first f.last f.continuation s x) rest k r) found.1 outer))
  alone-comes (trying us v rest) n r (failed none run behind) = let e = (run_found program input here run).1 in absurd (cc e)
  alone-comes (trying us v rest) n r (succeeded {w = w} {m = m} {n = k} some run behind) =
      let found = run_found program input here run in
      let count = found.0 in
      let answer = found.1 in
      let e : 1 + k ≡ m + k = omega (arith, count) in
      subst (λ j. Comes program input dir (t ∷ []) (trying us v rest) j r) e
      (succeeded some (subst (λ x. Run program input dir (t ∷ us) 1 x) (sym answer) (steps.finds here)) behind)

  -- it meets itself alone
  meets-self : (us : List Whole) (u : Whole) → Meets program input dir (t ∷ us) u → t ≡ u
  meets-self us u meets.now = refl
  meets-self us u (meets.later {i = i} there plain met) =
      let e : Some i ≡ Some code.goal = sym there ∙ here in let f : i ≡ code.goal = cc in let g = ap is_plain f in absurd (grind arith)
  meets-self us u (meets.inside there met) = let e = sym there ∙ here in absurd (cc e)
  meets-self us u (meets.behind there answered met) = let e = sym there ∙ here in absurd (cc e)

  self-met : (us : List Whole) (u : Whole) → t ≡ u → Meets program input dir (t ∷ us) u
  self-met us u same = subst (Meets program input dir (t ∷ us)) same meets.now

  -- and it comes to no state that it would not come to with them
  only-comes : (w : Work) (u : Whole) → ComesTo program input dir (t ∷ []) w u → ComesTo program input dir (t ∷ []) (first_do ts w) u
  only-comes (outermost us) u (meets_alone met) = meets_alone (self-met (ts ++ us) u (meets-self us u met))
  only-comes (inside us f s rest) u (meets_within met) = meets_within (self-met (ts ++ us) u (meets-self us u met))
  only-comes (inside us f s rest) u (meets_outside (n, answered) beyond) =
      let e = (run_found program input here answered).1 in
      meets_outside (1, steps.finds here) (subst (λ x. ComesTo program input f.outside (after_submatch f.kind f.first f.last f.continuation s x) rest u) e beyond)
  only-comes (trying us v rest) u (meets_left met) = meets_left (self-met (ts ++ us) u (meets-self us u met))
  only-comes (trying us v rest) u (meets_tried met) = meets_tried met
  only-comes (trying us v rest) u (meets_failed (n, answered) beyond) = let e = (run_found program input here answered).1 in absurd (cc e)
  only-comes (trying us v rest) u (meets_succeeded {w = w} (n, answered) beyond) =
      let e = (run_found program input here answered).1 in
      meets_succeeded (1, subst (λ x. Run program input dir (t ∷ (ts ++ us)) 1 x) (sym e) (steps.finds here)) beyond

  pub leads-alone : (w : Work) → Leads program input 0 (record { dir = dir; states = t ∷ []; work = first_do ts w }) (record { dir = dir; states = t ∷ []; work = w })
  leads-alone w = record {
    comes = λ n r come. (n, omega arith, alone-comes w n r come);
    reads = λ reading on u j comes there reads. on u j (only-comes w u comes) there reads;
  }

-- Of what a one-character loop before a goal gives back the far offset is enough.
pub give_back-goal : (program : Program) (input : Input) (p : Spot) (h : Held) (at near far : ℕ) → MovesOn input → Stands program at code.goal
    → Leads program input 0 (task program input false p (pushed (give_back at near far) h)) (task program input true (record p { at = at; offset = far }) h)
unfolding stands_for
give_back-goal program input p h at near far moves here = by_gap (cases_lt 0 (gap dir near far))
  where
    dir : Direction
    dir = direction_of p.forward

    goes : Held → Type 0
    goes k = Leads program input 0 (task program input false p (pushed (give_back at near far) h)) (task program input true (record p { at = at; offset = far }) k)

    by_next : (x : Option (ℕ × ℕ)) → input.next (against dir) far ≡ x → 0 < gap dir near far → goes h
    by_next None e some = give_back-none program input p h at near far e
    by_next (Some (c, q)) e some =
        leads-then program input 0 0 (give_back-more program input p h (pushed (give_back at near q) h) at near far c q moves some e refl)
        (leads-alone program input dir (whole at far h.loops h.groups) (at_each program input at h.loops h.groups (given_back input dir near q)) here (stands_for program input dir h.stack h.loops h.groups))

    by_gap : (0 < gap dir near far) ⊎ (gap dir near far ≤ 0) → goes h
    by_gap (inl some) = by_next (input.next (against dir) far) refl some
    by_gap (inr none) = give_back-last program input p h at near far (omega (arith, none))
