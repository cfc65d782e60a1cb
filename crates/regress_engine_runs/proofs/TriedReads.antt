-- That reads are at places is kept where a state is tried, and where states are dropped that have no answer.
use Rattle.std.proofs.Common.{◌≡◌, ℕ, ◌+◌, List, [], ◌∷◌, Some, None, refl, sym, ap, ◌∙◌, subst, arith}
use Rattle.regress_meaning.specs.Meaning.{Direction}
use Rattle.regress_meaning.specs.Offsets.{Reading}
use Rattle.regress_meaning.specs.Inputs.{Input}
use Rattle.regress_engine_insn.specs.Instructions.{Instruction, Program, Stands}
use Rattle.regress_engine_insn.specs.Instructions as code
use Rattle.regress_engine_runs.specs.States.{Whole}
use Rattle.regress_engine_runs.specs.Runs.{Run, is_plain, after_submatch}
use Rattle.regress_engine_runs.specs.Runs as steps
use Rattle.regress_engine_runs.specs.Meets.{Meets}
use Rattle.regress_engine_runs.specs.Meets as meets
use Rattle.regress_engine_runs.specs.UndoStack.{Work, outermost, inside, trying, Fails, ComesTo, meets_alone, meets_within, meets_outside, meets_left, meets_tried, meets_failed, meets_succeeded, ReadOn}
use Rattle.regress_engine_runs.proofs.RunViews.{run_found}
use Rattle.regress_engine_runs.proofs.Parts.{none-then, some-then, meets-first, meets-others, meets-answer}

module _ (program : Program) (input : Input) where
  -- what follows states that have no answer
  comes_behind : (dir : Direction) (xs : List Whole) (work : Work) → Fails program input dir xs → (u : Whole) → ComesTo program input dir [] work u → ComesTo program input dir xs work u
  comes_behind dir xs (outermost ts) fails u (meets_alone met) = meets_alone (meets-others program input fails.1 refl ts u met)
  comes_behind dir xs (inside ts f s rest) fails u (meets_within met) = meets_within (meets-others program input fails.1 refl ts u met)
  comes_behind dir xs (inside ts f s rest) fails u (meets_outside {q = q} (n, answered) beyond) =
      meets_outside (fails.0 + n, none-then program input fails.1 refl ts n q answered) beyond
  comes_behind dir xs (trying ts t rest) fails u (meets_left met) = meets_left (meets-others program input fails.1 refl ts u met)
  comes_behind dir xs (trying ts t rest) fails u (meets_tried met) = meets_tried met
  comes_behind dir xs (trying ts t rest) fails u (meets_failed (n, answered) beyond) = meets_failed (fails.0 + n, none-then program input fails.1 refl ts n None answered) beyond
  comes_behind dir xs (trying ts t rest) fails u (meets_succeeded {w = w} (n, answered) beyond) =
      meets_succeeded (fails.0 + n, none-then program input fails.1 refl ts n (Some w) answered) beyond

  -- what states themselves meet
  comes_self : (dir : Direction) (xs : List Whole) (work : Work) (u : Whole) → Meets program input dir xs u → ComesTo program input dir xs work u
  comes_self dir xs (outermost ts) u met = meets_alone (meets-first program input met ts)
  comes_self dir xs (inside ts f s rest) u met = meets_within (meets-first program input met ts)
  comes_self dir xs (trying ts t rest) u met = meets_left (meets-first program input met ts)

  -- an answer meets itself alone
  meets_goal : (dir : Direction) (w : Whole) (ts : List Whole) (u : Whole) → Stands program w.at code.goal → Meets program input dir (w ∷ ts) u → w ≡ u
  meets_goal dir w ts u goal meets.now = refl
  meets_goal dir w ts u goal (meets.later {i = i} here plain met) =
      let e : Some i ≡ Some code.goal = sym here ∙ goal in let f : i ≡ code.goal = cc in let g = ap is_plain f in absurd (grind arith)
  meets_goal dir w ts u goal (meets.inside here met) = let e = sym here ∙ goal in absurd (cc e)
  meets_goal dir w ts u goal (meets.behind here answered met) = let e = sym here ∙ goal in absurd (cc e)

  -- where its answer goes on, the state does
  comes_answer : (dir : Direction) (t w : Whole) (work : Work) (m : ℕ) → Run program input dir (t ∷ []) m (Some w) → Stands program w.at code.goal → (u : Whole)
      → ComesTo program input dir (w ∷ []) work u → ComesTo program input dir (t ∷ []) work u
  comes_answer dir t w (outermost ts) m first goal u (meets_alone met) =
      let is = meets_goal dir w ts u goal met in
      meets_alone (meets-first program input (subst (λ x. Meets program input dir (t ∷ []) x) is (meets-answer program input first w refl).0) ts)
  comes_answer dir t w (inside ts f s rest) m first goal u (meets_within met) =
      let is = meets_goal dir w ts u goal met in
      meets_within (meets-first program input (subst (λ x. Meets program input dir (t ∷ []) x) is (meets-answer program input first w refl).0) ts)
  comes_answer dir t w (inside ts f s rest) m first goal u (meets_outside {q = q} (n, answered) beyond) =
      let e = (run_found program input goal answered).1 in
      meets_outside (m, some-then program input first w refl ts) (subst (λ x. ComesTo program input f.outside (after_submatch f.kind f.first f.last f.continuation s x) rest u) e beyond)
  comes_answer dir t w (trying ts v rest) m first goal u (meets_left met) =
      let is = meets_goal dir w ts u goal met in
      meets_left (meets-first program input (subst (λ x. Meets program input dir (t ∷ []) x) is (meets-answer program input first w refl).0) ts)
  comes_answer dir t w (trying ts v rest) m first goal u (meets_tried met) = meets_tried met
  comes_answer dir t w (trying ts v rest) m first goal u (meets_failed (n, answered) beyond) = let e = (run_found program input goal answered).1 in absurd (cc e)
  comes_answer dir t w (trying ts v rest) m first goal u (meets_succeeded {w = x} (n, answered) beyond) =
      let e = (run_found program input goal answered).1 in
      let is : x ≡ w = cc in
      meets_succeeded (m, some-then program input first w refl ts) (subst (λ y. ComesTo program input dir (y ∷ []) rest u) is beyond)

  -- what is come to where a state is tried is come to from it
  comes_tried : (dir : Direction) (t : Whole) (work : Work) (u : Whole) → ComesTo program input dir (t ∷ []) (trying [] t work) u → ComesTo program input dir (t ∷ []) work u
  comes_tried dir t work u (meets_left met) = comes_self dir (t ∷ []) work u met
  comes_tried dir t work u (meets_tried met) = comes_self dir (t ∷ []) work u met
  comes_tried dir t work u (meets_failed answered beyond) = comes_behind dir (t ∷ []) work answered u beyond
  comes_tried dir t work u (meets_succeeded {w = w} answered beyond) =
      comes_answer dir t w work answered.0 answered.1 (meets-answer program input answered.1 w refl).1 u beyond

  module _ (reading : Reading) where
    -- A record of what is tried is pushed.
    pub read_trying : (dir : Direction) (t : Whole) (work : Work) → ReadOn program input reading dir (t ∷ []) work
        → ReadOn program input reading dir (t ∷ []) (trying [] t work)
    read_trying dir t work on u j comes there reads = on u j (comes_tried dir t work u comes) there reads

    -- It is popped with nothing left of what is tried.
    pub read_tried : (dir : Direction) (t : Whole) (work : Work) → ReadOn program input reading dir [] (trying [] t work)
        → ReadOn program input reading dir [] work
    read_tried dir t work on u j comes there reads = on u j (meets_failed (0, steps.ends) comes) there reads

    -- It is passed over at a goal.
    pub read_past : (dir : Direction) (s t : Whole) (ts : List Whole) (work : Work) → Stands program s.at code.goal
        → ReadOn program input reading dir (s ∷ []) (trying ts t work) → ReadOn program input reading dir (s ∷ []) work
    read_past dir s t ts work goal on u j comes there reads = on u j (meets_succeeded (1, steps.finds goal) comes) there reads

    -- States that have no answer are dropped.
    pub read_dropped : (dir : Direction) (ss : List Whole) (work : Work) → Fails program input dir ss → ReadOn program input reading dir ss work
        → ReadOn program input reading dir [] work
    read_dropped dir ss work fails on u j comes there reads = on u j (comes_behind dir ss work fails u comes) there reads
