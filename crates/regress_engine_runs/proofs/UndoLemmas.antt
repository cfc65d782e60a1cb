-- Steps of one whole state and a stack of records, against the run that they stand for.
use Rattle.std.specs.Prelude.{slice_set, option_map, unwrap_or}
use Rattle.std.proofs.Common.{◌≡◌, ℕ, ◌+◌, ◌-◌, ◌⊎◌, inl, inr, zero, suc, ◌<◌, true, List, [], ◌∷◌, ◌++◌, Option, Some, None, get_or, refl, sym, ap, ◌∙◌, subst, arith, append_assoc}
use Rattle.std.proofs.lemmas.List.{set-set, set-get_or}
use Rattle.regress_meaning.specs.Meaning.{Direction}
use Rattle.regress_meaning.specs.Inputs.{Input}
use Rattle.regress_front_nodes.specs.TreeMeaning.{submatch_direction}
use Rattle.regress_engine_insn.specs.Instructions.{Instruction, Program, Stands}
use Rattle.regress_engine_insn.specs.Instructions as code
use Rattle.regress_engine_runs.specs.States.{Whole, Marks, onward}
use Rattle.regress_engine_runs.specs.Runs.{against, gap, given_back, one_by_one, advance, Run, successors, is_plain, after_submatch}
use Rattle.regress_engine_runs.specs.UndoStack.{MovesOn, give_back, take_on, whole, at_each, Frame, Undo, Work, outermost, inside, trying, old_loop, old_group, first_do, stands_for, Comes, alone, within, failed, succeeded, steps_left}
use Rattle.regress_engine_runs.proofs.Computed.{runs-computed}
use Rattle.regress_engine_runs.proofs.GivingBack.{back_to-end, given_back-more}
use Rattle.regress_engine_runs.proofs.Progress.{first_stands}
use Rattle.regress_engine_runs.proofs.RunViews.{run_goes, run_none, run_found, run_looks}
use Rattle.regress_engine_runs.proofs.Parts.{steps-answer}

-- what is written is undone
pub loop_undone : (loops : List (ℕ × ℕ)) (id : ℕ) (x : ℕ × ℕ) → slice_set (slice_set loops id x) id (get_or loops id (0, 0)) ≡ loops
loop_undone loops id x = set-set loops id x (get_or loops id (0, 0)) ∙ set-get_or loops id (0, 0)

-- states before states and then the work
first_do-both : (ss ts : List Whole) (work : Work) → first_do (ss ++ ts) work ≡ first_do ss (first_do ts work)
first_do-both ss ts (outermost us) = ap outermost (append_assoc ss ts us)
first_do-both ss ts (inside us f s rest) = ap (λ xs. inside xs f s rest) (append_assoc ss ts us)
first_do-both ss ts (trying us t rest) = ap (λ xs. trying xs t rest) (append_assoc ss ts us)

module _ (program : Program) (input : Input) (dir : Direction) (stack : List Undo) (loops : List (ℕ × ℕ)) (groups : List Marks) where
  -- so a record before a write keeps what the stack stands for
  pub loop_recorded : (id : ℕ) (x : ℕ × ℕ)
      → stands_for program input dir (old_loop id (get_or loops id (0, 0)) ∷ stack) (slice_set loops id x) groups ≡ stands_for program input dir stack loops groups
  unfolding stands_for
  loop_recorded id x = ap (λ ls. stands_for program input dir stack ls groups) (loop_undone loops id x)

  pub group_recorded : (k : ℕ) (m d : Marks)
      → stands_for program input dir (old_group k (get_or groups k d) ∷ stack) loops (slice_set groups k m) ≡ stands_for program input dir stack loops groups
  unfolding stands_for
  group_recorded k m d = ap (λ gs. stands_for program input dir stack loops gs) (set-set groups k m (get_or groups k d) ∙ set-get_or groups k d)

  -- a record of what may be given back, of which nothing is left but the last
  pub given_back_last : (at near far : ℕ) → gap dir near far ≡ 0
      → stands_for program input dir (give_back at near far ∷ stack) loops groups ≡ first_do (whole at far loops groups ∷ []) (stands_for program input dir stack loops groups)
  unfolding stands_for
  given_back_last at near far e =
      ap (λ os. first_do (at_each program input at loops groups os) (stands_for program input dir stack loops groups)) (back_to-end input (gap dir near far) dir near far e)

  -- else one character is given back, and the rest later
  pub given_back_one : MovesOn input → (at near far c q : ℕ) → 0 < gap dir near far → input.next (against dir) far ≡ Some (c, q)
      → stands_for program input dir (give_back at near far ∷ stack) loops groups
      ≡ first_do (whole at far loops groups ∷ []) (stands_for program input dir (give_back at near q ∷ stack) loops groups)
  unfolding stands_for
  given_back_one moves at near far c q some e =
      ap (λ os. first_do (at_each program input at loops groups os) (stands_for program input dir stack loops groups)) (given_back-more input moves dir near far c q some e)
      ∙ first_do-both (whole at far loops groups ∷ []) (at_each program input at loops groups (given_back input dir near q)) (stands_for program input dir stack loops groups)

  -- a record of what may be taken on: nothing more may be taken, or nothing more is there
  pub taken_on_last : (at offset left : ℕ) (i : Instruction) → Stands program (at - 1) i → (left ≡ 0) ⊎ (advance program input i dir groups offset ≡ None)
      → stands_for program input dir (take_on at offset left ∷ stack) loops groups ≡ first_do (whole at offset loops groups ∷ []) (stands_for program input dir stack loops groups)
  unfolding stands_for one_by_one
  taken_on_last at offset zero i here ended = ap (λ x. first_do (at_each program input at loops groups (elim x [ None ↦ [] | Some i ↦ one_by_one program input 0 i dir groups offset ])) (stands_for program input dir stack loops groups)) here
  taken_on_last at offset (suc left) i here (inl e) = absurd (omega (arith, e))
  taken_on_last at offset (suc left) i here (inr e) =
      ap (λ x. first_do (at_each program input at loops groups (elim x [ None ↦ [] | Some i ↦ one_by_one program input (suc left) i dir groups offset ])) (stands_for program input dir stack loops groups)) here
      ∙ ap (λ x. first_do (at_each program input at loops groups (offset ∷ elim x [ None ↦ [] | Some q ↦ one_by_one program input left i dir groups q ])) (stands_for program input dir stack loops groups)) e

  -- else one more is taken later
  pub taken_on_one : (at offset left q : ℕ) (i : Instruction) → Stands program (at - 1) i → advance program input i dir groups offset ≡ Some q
      → stands_for program input dir (take_on at offset (suc left) ∷ stack) loops groups
      ≡ first_do (whole at offset loops groups ∷ []) (stands_for program input dir (take_on at q left ∷ stack) loops groups)
  unfolding stands_for one_by_one
  taken_on_one at offset left q i here e =
      ap (λ x. first_do (at_each program input at loops groups (elim x [ None ↦ [] | Some i ↦ one_by_one program input (suc left) i dir groups offset ])) (stands_for program input dir stack loops groups)) here
      ∙ ap (λ x. first_do (at_each program input at loops groups (offset ∷ elim x [ None ↦ [] | Some q ↦ one_by_one program input left i dir groups q ])) (stands_for program input dir stack loops groups)) e
      ∙ first_do-both (whole at offset loops groups ∷ []) (at_each program input at loops groups (one_by_one program input left i dir groups q)) (stands_for program input dir stack loops groups)
      ∙ ap (λ x. first_do (whole at offset loops groups ∷ []) (first_do (at_each program input at loops groups (elim x [ None ↦ [] | Some i ↦ one_by_one program input left i dir groups q ])) (stands_for program input dir stack loops groups))) (sym here)

module _ (program : Program) (input : Input) where
  -- Where what is to be done comes to an answer, an instruction stands at the state that is first.
  pub work_stands : {dir : Direction} {s : Whole} {work : Work} {n : ℕ} {r : Option Whole} → Comes program input dir (s ∷ []) work n r
      → (i : Instruction) × Stands program s.at i
  work_stands (alone run) = first_stands program input run
  work_stands (within same run outer) = first_stands program input run
  work_stands (failed none run behind) = first_stands program input run
  work_stands (succeeded some run behind) = first_stands program input run

  -- A plain step: the successors take the place of the state, and fewer steps are left.
  pub work_goes : {dir : Direction} {s : Whole} {work : Work} {n : ℕ} {r : Option Whole} (i : Instruction) → Stands program s.at i → is_plain i ≡ true
      → Comes program input dir (s ∷ []) work n r → (m : ℕ) × (m < n) × Comes program input dir (successors program input i dir s) work m r
  work_goes i here plain (alone run) = let k = run_goes program input i here plain run in (k.0, omega (arith, k.1), alone k.2)
  work_goes i here plain (within {n = n} same run outer) =
      let k = run_goes program input i here plain run in (k.0 + n, omega (arith, k.1), within same k.2 outer)
  work_goes i here plain (failed {n = n} none run behind) =
      let k = run_goes program input i here plain run in (k.0 + n, omega (arith, k.1), failed none k.2 behind)
  work_goes i here plain (succeeded {n = n} some run behind) =
      let k = run_goes program input i here plain run in (k.0 + n, omega (arith, k.1), succeeded some k.2 behind)

  -- what is to do first is done first
  pub work_first : {dir : Direction} (ss ts : List Whole) (work : Work) (n : ℕ) (r : Option Whole) → Comes program input dir ss (first_do ts work) n r
      → Comes program input dir (ss ++ ts) work n r
  work_first {dir = dir} ss ts (outermost us) n r (alone run) = alone (subst (λ xs. Run program input dir xs n r) (sym (append_assoc ss ts us)) run)
  work_first {dir = dir} ss ts (inside us f s rest) n r (within {m = m} {q = q} same run outer) =
      within same (subst (λ xs. Run program input dir xs m q) (sym (append_assoc ss ts us)) run) outer
  work_first {dir = dir} ss ts (trying us t rest) n r (failed {m = m} none run behind) =
      failed none (subst (λ xs. Run program input dir xs m None) (sym (append_assoc ss ts us)) run) behind
  work_first {dir = dir} ss ts (trying us t rest) n r (succeeded {w = w} {m = m} some run behind) =
      succeeded some (subst (λ xs. Run program input dir xs m (Some w)) (sym (append_assoc ss ts us)) run) behind

  -- and states may be put off to be done first of what comes later
  pub work_later : {dir : Direction} (ss ts : List Whole) (work : Work) (n : ℕ) (r : Option Whole) → Comes program input dir (ss ++ ts) work n r
      → Comes program input dir ss (first_do ts work) n r
  work_later {dir = dir} ss ts (outermost us) n r (alone run) = alone (subst (λ xs. Run program input dir xs n r) (append_assoc ss ts us) run)
  work_later {dir = dir} ss ts (inside us f s rest) n r (within {m = m} {q = q} same run outer) =
      within same (subst (λ xs. Run program input dir xs m q) (append_assoc ss ts us) run) outer
  work_later {dir = dir} ss ts (trying us t rest) n r (failed {m = m} none run behind) =
      failed none (subst (λ xs. Run program input dir xs m None) (append_assoc ss ts us) run) behind
  work_later {dir = dir} ss ts (trying us t rest) n r (succeeded {w = w} {m = m} some run behind) =
      succeeded some (subst (λ xs. Run program input dir xs m (Some w)) (append_assoc ss ts us) run) behind

  -- With nothing to be done there is no answer.
  pub all_exhausted : {dir : Direction} (n : ℕ) (r : Option Whole) → Comes program input dir [] (outermost []) n r → (n ≡ 0) × (r ≡ None)
  all_exhausted n r (alone run) = run_none program input run

  -- The stack is popped at a frame: its contents have no answer.
  pub frame_exhausted : {dir : Direction} (f : Frame) (s : Whole) (work : Work) (n : ℕ) (r : Option Whole) → Comes program input dir [] (inside [] f s work) n r
      → Comes program input f.outside (after_submatch f.kind f.first f.last f.continuation s None) work n r
  frame_exhausted f s work n r (within {n = k} {q = q} same run outer) =
      let none = run_none program input run in
      let e : k ≡ n = omega (arith, none.0) in
      subst (λ j. Comes program input f.outside (after_submatch f.kind f.first f.last f.continuation s None) work j r) e
      (subst (λ x. Comes program input f.outside (after_submatch f.kind f.first f.last f.continuation s x) work k r) none.1 outer)

  -- A state at a goal inside a frame: its contents have this answer.
  pub frame_found : {dir : Direction} (t : Whole) (ts : List Whole) (f : Frame) (s : Whole) (work : Work) (n : ℕ) (r : Option Whole) → Stands program t.at code.goal
      → Comes program input dir (t ∷ []) (inside ts f s work) n r
      → (m : ℕ) × (m < n) × Comes program input f.outside (after_submatch f.kind f.first f.last f.continuation s (Some t)) work m r
  frame_found t ts f s work n r here (within {n = k} {q = q} same run outer) =
      let found = run_found program input here run in
      (k, omega (arith, found.0), subst (λ x. Comes program input f.outside (after_submatch f.kind f.first f.last f.continuation s x) work k r) found.1 outer)

  -- A state at a goal outside of all: it is the answer.
  pub all_found : {dir : Direction} (t : Whole) (ts : List Whole) (n : ℕ) (r : Option Whole) → Stands program t.at code.goal
      → Comes program input dir (t ∷ []) (outermost ts) n r → r ≡ Some t
  all_found t ts n r here (alone run) = (run_found program input here run).1

  -- A lookaround or an atomic group begins: a frame is pushed, and its contents come first.
  pub frame_pushed : {dir : Direction} (s : Whole) (work : Work) (n : ℕ) (r : Option Whole) (f : Frame) → dir ≡ f.outside
      → Stands program s.at (code.submatch f.kind f.first f.last f.continuation) → Comes program input dir (s ∷ []) work n r
      → (m : ℕ) × (m < n) × Comes program input (submatch_direction f.kind f.outside) (onward s ∷ []) (inside [] f s work) m r
  frame_pushed s (outermost ts) n r f same here (alone run) =
      let (q, m, k, count, inner, outer) =
      run_looks program input (code.submatch f.kind f.first f.last f.continuation) here refl (λ e. grind arith) run in
      let contents = subst (λ d. Run program input (submatch_direction f.kind d) (onward s ∷ []) m q) same inner in
      (m + k, omega (arith, count), within refl contents (subst (λ d. Comes program input d (after_submatch f.kind f.first f.last f.continuation s q) (outermost ts) k r) same (alone outer)))
  frame_pushed s (inside ts g t rest) n r f same here (within {n = l} {q = p} turned run beyond) =
      let (q, m, k, count, inner, outer) =
      run_looks program input (code.submatch f.kind f.first f.last f.continuation) here refl (λ e. grind arith) run in
      let contents = subst (λ d. Run program input (submatch_direction f.kind d) (onward s ∷ []) m q) same inner in (
        m + (k + l),
        omega (arith, count),
        within refl contents (subst (λ d. Comes program input d (after_submatch f.kind f.first f.last f.continuation s q) (inside ts g t rest) (k + l) r) same (within turned outer beyond)),
      )
  frame_pushed s (trying ts t rest) n r f same here (failed {n = l} none run beyond) =
      let (q, m, k, count, inner, outer) =
      run_looks program input (code.submatch f.kind f.first f.last f.continuation) here refl (λ e. grind arith) run in
      let contents = subst (λ d. Run program input (submatch_direction f.kind d) (onward s ∷ []) m q) same inner in (
        m + (k + l),
        omega (arith, count),
        within refl contents (subst (λ d. Comes program input d (after_submatch f.kind f.first f.last f.continuation s q) (trying ts t rest) (k + l) r) same (failed none outer beyond)),
      )
  frame_pushed s (trying ts t rest) n r f same here (succeeded {n = l} some run beyond) =
      let (q, m, k, count, inner, outer) =
      run_looks program input (code.submatch f.kind f.first f.last f.continuation) here refl (λ e. grind arith) run in
      let contents = subst (λ d. Run program input (submatch_direction f.kind d) (onward s ∷ []) m q) same inner in (
        m + (k + l),
        omega (arith, count),
        within refl contents (subst (λ d. Comes program input d (after_submatch f.kind f.first f.last f.continuation s q) (trying ts t rest) (k + l) r) same (succeeded some outer beyond)),
      )

  -- those of what is tried, and of what goes on by its answer
  abbrev steps-tried : ℕ → Direction → Work → ℕ × Option Whole → ℕ
  steps-tried f dir rest x = x.0 + elim x.1 [
    | None ↦ steps_left program input f dir [] rest
    | Some w ↦ steps_left program input f dir (w ∷ []) rest - 1
  ]

  -- what is computed is the number of steps
  pub steps-left : {dir : Direction} {ss : List Whole} {work : Work} {n : ℕ} {r : Option Whole} → Comes program input dir ss work n r → (f : ℕ) → n < f
      → steps_left program input f dir ss work ≡ n
  unfolding steps_left
  steps-left (alone run) f few = ap (λ (o : Option (ℕ × Option Whole)). unwrap_or (option_map (λ (x : ℕ × Option Whole). x.0) o) 0) (runs-computed program input run f few)
  steps-left (within {f = g} {s = s} {rest = rest} {m = m} {n = k} {q = q} same run outer) f few =
      ap (λ (o : Option (ℕ × Option Whole)). unwrap_or (option_map (λ (x : ℕ × Option Whole). x.0 + steps_left program input f g.outside
      (after_submatch g.kind g.first g.last g.continuation s x.1) rest) o) 0) (runs-computed program input run f (omega arith))
      ∙ ap (λ j. m + j) (steps-left outer f (omega arith))
  steps-left {dir = dir} (failed {rest = rest} {m = m} {n = k} none run behind) f few =
      ap (λ (o : Option (ℕ × Option Whole)). unwrap_or (option_map (steps-tried f dir rest) o) 0) (runs-computed program input run f (omega arith))
      ∙ ap (λ j. m + j) (steps-left behind f (omega arith))
  steps-left {dir = dir} (succeeded {w = w} {rest = rest} {m = m} {n = k} some run behind) f few =
      let step = steps-answer program input run w refl in
      let left = steps-left behind f (omega (arith, few, step)) in
      let same : m + (suc k - 1) ≡ m + k = omega arith in
      ap (λ (o : Option (ℕ × Option Whole)). unwrap_or (option_map (steps-tried f dir rest) o) 0) (runs-computed program input run f (omega arith))
      ∙ ap (λ j. m + (j - 1)) left ∙ same
