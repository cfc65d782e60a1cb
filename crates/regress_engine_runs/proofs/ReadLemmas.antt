-- That reads are at places is kept by each step of one state with a stack.
use Rattle.std.proofs.Common.{◌≡◌, suc, ◌+◌, true, List, [], ◌∷◌, ◌++◌, Some, None, sym, subst, append_assoc}
use Rattle.regress_meaning.specs.Meaning.{Direction}
use Rattle.regress_meaning.specs.Offsets.{Reading}
use Rattle.regress_meaning.specs.Inputs.{Input}
use Rattle.regress_front_nodes.specs.TreeMeaning.{submatch_direction}
use Rattle.regress_engine_insn.specs.Instructions.{Instruction, Program, Stands}
use Rattle.regress_engine_insn.specs.Instructions as code
use Rattle.regress_engine_runs.specs.States.{Whole, onward}
use Rattle.regress_engine_runs.specs.Runs.{Runs, successors, is_plain, after_submatch}
use Rattle.regress_engine_runs.specs.Runs as run
use Rattle.regress_engine_runs.specs.Meets.{Meets, reads_character, ReadsPlaces}
use Rattle.regress_engine_runs.specs.Meets as meets
use Rattle.regress_engine_runs.specs.UndoStack.{Frame, Work, outermost, inside, trying, first_do, ComesTo, meets_alone, meets_within, meets_outside, meets_left, meets_tried, meets_failed, meets_succeeded, ReadOn}

module _ (program : Program) (input : Input) where
  -- what is done first is come to
  comes_now : (dir : Direction) (s : Whole) (work : Work) → ComesTo program input dir (s ∷ []) work s
  comes_now dir s (outermost ts) = meets_alone meets.now
  comes_now dir s (inside ts f u rest) = meets_within meets.now
  comes_now dir s (trying ts u rest) = meets_left meets.now

  -- what successors come to
  comes_on : (dir : Direction) (s : Whole) (work : Work) (i : Instruction) → Stands program s.at i → is_plain i ≡ true → (t : Whole)
      → ComesTo program input dir (successors program input i dir s) work t → ComesTo program input dir (s ∷ []) work t
  comes_on dir s (outermost ts) i here plain t (meets_alone met) = meets_alone (meets.later here plain met)
  comes_on dir s (inside ts f u rest) i here plain t (meets_within met) = meets_within (meets.later here plain met)
  comes_on dir s (inside ts f u rest) i here plain t (meets_outside (n, answered) beyond) = meets_outside (suc n, run.goes here plain answered) beyond
  comes_on dir s (trying ts u rest) i here plain t (meets_left met) = meets_left (meets.later here plain met)
  comes_on dir s (trying ts u rest) i here plain t (meets_tried met) = meets_tried met
  comes_on dir s (trying ts u rest) i here plain t (meets_failed (n, answered) beyond) = meets_failed (suc n, run.goes here plain answered) beyond
  comes_on dir s (trying ts u rest) i here plain t (meets_succeeded (n, answered) beyond) = meets_succeeded (suc n, run.goes here plain answered) beyond

  -- states put off, and taken up again
  comes_first : (dir : Direction) (ss ts : List Whole) (work : Work) (t : Whole) → ComesTo program input dir (ss ++ ts) work t
      → ComesTo program input dir ss (first_do ts work) t
  comes_first dir ss ts (outermost us) t (meets_alone met) = meets_alone (subst (λ xs. Meets program input dir xs t) (append_assoc ss ts us) met)
  comes_first dir ss ts (inside us f s rest) t (meets_within met) = meets_within (subst (λ xs. Meets program input dir xs t) (append_assoc ss ts us) met)
  comes_first dir ss ts (inside us f s rest) t (meets_outside {q = q} answered beyond) =
      meets_outside (subst (λ xs. Runs program input dir xs q) (append_assoc ss ts us) answered) beyond
  comes_first dir ss ts (trying us u rest) t (meets_left met) = meets_left (subst (λ xs. Meets program input dir xs t) (append_assoc ss ts us) met)
  comes_first dir ss ts (trying us u rest) t (meets_tried met) = meets_tried met
  comes_first dir ss ts (trying us u rest) t (meets_failed answered beyond) =
      meets_failed (subst (λ xs. Runs program input dir xs None) (append_assoc ss ts us) answered) beyond
  comes_first dir ss ts (trying us u rest) t (meets_succeeded {w = w} answered beyond) =
      meets_succeeded (subst (λ xs. Runs program input dir xs (Some w)) (append_assoc ss ts us) answered) beyond

  comes_later : (dir : Direction) (ss ts : List Whole) (work : Work) (t : Whole) → ComesTo program input dir ss (first_do ts work) t
      → ComesTo program input dir (ss ++ ts) work t
  comes_later dir ss ts (outermost us) t (meets_alone met) = meets_alone (subst (λ xs. Meets program input dir xs t) (sym (append_assoc ss ts us)) met)
  comes_later dir ss ts (inside us f s rest) t (meets_within met) = meets_within (subst (λ xs. Meets program input dir xs t) (sym (append_assoc ss ts us)) met)
  comes_later dir ss ts (inside us f s rest) t (meets_outside {q = q} answered beyond) =
      meets_outside (subst (λ xs. Runs program input dir xs q) (sym (append_assoc ss ts us)) answered) beyond
  comes_later dir ss ts (trying us u rest) t (meets_left met) = meets_left (subst (λ xs. Meets program input dir xs t) (sym (append_assoc ss ts us)) met)
  comes_later dir ss ts (trying us u rest) t (meets_tried met) = meets_tried met
  comes_later dir ss ts (trying us u rest) t (meets_failed answered beyond) =
      meets_failed (subst (λ xs. Runs program input dir xs None) (sym (append_assoc ss ts us)) answered) beyond
  comes_later dir ss ts (trying us u rest) t (meets_succeeded {w = w} answered beyond) =
      meets_succeeded (subst (λ xs. Runs program input dir xs (Some w)) (sym (append_assoc ss ts us)) answered) beyond

  -- the contents of a lookaround, and what follows it
  comes_pushed : (s : Whole) (work : Work) (f : Frame) → Stands program s.at (code.submatch f.kind f.first f.last f.continuation) → (t : Whole)
      → ComesTo program input (submatch_direction f.kind f.outside) (onward s ∷ []) (inside [] f s work) t → ComesTo program input f.outside (s ∷ []) work t
  comes_pushed s (outermost ts) f here t (meets_within met) = meets_alone (meets.inside here met)
  comes_pushed s (inside ts g u rest) f here t (meets_within met) = meets_within (meets.inside here met)
  comes_pushed s (outermost ts) f here t (meets_outside answered (meets_alone met)) = meets_alone (meets.behind here answered met)
  comes_pushed s (inside ts g u rest) f here t (meets_outside answered (meets_within met)) = meets_within (meets.behind here answered met)
  comes_pushed s (inside ts g u rest) f here t (meets_outside (n, answered) (meets_outside (k, more) beyond)) =
      meets_outside (suc (n + k), run.looks here answered more) beyond
  comes_pushed s (trying ts u rest) f here t (meets_within met) = meets_left (meets.inside here met)
  comes_pushed s (trying ts u rest) f here t (meets_outside answered (meets_left met)) = meets_left (meets.behind here answered met)
  comes_pushed s (trying ts u rest) f here t (meets_outside answered (meets_tried met)) = meets_tried met
  comes_pushed s (trying ts u rest) f here t (meets_outside (n, answered) (meets_failed (k, more) beyond)) =
      meets_failed (suc (n + k), run.looks here answered more) beyond
  comes_pushed s (trying ts u rest) f here t (meets_outside (n, answered) (meets_succeeded (k, more) beyond)) =
      meets_succeeded (suc (n + k), run.looks here answered more) beyond

  module _ (reading : Reading) where
    -- The state that is first reads at a place, if it reads.
    pub read_now : (dir : Direction) (s : Whole) (work : Work) → ReadOn program input reading dir (s ∷ []) work → (i : Instruction) → Stands program s.at i
        → reads_character i ≡ true → ReadsPlaces reading i s
    read_now dir s work on i here reads = on s i (comes_now dir s work) here reads

    -- A plain step.
    pub read_on : (dir : Direction) (s : Whole) (work : Work) (i : Instruction) → Stands program s.at i → is_plain i ≡ true
        → ReadOn program input reading dir (s ∷ []) work → ReadOn program input reading dir (successors program input i dir s) work
    read_on dir s work i here plain on t j comes there reads = on t j (comes_on dir s work i here plain t comes) there reads

    -- States are put off, and taken up again.
    pub read_first : (dir : Direction) (ss ts : List Whole) (work : Work) → ReadOn program input reading dir ss (first_do ts work)
        → ReadOn program input reading dir (ss ++ ts) work
    read_first dir ss ts work on t j comes there reads = on t j (comes_first dir ss ts work t comes) there reads

    pub read_later : (dir : Direction) (ss ts : List Whole) (work : Work) → ReadOn program input reading dir (ss ++ ts) work
        → ReadOn program input reading dir ss (first_do ts work)
    read_later dir ss ts work on t j comes there reads = on t j (comes_later dir ss ts work t comes) there reads

    -- A frame is pushed.
    pub read_inside : (s : Whole) (work : Work) (f : Frame) → Stands program s.at (code.submatch f.kind f.first f.last f.continuation)
        → ReadOn program input reading f.outside (s ∷ []) work → ReadOn program input reading (submatch_direction f.kind f.outside) (onward s ∷ []) (inside [] f s work)
    read_inside s work f here on t j comes there reads = on t j (comes_pushed s work f here t comes) there reads

    -- It is popped at a goal, or with nothing left inside.
    pub read_found : (dir : Direction) (v : Whole) (ts : List Whole) (f : Frame) (s : Whole) (work : Work) → Stands program v.at code.goal
        → ReadOn program input reading dir (v ∷ []) (inside ts f s work)
        → ReadOn program input reading f.outside (after_submatch f.kind f.first f.last f.continuation s (Some v)) work
    read_found dir v ts f s work goal on t j comes there reads = on t j (meets_outside (1, run.finds goal) comes) there reads

    pub read_exhausted : (dir : Direction) (f : Frame) (s : Whole) (work : Work) → ReadOn program input reading dir [] (inside [] f s work)
        → ReadOn program input reading f.outside (after_submatch f.kind f.first f.last f.continuation s None) work
    read_exhausted dir f s work on t j comes there reads = on t j (meets_outside (0, run.ends) comes) there reads
