-- How one task leads to another, and what a run that is tried comes to.
use Rattle.std.proofs.Common.{◌≡◌, ℕ, suc, ◌+◌, ◌<◌, true, List, [], ◌∷◌, ◌++◌, Option, Some, None, refl, subst, arith}
use Rattle.regress_meaning.specs.Meaning.{Direction, Forward}
use Rattle.regress_meaning.specs.Inputs.{Input}
use Rattle.regress_front_nodes.specs.TreeMeaning.{submatch_direction}
use Rattle.regress_engine_input.specs.Views.{View, input_of, reading_of}
use Rattle.regress_engine_insn.specs.Instructions.{Instruction, Program, Stands}
use Rattle.regress_engine_insn.specs.Instructions as code
use Rattle.regress_engine_runs.specs.States.{Whole, Marks, onward, first_state}
use Rattle.regress_engine_runs.specs.Computed.{IsComputed}
use Rattle.regress_engine_runs.specs.Runs.{Run, successors, is_plain, after_submatch}
use Rattle.regress_engine_runs.specs.Meets.{reads_character, ReadsPlaces}
use Rattle.regress_engine_runs.specs.UndoStack.{Frame, Work, outermost, inside, trying, Fails, first_do, alone, ReadOn}
use Rattle.regress_engine_runs.proofs.Computed.{computed-runs}
use Rattle.regress_engine_runs.proofs.UndoLemmas.{work_goes, work_stands, work_first, work_later, frame_pushed, frame_found, frame_exhausted, all_found, all_exhausted, steps-left}
use Rattle.regress_engine_runs.proofs.ReadLemmas.{read_now, read_on, read_first, read_later, read_inside, read_found, read_exhausted}
use Rattle.regress_engine_runs.proofs.TriedLemmas.{tried_pushed, tried_exhausted, tried_found, dropped}
use Rattle.regress_engine_runs.proofs.TriedReads.{read_trying, read_tried, read_past, read_dropped}
use Rattle.regress_engine_search.specs.Tasks.{Task, Leads, ComesAs, left_of, outside_of, IsTried}
use Rattle.regress_engine_search.specs.Answering.{IsAnswer}

-- states that are done first change nothing outside
pub outside-first : (ss : List Whole) (w : Work) → outside_of (first_do ss w) ≡ outside_of w
outside-first ss (outermost ts) = refl
outside-first ss (inside ts f s rest) = refl
outside-first ss (trying ts t rest) = refl

module _ (program : Program) (input : Input) where
  pub leads-then : {t u w : Task} (k l : ℕ) → Leads program input k t u → Leads program input l u w → Leads program input (k + l) t w
  leads-then k l first second = record {
    comes = λ n r h. let a = first.comes n r h in let b = second.comes a.0 r a.2 in let x = a.1 in let y = b.1 in (b.0, omega (arith, x, y), b.2);
    reads = λ reading on. second.reads reading (first.reads reading on);
  }

  pub leads-same : (t : Task) → Leads program input 0 t t
  leads-same t = record { comes = λ n r h. (n, omega arith, h); reads = λ reading on. on }

  pub leads-equal : (t u : Task) → t ≡ u → Leads program input 0 t u
  leads-equal t u e = subst (Leads program input 0 t) e (leads-same t)

  -- a plain instruction leads to its successors
  pub leads-plain : (i : Instruction) (dir : Direction) (s : Whole) (work : Work) → Stands program s.at i → is_plain i ≡ true
      → Leads program input 1 (record { dir = dir; states = s ∷ []; work = work }) (record { dir = dir; states = successors program input i dir s; work = work })
  leads-plain i dir s work here plain = record {
    comes = λ n r come. let x = work_goes program input i here plain come in let less = x.1 in (x.0, omega (arith, less), x.2);
    reads = λ reading on. read_on program input reading dir s work i here plain on;
  }

  -- states are put off
  pub leads-later : (dir : Direction) (ss ts : List Whole) (work : Work)
      → Leads program input 0 (record { dir = dir; states = ss ++ ts; work = work }) (record { dir = dir; states = ss; work = first_do ts work })
  leads-later dir ss ts work = record {
    comes = λ n r come. (n, omega arith, work_later program input ss ts work n r come);
    reads = λ reading on. read_later program input reading dir ss ts work on;
  }

  -- and taken up
  pub leads-first : (dir : Direction) (ss ts : List Whole) (work : Work)
      → Leads program input 0 (record { dir = dir; states = ss; work = first_do ts work }) (record { dir = dir; states = ss ++ ts; work = work })
  leads-first dir ss ts work = record {
    comes = λ n r come. (n, omega arith, work_first program input ss ts work n r come);
    reads = λ reading on. read_first program input reading dir ss ts work on;
  }

  -- a lookaround begins
  pub leads-inside : (s : Whole) (work : Work) (f : Frame) → Stands program s.at (code.submatch f.kind f.first f.last f.continuation)
      → Leads program input 1 (record { dir = f.outside; states = s ∷ []; work = work }) (record { dir = submatch_direction f.kind f.outside; states = onward s ∷ []; work = inside [] f s work })
  leads-inside s work f here = record {
    comes = λ n r come. let x = frame_pushed program input s work n r f refl here come in let less = x.1 in (x.0, omega (arith, less), x.2);
    reads = λ reading on. read_inside program input reading s work f here on;
  }

  -- its contents have no answer
  pub leads-exhausted : (dir : Direction) (f : Frame) (s : Whole) (work : Work)
      → Leads program input 0 (record { dir = dir; states = []; work = inside [] f s work })
      (record { dir = f.outside; states = after_submatch f.kind f.first f.last f.continuation s None; work = work })
  leads-exhausted dir f s work = record {
    comes = λ n r come. (n, omega arith, frame_exhausted program input f s work n r come);
    reads = λ reading on. read_exhausted program input reading dir f s work on;
  }

  -- a state is tried: a record is pushed beneath its paths
  pub leads-trying : (dir : Direction) (t : Whole) (work : Work)
      → Leads program input 0 (record { dir = dir; states = t ∷ []; work = work }) (record { dir = dir; states = t ∷ []; work = trying [] t work })
  leads-trying dir t work = record {
    comes = λ n r come. (n, omega arith, tried_pushed program input t work n r come);
    reads = λ reading on. read_trying program input reading dir t work on;
  }

  -- all its paths were tried, and the record is popped
  pub leads-tried : (dir : Direction) (t : Whole) (work : Work)
      → Leads program input 0 (record { dir = dir; states = []; work = trying [] t work }) (record { dir = dir; states = []; work = work })
  leads-tried dir t work = record {
    comes = λ n r come. (n, omega arith, tried_exhausted program input t work n r come);
    reads = λ reading on. read_tried program input reading dir t work on;
  }

  -- one of them comes to a goal, and the record is passed over
  pub leads-past : (dir : Direction) (s t : Whole) (ts : List Whole) (work : Work) → Stands program s.at code.goal
      → Leads program input 0 (record { dir = dir; states = s ∷ []; work = trying ts t work }) (record { dir = dir; states = s ∷ []; work = work })
  leads-past dir s t ts work here = record {
    comes = λ n r come. (n, omega arith, tried_found program input s t ts work n r here come);
    reads = λ reading on. read_past program input reading dir s t ts work here on;
  }

  -- a state that has no answer is dropped
  pub leads-dropped : (dir : Direction) (s : Whole) (work : Work) → Fails program input dir (s ∷ [])
      → Leads program input 1 (record { dir = dir; states = s ∷ []; work = work }) (record { dir = dir; states = []; work = work })
  leads-dropped dir s work fails = record {
    comes = λ n r come. let x = dropped program input s work n r fails come in let less = x.1 in (x.0, omega (arith, less), x.2);
    reads = λ reading on. read_dropped program input reading dir (s ∷ []) work fails on;
  }

  -- what follows a lookaround that is found
  abbrev pub behind_found : Whole → Frame × Whole × Work → Task
  behind_found t y = record { dir = y.0.outside; states = after_submatch y.0.kind y.0.first y.0.last y.0.continuation y.1 (Some t); work = y.2 }

  -- a goal inside a lookaround
  pub leads-found : (dir : Direction) (t : Whole) (w : Work) (y : Frame × Whole × Work) → outside_of w ≡ Some y → Stands program t.at code.goal
      → Leads program input 1 (record { dir = dir; states = t ∷ []; work = w }) (behind_found t y)
  leads-found dir t (outermost ts) y e here = absurd (grind arith)
  leads-found dir t (inside ts f s rest) y e here =
      let there : Frame × Whole × Work = (f, s, rest) in
      let same : there ≡ y = cc in
      subst (λ z. Leads program input 1 (record { dir = dir; states = t ∷ []; work = inside ts f s rest }) (behind_found t z)) same (record {
        comes = λ n r come. let x = frame_found program input t ts f s rest n r here come in let less = x.1 in (x.0, omega (arith, less), x.2);
        reads = λ reading on. read_found program input reading dir t ts f s rest here on;
      })
  leads-found dir t (trying ts u rest) y e here = leads-then 0 1 (leads-past dir t u ts rest here) (leads-found dir t rest y e here)

  -- and one outside of all
  pub ends-outermost : (dir : Direction) (t : Whole) (w : Work) → outside_of w ≡ None → Stands program t.at code.goal → ComesAs program input (record { dir = dir; states = t ∷ []; work = w }) t
  ends-outermost dir t (outermost ts) e here n r come = all_found program input t ts n r here come
  ends-outermost dir t (inside ts f s rest) e here n r come = absurd (grind arith)
  ends-outermost dir t (trying ts u rest) e here n r come = ends-outermost dir t rest e here n r (tried_found program input t u ts rest n r here come)

-- ---- a run that is tried

module _ (program : Program) (v : View) (start : ℕ) (ends : IsComputed program (input_of v) Forward (first_state program start ∷ [])) where
  run : Run program (input_of v) Forward (first_state program start ∷ []) ends.0.0 ends.0.1
  run = computed-runs program (input_of v) (suc ends.0.0) Forward (first_state program start ∷ []) ends.0.0 ends.0.1 (ends.1 (suc ends.0.0) (omega arith))

  -- nothing is tried yet
  pub tried-first : ReadOn program (input_of v) (reading_of v) Forward (first_state program start ∷ []) (outermost [])
      → IsTried program v ends.0.0 ends.0.1 (record { dir = Forward; states = first_state program start ∷ []; work = outermost [] })
  tried-first reads = record { comes = (ends.0.0, omega arith, alone run); reads = reads }

  -- the answer is there
  pub tried-ends : (t : Task) (s : Whole) → IsTried program v ends.0.0 ends.0.1 t → ComesAs program (input_of v) t s
      → (o : ℕ) (groups : List Marks) → s.offset ≡ o → s.groups ≡ groups → IsAnswer program (input_of v) start (Some o) groups
  tried-ends t s tries answered o groups at same =
      let is : ends.0.1 ≡ Some s = answered tries.comes.0 ends.0.1 tries.comes.2 in
      (s, (ends.0.0, subst (λ x. Run program (input_of v) Forward (first_state program start ∷ []) ends.0.0 x) is run), at, same)

  -- or there is none
  pub tried-fails : (dir : Direction) (groups : List Marks) → IsTried program v ends.0.0 ends.0.1 (record { dir = dir; states = []; work = outermost [] })
      → IsAnswer program (input_of v) start None groups
  tried-fails dir groups tries =
      let none = all_exhausted program (input_of v) tries.comes.0 ends.0.1 tries.comes.2 in
      (ends.0.0, subst (λ x. Run program (input_of v) Forward (first_state program start ∷ []) ends.0.0 x) none.1 run)

module _ (program : Program) (v : View) (n : ℕ) (r : Option Whole) where
  -- an instruction stands at the state that is first, and reads at places
  pub tried-stands : (dir : Direction) (s : Whole) (work : Work) → IsTried program v n r (record { dir = dir; states = s ∷ []; work = work }) → (i : Instruction) × Stands program s.at i
  tried-stands dir s work tries = work_stands program (input_of v) tries.comes.2

  pub tried-reads : (dir : Direction) (s : Whole) (work : Work) → IsTried program v n r (record { dir = dir; states = s ∷ []; work = work })
      → (i : Instruction) → Stands program s.at i → reads_character i ≡ true → ReadsPlaces (reading_of v) i s
  tried-reads dir s work tries i here reads = read_now program (input_of v) (reading_of v) dir s work tries.reads i here reads

  -- what it leads to is tried
  pub tried-on : (k : ℕ) (t u : Task) → Leads program (input_of v) k t u → IsTried program v n r t → IsTried program v n r u
  tried-on k t u leads tries =
      let come = leads.comes tries.comes.0 r tries.comes.2 in
      let less = tries.comes.1 in
      let fewer = come.1 in
      record { comes = (come.0, omega (arith, less, fewer), come.2); reads = leads.reads (reading_of v) tries.reads }

  -- and fewer steps are left
  pub tried-less : (t u : Task) → Leads program (input_of v) 1 t u → IsTried program v n r t → left_of program (input_of v) (suc n) u < left_of program (input_of v) (suc n) t
  tried-less t u leads tries =
      let come = leads.comes tries.comes.0 r tries.comes.2 in
      let less = tries.comes.1 in
      let fewer = come.1 in
      let now = steps-left program (input_of v) tries.comes.2 (suc n) (omega (arith, less)) in
      let later = steps-left program (input_of v) come.2 (suc n) (omega (arith, less, fewer)) in
      omega (arith, now, later, fewer)
