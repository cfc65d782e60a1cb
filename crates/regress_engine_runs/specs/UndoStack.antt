-- How one state and a stack of records stand for what a run has still to do.
use Rattle.std.specs.Prelude.{◌≡◌, ℕ, suc, ◌+◌, ◌-◌, ◌<◌, true, List, [], ◌∷◌, ◌++◌, Option, Some, None, option_map, unwrap_or, slice_get, slice_set, map}
use Rattle.regress_meaning.specs.Meaning.{Direction, Forward, Backward}
use Rattle.regress_meaning.specs.Offsets.{Reading}
use Rattle.regress_meaning.specs.Inputs.{Input}
use Rattle.regress_front_nodes.specs.TreeMeaning.{submatch_direction}
use Rattle.regress_front_nodes.specs.Trees.{Submatch}
use Rattle.regress_engine_insn.specs.Instructions.{Instruction, Program, Stands}
use Rattle.regress_engine_runs.specs.States.{Marks, Whole}
use Rattle.regress_engine_runs.specs.Runs.{Run, Runs, after_submatch, one_more, given_back, one_by_one}
use Rattle.regress_engine_runs.specs.Computed.{run}
use Rattle.regress_engine_runs.specs.Meets.{Meets, reads_character, ReadsPlaces}

-- What is matched by itself and is under way: its instruction, where it stands and at which offset, and in which direction was
-- read before it.
pub record Frame : Type 0 where
  pub kind : Submatch
  pub first : ℕ
  pub last : ℕ
  pub continuation : ℕ
  pub at : ℕ
  pub offset : ℕ
  pub outside : Direction

-- A record on the stack: what is to be undone, or where to go on.
pub data Undo : Type 0 where
  -- the loop had these data
  old_loop : (id : ℕ) → ℕ × ℕ → Undo
  -- the group had these marks
  old_group : (k : ℕ) → Marks → Undo
  -- go on at an address and an offset
  resume : (at offset : ℕ) → Undo
  -- begin one more iteration of the repetition that begins at an address
  iterate : (id begin offset : ℕ) → Undo
  -- go on at an address, at the offsets from a far one back to a near one
  give_back : (at near far : ℕ) → Undo
  -- go on at an address, at an offset and behind each further iteration of the instruction before, at most so many
  take_on : (at offset left : ℕ) → Undo
  -- there is no other path through the contents of a lookaround or an atomic group
  frame : Frame → Undo
  -- all paths on from an address and an offset have been tried
  tried : (at offset : ℕ) → Undo

-- What is still to be done: some states, the most preferred first, and what goes on by the answer of their run.
pub data Work : Type 0 where
  -- nothing: it is the answer
  outermost : List Whole → Work
  -- the state at a lookaround or an atomic group whose contents they are, and then what is to be done outside
  inside : List Whole → Frame → Whole → Work → Work
  -- a state all of whose paths they are, and then what is to be done behind it
  trying : List Whole → Whole → Work → Work

-- some states, and then the work
abbrev pub first_do : List Whole → Work → Work
first_do ss (outermost ts) = outermost (ss ++ ts)
first_do ss (inside ts f s rest) = inside (ss ++ ts) f s rest
first_do ss (trying ts t rest) = trying (ss ++ ts) t rest

-- the state with these data
abbrev pub whole : (at offset : ℕ) → List (ℕ × ℕ) → List Marks → Whole
whole at offset loops groups = record { at = at; offset = offset; loops = loops; groups = groups }

-- the second offset is past the first, in a direction
abbrev pub IsPast : Direction → ℕ → ℕ → Type 0
IsPast Forward o q = o < q
IsPast Backward o q = q < o

-- An input moves on: behind the code point beside an offset is an offset past that one, at a place or not.
abbrev pub MovesOn : Input → Type 0
MovesOn input = (dir : Direction) (o c q : ℕ) → input.next dir o ≡ Some (c, q) → IsPast dir o q

module _ (program : Program) (input : Input) where
  -- the states with these data, at each of some offsets
  abbrev pub at_each : (at : ℕ) → List (ℕ × ℕ) → List Marks → List ℕ → List Whole
  at_each at loops groups offsets = map (λ o. whole at o loops groups) offsets

  -- the offsets behind no, one, two and more iterations of the instruction before an address, at most so many
  abbrev pub taken_on : Direction → (at left : ℕ) → List Marks → ℕ → List ℕ
  taken_on dir at left groups o = elim (slice_get program.instructions (at - 1)) [ None ↦ [] | Some i ↦ one_by_one program input left i dir groups o ]

  -- What a stack stands for where the state has these loops and groups and is read in a direction: what is above is undone
  -- before what is below. So a record of what was tried stands for the state that was there when it was pushed.
  unfoldable pub stands_for : Direction → List Undo → List (ℕ × ℕ) → List Marks → Work
  stands_for dir [] loops groups = outermost []
  stands_for dir (old_loop id x ∷ stack) loops groups = stands_for dir stack (slice_set loops id x) groups
  stands_for dir (old_group k m ∷ stack) loops groups = stands_for dir stack loops (slice_set groups k m)
  stands_for dir (resume at offset ∷ stack) loops groups = first_do (whole at offset loops groups ∷ []) (stands_for dir stack loops groups)
  stands_for dir (iterate id begin offset ∷ stack) loops groups =
      first_do (one_more id begin (whole begin offset loops groups) ∷ []) (stands_for dir stack loops groups)
  stands_for dir (give_back at near far ∷ stack) loops groups =
      first_do (at_each at loops groups (given_back input dir near far)) (stands_for dir stack loops groups)
  stands_for dir (take_on at offset left ∷ stack) loops groups =
      first_do (at_each at loops groups (taken_on dir at left groups offset)) (stands_for dir stack loops groups)
  stands_for dir (frame f ∷ stack) loops groups = inside [] f (whole f.at f.offset loops groups) (stands_for f.outside stack loops groups)
  stands_for dir (tried at offset ∷ stack) loops groups = trying [] (whole at offset loops groups) (stands_for dir stack loops groups)

  -- states have no answer
  abbrev pub Fails : Direction → List Whole → Type 0
  Fails dir ss = Runs program input dir ss None

  -- Some states and then the work come to an answer in so many steps: the states run first, and by their answer the work goes
  -- on. Where a state is tried, the run of what is left of it has the answer of the state's own run: where there is none the
  -- work behind goes on, else it begins with the answer, whose one step is not counted twice.
  pub data Comes : Direction → List Whole → Work → ℕ → Option Whole → Type 0 where
    alone : {dir : Direction} {ss ts : List Whole} {n : ℕ} {r : Option Whole} → Run program input dir (ss ++ ts) n r → Comes dir ss (outermost ts) n r
    within : {dir : Direction} {ss ts : List Whole} {f : Frame} {s : Whole} {rest : Work} {m n : ℕ} {q r : Option Whole}
        → dir ≡ submatch_direction f.kind f.outside → Run program input dir (ss ++ ts) m q → Comes f.outside (after_submatch f.kind f.first f.last f.continuation s q) rest n r
        → Comes dir ss (inside ts f s rest) (m + n) r
    failed : {dir : Direction} {ss ts : List Whole} {t : Whole} {rest : Work} {m n : ℕ} {r : Option Whole} → Fails dir (t ∷ [])
        → Run program input dir (ss ++ ts) m None → Comes dir [] rest n r → Comes dir ss (trying ts t rest) (m + n) r
    succeeded : {dir : Direction} {ss ts : List Whole} {t w : Whole} {rest : Work} {m n : ℕ} {r : Option Whole}
        → Runs program input dir (t ∷ []) (Some w) → Run program input dir (ss ++ ts) m (Some w) → Comes dir (w ∷ []) rest (suc n) r
        → Comes dir ss (trying ts t rest) (m + n) r

  -- The number of those steps, computed, where it is less than the first number: a measure that no code holds.
  unfoldable pub steps_left : ℕ → Direction → List Whole → Work → ℕ
  steps_left f dir ss (outermost ts) = unwrap_or (option_map (λ x. x.0) (run program input f dir (ss ++ ts))) 0
  steps_left f dir ss (inside ts g s rest) = unwrap_or (option_map (λ x. x.0 + steps_left f g.outside
      (after_submatch g.kind g.first g.last g.continuation s x.1) rest) (run program input f dir (ss ++ ts))) 0
  steps_left f dir ss (trying ts t rest) = unwrap_or (option_map (λ (x : ℕ × Option Whole). x.0 + elim x.1 [
    | None ↦ steps_left f dir [] rest
    | Some w ↦ steps_left f dir (w ∷ []) rest - 1
  ]) (run program input f dir (ss ++ ts))) 0

  -- Some states and then the work come to a state: inside a lookaround or an atomic group, or by its answer outside. Where a
  -- state is tried its own run counts with what it meets, so that what it has read is known where it has failed.
  pub data ComesTo : Direction → List Whole → Work → Whole → Type 0 where
    meets_alone : {dir : Direction} {ss ts : List Whole} {t : Whole} → Meets program input dir (ss ++ ts) t → ComesTo dir ss (outermost ts) t
    meets_within : {dir : Direction} {ss ts : List Whole} {f : Frame} {s : Whole} {rest : Work} {t : Whole} → Meets program input dir (ss ++ ts) t
        → ComesTo dir ss (inside ts f s rest) t
    meets_outside : {dir : Direction} {ss ts : List Whole} {f : Frame} {s : Whole} {rest : Work} {q : Option Whole} {t : Whole}
        → Runs program input dir (ss ++ ts) q → ComesTo f.outside (after_submatch f.kind f.first f.last f.continuation s q) rest t
        → ComesTo dir ss (inside ts f s rest) t
    meets_left : {dir : Direction} {ss ts : List Whole} {s : Whole} {rest : Work} {t : Whole} → Meets program input dir (ss ++ ts) t
        → ComesTo dir ss (trying ts s rest) t
    meets_tried : {dir : Direction} {ss ts : List Whole} {s : Whole} {rest : Work} {t : Whole} → Meets program input dir (s ∷ []) t
        → ComesTo dir ss (trying ts s rest) t
    meets_failed : {dir : Direction} {ss ts : List Whole} {s : Whole} {rest : Work} {t : Whole} → Fails dir (ss ++ ts)
        → ComesTo dir [] rest t → ComesTo dir ss (trying ts s rest) t
    meets_succeeded : {dir : Direction} {ss ts : List Whole} {s w : Whole} {rest : Work} {t : Whole} → Runs program input dir (ss ++ ts) (Some w)
        → ComesTo dir (w ∷ []) rest t → ComesTo dir ss (trying ts s rest) t

  -- wherever they come to an instruction that reads characters, it reads at places
  abbrev pub ReadOn : Reading → Direction → List Whole → Work → Type 0
  ReadOn reading dir ss work = (t : Whole) (i : Instruction) → ComesTo dir ss work t → Stands program t.at i → reads_character i ≡ true
      → ReadsPlaces reading i t
