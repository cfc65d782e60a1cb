-- What waits stays the program's.
use Rattle.std.specs.Prelude.{slice_get, slice_set}
use Rattle.std.proofs.Common.{◌≡◌, ℕ, suc, Bool, true, false, List, [], ◌∷◌, ◌++◌, map, Option, Some, None, if◌then◌else◌, sym, ◌∙◌, subst}
use Rattle.std.proofs.lemmas.List.{length-set, length-replicate}
use Rattle.regress_meaning.specs.Meaning.{Direction}
use Rattle.regress_meaning.specs.Inputs.{Input}
use Rattle.regress_engine_insn.specs.Instructions.{Instruction, LoopFields, Program, Stands}
use Rattle.regress_engine_insn.specs.Instructions as code
use Rattle.regress_engine_runs.specs.States.{Whole, onward, first_state, unset}
use Rattle.regress_engine_runs.specs.Runs.{advance, entered, successors, choices, ordered, counted, is_idle, moved_to, fields_of, one_more}
use Rattle.regress_engine_runs.specs.UndoStack.{Frame}
use Rattle.regress_engine_search.specs.Tasks.{HasGroups}
use Rattle.regress_engine_copying.specs.Held.{Entry, tried, submatched, Held, pushed, put}
use Rattle.regress_engine_copying.specs.Sound.{IsWhole, AreSound}

module _ (program : Program) where
  -- each of some states has the program's loops and groups
  AreWhole : List Whole → Type 0
  AreWhole [] = Unit {0}
  AreWhole (s ∷ ss) = IsWhole program s × AreWhole ss

  ordered-whole : (greedy more out : Bool) (s t : Whole) → IsWhole program s → IsWhole program t → AreWhole (ordered greedy more out s t)
  unfolding AreWhole
  ordered-whole true true true s t a b = (a, (b, tt))
  ordered-whole true true false s t a b = (a, tt)
  ordered-whole true false true s t a b = (b, tt)
  ordered-whole true false false s t a b = tt
  ordered-whole false true true s t a b = (b, (a, tt))
  ordered-whole false true false s t a b = (a, tt)
  ordered-whole false false true s t a b = (b, tt)
  ordered-whole false false false s t a b = tt

  choices-whole : (f : LoopFields) (begin : ℕ) (s : Whole) → IsWhole program s → AreWhole (choices f begin s)
  choices-whole f begin s w =
      ordered-whole f.greedy _ _ (one_more f.loop_id begin s) (record s { at = f.exit })
      (record { loops = length-set s.loops f.loop_id _ ∙ w.loops; groups = w.groups })
      (record { loops = w.loops; groups = w.groups })

  each-whole : (at : ℕ) (s : Whole) (os : List ℕ) → IsWhole program s → AreWhole (map (λ o. record s { at = at; offset = o }) os)
  unfolding AreWhole
  each-whole at s [] w = tt
  each-whole at s (o ∷ os) w = (record { loops = w.loops; groups = w.groups }, each-whole at s os w)

  moved-whole : (s : Whole) (x : Option ℕ) → IsWhole program s → AreWhole (moved_to s x)
  unfolding AreWhole
  moved-whole s None w = tt
  moved-whole s (Some o) w = (record { loops = w.loops; groups = w.groups }, tt)

  again-whole : (begin : ℕ) (s : Whole) (x : Option LoopFields) → IsWhole program s
      → AreWhole (elim x [ None ↦ [] | Some f ↦ if is_idle f s then [] else choices f begin s ])
  unfolding AreWhole
  again-whole begin s None w = tt
  again-whole begin s (Some f) w = by_test (is_idle f s)
    where
      by_test : (b : Bool) → AreWhole (if b then [] else choices f begin s)
      by_test true = tt
      by_test false = choices-whole f begin s w

  module _ (input : Input) where
    single-whole : (least most : ℕ) (greedy : Bool) (dir : Direction) (s : Whole) (x : Option Instruction) → IsWhole program s
        → AreWhole (elim x [ None ↦ [] | Some i ↦ map (λ o. record s { at = suc (suc s.at); offset = o }) (counted program input least most greedy i dir s.groups s.offset) ])
    unfolding AreWhole
    single-whole least most greedy dir s None w = tt
    single-whole least most greedy dir s (Some i) w = each-whole (suc (suc s.at)) s (counted program input least most greedy i dir s.groups s.offset) w

    -- successors have what the state has
    successors-whole : (i : Instruction) (dir : Direction) (s : Whole) → IsWhole program s → AreWhole (successors program input i dir s)
    unfolding AreWhole
    successors-whole (code.jump a) dir s w = (record { loops = w.loops; groups = w.groups }, tt)
    successors-whole (code.alt a) dir s w = (record { loops = w.loops; groups = w.groups }, (record { loops = w.loops; groups = w.groups }, tt))
    successors-whole (code.begin_group k) dir s w = (record { loops = w.loops; groups = length-set s.groups k _ ∙ w.groups }, tt)
    successors-whole (code.end_group k) dir s w = (record { loops = w.loops; groups = length-set s.groups k _ ∙ w.groups }, tt)
    successors-whole (code.reset_group k) dir s w = (record { loops = w.loops; groups = length-set s.groups k unset ∙ w.groups }, tt)
    successors-whole (code.enter_loop f) dir s w =
        choices-whole f s.at (entered input dir f s) (record { loops = length-set s.loops f.loop_id _ ∙ w.loops; groups = w.groups })
    successors-whole (code.loop_again begin) dir s w = again-whole begin s (fields_of (slice_get program.instructions begin)) w
    successors-whole (code.single_loop least most greedy) dir s w = single-whole least most greedy dir s (slice_get program.instructions (suc s.at)) w
    successors-whole i dir s w = moved-whole s (advance program input i dir s.groups s.offset) w

  put-sound : (ss : List Whole) (es : List Entry) → AreWhole ss → AreSound program es → AreSound program (map tried ss ++ es)
  unfolding AreWhole AreSound
  put-sound [] es whole sound = sound
  put-sound (s ∷ ss) es (w, whole) sound = (w, put-sound ss es whole sound)

  -- a plain instruction
  pub plain-sound : (input : Input) (i : Instruction) (dir : Direction) (s : Whole) (h k : Held) → k ≡ put (successors program input i dir s) h → IsWhole program s
      → AreSound program h.entries → AreSound program k.entries
  plain-sound input i dir s h k is w sound =
      subst (λ (x : Held). AreSound program x.entries) (sym is) (put-sound (successors program input i dir s) h.entries (successors-whole input i dir s w) sound)

  -- a lookaround or an atomic group
  pub submatch-sound : (f : Frame) (s : Whole) (b : Bool) (h k : Held) → k ≡ record { forward = b; entries = tried (onward s) ∷ submatched f s ∷ h.entries } → HasGroups program f → IsWhole program s
      → AreSound program h.entries → AreSound program k.entries
  unfolding AreSound
  submatch-sound f s b h k is groups w sound =
      subst (λ (x : Held). AreSound program x.entries) (sym is) (record { loops = w.loops; groups = w.groups }, (w, groups, sound))

  -- what was on top
  pub tried-sound : (s : Whole) (h : Held) → AreSound program (pushed (tried s) h).entries → AreSound program h.entries × IsWhole program s
  unfolding AreSound
  tried-sound s h sound = (sound.1, sound.0)

  pub submatched-sound : (f : Frame) (s : Whole) (h : Held) → AreSound program (pushed (submatched f s) h).entries → AreSound program h.entries × HasGroups program f × IsWhole program s
  unfolding AreSound
  submatched-sound f s h sound = (sound.2, sound.1, sound.0)

  -- one state, and nothing else
  pub alone-sound : (o : ℕ) (h : Held) (b : Bool) → h ≡ record { forward = b; entries = tried (first_state program o) ∷ [] } → AreSound program h.entries
  unfolding AreSound
  alone-sound o h b is =
      subst (λ (x : Held). AreSound program x.entries) (sym is)
      (record { loops = length-replicate program.loops (0, 0); groups = length-replicate program.groups unset }, tt)

  -- a state at another address
  pub whole-at : (s : Whole) (a : ℕ) → IsWhole program s → IsWhole program (record s { at = a })
  whole-at s a w = record { loops = w.loops; groups = w.groups }

  -- one state on top
  pub pushed-sound : (s : Whole) (h k : Held) → k ≡ put (s ∷ []) h → IsWhole program s → AreSound program h.entries → AreSound program k.entries
  unfolding AreSound
  pushed-sound s h k is w sound = subst (λ (x : Held). AreSound program x.entries) (sym is) (w, sound)
