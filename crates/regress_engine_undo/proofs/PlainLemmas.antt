-- What a program without lookarounds and atomic groups holds: nothing is around its goal.
use Rattle.std.specs.Prelude.{slice_get, slice_set, option_map}
use Rattle.std.proofs.Common.{◌≡◌, ℕ, true, false, List, [], ◌∷◌, map, Option, Some, None, refl, sym, ap, ◌∙◌, arith}
use Rattle.std.proofs.lemmas.List.Folds.{list_any_at}
use Rattle.std.proofs.lemmas.Option.{slice_get-map, slice_get_within, get_or_from_slice_get}
use Rattle.regress_meaning.specs.Meaning.{Direction}
use Rattle.regress_meaning.specs.Inputs.{Input}
use Rattle.regress_engine_input.specs.Views.{View, direction_of}
use Rattle.regress_engine_insn.specs.Instructions.{Instruction, Program, Stands, submatch}
use Rattle.regress_engine_insn.specs.Instructions as code
use Rattle.regress_engine_insn.specs.InsnViews.{instruction}
use Rattle.regress_engine_insn.specs.declared.insn.Insn.{Insn}
use Rattle.regress_engine_analysis.specs.Submatches.{begins_submatch, has_submatches}
use Rattle.regress_engine_runs.specs.States.{Marks}
use Rattle.regress_engine_runs.specs.Runs.{one_more}
use Rattle.regress_engine_runs.specs.UndoStack.{Undo, Frame, old_loop, old_group, resume, iterate, give_back, take_on, frame, tried, whole, stands_for}
use Rattle.regress_engine_search.specs.Tasks.{outside_of, ComesAs}
use Rattle.regress_engine_search.proofs.TaskLemmas.{ends-outermost, outside-first}
use Rattle.regress_engine_undo.specs.declared.undo.Spot.{Spot}
use Rattle.regress_engine_undo.specs.Held.{Held}
use Rattle.regress_engine_undo.specs.Sound.{IsSound, IsHeld}
use Rattle.regress_engine_undo.specs.Tasks.{task, state_at}
use Rattle.regress_engine_undo.specs.Leaving.{work_of}

-- Where no instruction begins one, none stands in the program.
pub none-stands : (program : Program) (insns : List Insn) → program.instructions ≡ map instruction insns → has_submatches insns ≡ false
    → (f : Frame) → Stands program f.at (submatch f.kind f.first f.last f.continuation) → ⊥
none-stands program insns is none f here = by_item (slice_get insns f.at) refl
  where
    begun : Instruction
    begun = submatch f.kind f.first f.last f.continuation

    told : option_map instruction (slice_get insns f.at) ≡ Some begun
    told = sym (slice_get-map instruction insns f.at) ∙ ap (λ (is : List Instruction). slice_get is f.at) (sym is) ∙ here

    by_item : (o : Option Insn) → slice_get insns f.at ≡ o → ⊥
    by_item None e = let same : None ≡ Some begun = ap (option_map instruction) (sym e) ∙ told in absurd (cc same)
    by_item (Some i) e =
        let same : Some (instruction i) ≡ Some begun = ap (option_map instruction) (sym e) ∙ told in
        let alike : instruction i ≡ begun = cc in
        let begins = ap begins_submatch alike in
        let there = ap (λ j. begins_submatch (instruction j)) (get_or_from_slice_get insns f.at i i e) ∙ begins in
        let some : has_submatches insns ≡ true = list_any_at (λ j. begins_submatch (instruction j)) insns f.at i (slice_get_within insns f.at i e) there in
        let both : true ≡ false = sym some ∙ none in
        absurd (grind arith)

module _ (program : Program) (v : View) (none : (f : Frame) → Stands program f.at (submatch f.kind f.first f.last f.continuation) → ⊥) (input : Input) where
  -- What is held then has nothing outside.
  pub no-frame : (dir : Direction) (stack : List Undo) (loops : List (ℕ × ℕ)) (groups : List Marks) → IsSound program v stack loops groups
      → outside_of (stands_for program input dir stack loops groups) ≡ None
  unfolding stands_for IsSound
  no-frame dir [] loops groups sound = refl
  no-frame dir (old_loop id x ∷ stack) loops groups sound = no-frame dir stack (slice_set loops id x) groups sound.1
  no-frame dir (old_group k m ∷ stack) loops groups sound = no-frame dir stack loops (slice_set groups k m) sound.1
  no-frame dir (resume at o ∷ stack) loops groups sound =
      outside-first (whole at o loops groups ∷ []) (stands_for program input dir stack loops groups) ∙ no-frame dir stack loops groups sound
  no-frame dir (iterate id begin o ∷ stack) loops groups sound =
      outside-first (one_more id begin (whole begin o loops groups) ∷ []) (stands_for program input dir stack loops groups) ∙ no-frame dir stack loops groups sound.3
  no-frame dir (give_back at near far ∷ stack) loops groups sound = outside-first _ (stands_for program input dir stack loops groups) ∙ no-frame dir stack loops groups sound.1
  no-frame dir (take_on at o left ∷ stack) loops groups sound = outside-first _ (stands_for program input dir stack loops groups) ∙ no-frame dir stack loops groups sound.1
  no-frame dir (frame f ∷ stack) loops groups sound = absurd (none f sound.1)
  no-frame dir (tried at o ∷ stack) loops groups sound = no-frame dir stack loops groups sound

  -- So a goal is that of the whole program, and the state there is the answer.
  pub goal-ends : (p : Spot) (h : Held) → IsHeld program v h → Stands program p.at code.goal → ComesAs program input (task program input true p h) (state_at p h)
  goal-ends p h held here =
      ends-outermost program input (direction_of p.forward) (state_at p h) (work_of program input (direction_of p.forward) h)
      (no-frame (direction_of p.forward) h.stack h.loops h.groups held.sound) here
