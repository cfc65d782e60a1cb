-- When what an executor holds is sound: each record may be undone.
use Rattle.std.specs.Prelude.{◌≡◌, ℕ, ◌+◌, ◌^◌, ◌<◌, List, [], ◌∷◌, length, get_or, slice_set}
use Rattle.regress_engine_input.specs.Views.{View, reading_of}
use Rattle.regress_engine_insn.specs.Instructions.{Program, Stands, submatch}
use Rattle.regress_engine_runs.specs.States.{Marks}
use Rattle.regress_engine_runs.specs.Meets.{IsAtPlace}
use Rattle.regress_engine_runs.specs.UndoStack.{Undo, old_loop, old_group, resume, iterate, give_back, take_on, frame, tried}
use Rattle.regress_engine_search.specs.Ready.{IsBody}
use Rattle.regress_engine_search.specs.Tasks.{HasGroups}
use Rattle.regress_engine_undo.specs.Held.{Held}

module _ (program : Program) (v : View) where
  -- Each record may be undone where these are the loops and groups: loops and groups are there, a count may rise by one,
  -- characters are read at places, and what is tried inside is a lookaround or an atomic group of the program.
  unfoldable pub IsSound : List Undo → List (ℕ × ℕ) → List Marks → Type 0
  IsSound [] loops groups = Unit {0}
  IsSound (old_loop id x ∷ stack) loops groups = (id < program.loops) × IsSound stack (slice_set loops id x) groups
  IsSound (old_group k m ∷ stack) loops groups = (k < program.groups) × IsSound stack loops (slice_set groups k m)
  IsSound (resume at offset ∷ stack) loops groups = IsSound stack loops groups
  IsSound (iterate id begin offset ∷ stack) loops groups =
      (id < program.loops) × ((get_or loops id (0, 0)).0 + 1 < 2 ^ 64) × (begin + 1 < 2 ^ 64) × IsSound stack loops groups
  IsSound (give_back at near far ∷ stack) loops groups = IsAtPlace (reading_of v) far × IsSound stack loops groups
  IsSound (take_on at offset left ∷ stack) loops groups = IsBody program v at offset × IsSound stack loops groups
  IsSound (frame f ∷ stack) loops groups =
      HasGroups program f × Stands program f.at (submatch f.kind f.first f.last f.continuation) × IsSound stack loops groups
  IsSound (tried at offset ∷ stack) loops groups = IsSound stack loops groups

  -- What is held is the program's, and sound.
  pub record IsHeld (h : Held) : Type 0 where
    pub loops : length h.loops ≡ program.loops
    pub groups : length h.groups ≡ program.groups
    pub sound : IsSound h.stack h.loops h.groups
