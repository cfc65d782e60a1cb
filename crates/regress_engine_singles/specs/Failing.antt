-- States that lead nowhere.
use Rattle.std.specs.Prelude.{◌≡◌, ℕ, true, List, [], ◌∷◌, ◌++◌, None}
use Rattle.regress_meaning.specs.Meaning.{Direction}
use Rattle.regress_meaning.specs.Inputs.{Input}
use Rattle.regress_front_nodes.specs.Trees.{atomic}
use Rattle.regress_engine_insn.specs.Instructions.{Instruction, Program, Stands}
use Rattle.regress_engine_insn.specs.Instructions as code
use Rattle.regress_engine_runs.specs.States.{Marks, Whole, onward}
use Rattle.regress_engine_runs.specs.Runs.{advance, is_plain, successors}
use Rattle.regress_engine_runs.specs.UndoStack.{whole}

module _ (program : Program) (input : Input) where
  -- States fail: with steps of plain instructions, and atomic groups whose contents fail, none of them is left.
  pub data Fail : Direction → List Whole → Type 0 where
    failed : {dir : Direction} → Fail dir []
    steps : {dir : Direction} {i : Instruction} {s : Whole} {ss : List Whole} → Stands program s.at i → is_plain i ≡ true
        → Fail dir (successors program input i dir s ++ ss) → Fail dir (s ∷ ss)
    inner : {dir : Direction} {first last continuation : ℕ} {s : Whole} {ss : List Whole} → Stands program s.at (code.submatch atomic first last continuation)
        → Fail dir (onward s ∷ []) → Fail dir ss → Fail dir (s ∷ ss)

  -- from an address and an offset no match can be reached, whatever the loops and the groups are
  abbrev pub IsDead : Direction → (at offset : ℕ) → Type 0
  IsDead dir at o = (loops : List (ℕ × ℕ)) (groups : List Marks) → Fail dir (whole at o loops groups ∷ [])

  -- an instruction takes nothing beside an offset
  abbrev pub TakesNothing : Direction → Instruction → ℕ → Type 0
  TakesNothing dir i o = (groups : List Marks) → None ≡ advance program input i dir groups o
