-- What surely leads nowhere.
use Rattle.std.specs.Prelude.{◌≡◌, ℕ, Bool, false, Option, Some, None}
use Rattle.regress_meaning.specs.Inputs.{Input}
use Rattle.regress_engine_insn.specs.Instructions.{Program}
use Rattle.regress_engine_runs.specs.UndoStack.{give_back, take_on}
use Rattle.regress_engine_search.specs.Tasks.{Leads}
use Rattle.regress_engine_undo.specs.declared.undo.Spot.{Spot}
use Rattle.regress_engine_undo.specs.Held.{Held, pushed}
use Rattle.regress_engine_undo.specs.Tasks.{task}

-- what is held, with the record of what is given back from a far offset, if from any
abbrev pub given_from : (at near : ℕ) → Option ℕ → Held → Held
given_from at near None h = h
given_from at near (Some far) h = pushed (give_back at near far) h

-- What is given back from one offset leads to what is given back from another, or to nothing.
abbrev pub GivesFrom : Program → Input → (forward : Bool) → (at near far : ℕ) → Option ℕ → Type 0
GivesFrom program input forward at near far found = (p : Spot) (h : Held) → p.forward ≡ forward
    → Leads program input 0 (task program input false p (pushed (give_back at near far) h)) (task program input false p (given_from at near found h))

-- what is held, with the record of what is taken on from an offset, and how many may follow, if from any
abbrev pub taken_from : (at : ℕ) → Option (ℕ × ℕ) → Held → Held
taken_from at None h = h
taken_from at (Some way) h = pushed (take_on at way.0 way.1) h

-- What is taken on from one offset leads to what is taken on from another, or to nothing.
abbrev pub TakesFrom : Program → Input → (forward : Bool) → (at near left : ℕ) → Option (ℕ × ℕ) → Type 0
TakesFrom program input forward at near left found = (p : Spot) (h : Held) → p.forward ≡ forward
    → Leads program input 0 (task program input false p (pushed (take_on at near left) h)) (task program input false p (taken_from at found h))
