-- The answer of a run from an offset, and what a search finds by such runs.
use Rattle.std.specs.Prelude.{◌≡◌, ℕ, List, Option, Some, None}
use Rattle.regress_meaning.specs.Inputs.{Input}
use Rattle.regress_engine_insn.specs.Instructions.{Program}
use Rattle.regress_meaning.specs.Matches.{Item}
use Rattle.regress_engine_runs.specs.States.{Marks, Whole}
use Rattle.regress_engine_runs.specs.Items.{Answers, Finds, item_of}

-- The run from an offset ends at another, with these groups; or it has no answer.
abbrev pub IsAnswer : Program → Input → ℕ → Option ℕ → List Marks → Type 0
IsAnswer program input start None groups = Answers program input start None
IsAnswer program input start (Some end) groups = (w : Whole) × Answers program input start (Some w) × (w.offset ≡ end) × (w.groups ≡ groups)

-- The run from an offset gives an item, or none; no other place is looked at.
abbrev pub IsOutcome : Program → Input → ℕ → Option Item → Type 0
IsOutcome program input start None = Answers program input start None
IsOutcome program input start (Some item) = (w : Whole) × Answers program input start (Some w) × (item_of start w ≡ item)

-- A search from an offset found an answer between two others, with these groups; or none.
abbrev pub IsFound : Program → Input → ℕ → Option (ℕ × ℕ) → List Marks → Type 0
IsFound program input at None groups = Finds program input at None
IsFound program input at (Some (start, end)) groups = (w : Whole) × Finds program input at (Some (item_of start w)) × (w.offset ≡ end) × (w.groups ≡ groups)

-- What a search from one offset finds is what one from another does.
abbrev pub FindsOn : Program → Input → ℕ → ℕ → Type 0
FindsOn program input offset start = (i : Option Item) → Finds program input start i → Finds program input offset i
