-- Keys of what an executor holds.
use Rattle.std.specs.Prelude.{◌≡◌, ℕ, ◌-◌, true, List}
use Rattle.regress_meaning.specs.Inputs.{Input}
use Rattle.regress_engine_input.specs.Views.{direction_of}
use Rattle.regress_engine_insn.specs.Instructions.{Instruction, Program, Stands}
use Rattle.regress_engine_undo.specs.declared.undo.Spot.{Spot}
use Rattle.regress_engine_memory.specs.Keys.{AreFree, AreFresh, ExitsFail, FailsAt, FailsWhere, HaveKey, Key, Keyed}

-- the key of a spot, with classes
abbrev pub key_at : Spot → (ℕ → ℕ) → Key
key_at p classes = record { dir = direction_of p.forward; at = p.at; offset = p.offset; classes = classes }

-- From a spot no run has an answer, with whatever loops that have the classes of those that are held.
abbrev pub FailsWith : Program → Input → Keyed → Spot → List (ℕ × ℕ) → Type 0
FailsWith program input keyed s loops = (classes : ℕ → ℕ) × FailsAt program input keyed (key_at s classes) × HaveKey keyed (key_at s classes) loops

-- The same, with whatever loops of which some are as fresh besides.
abbrev pub FailsHere : Program → Input → Keyed → Spot → List (ℕ × ℕ) → Type 0
FailsHere program input keyed s loops = (classes : ℕ → ℕ) × (fresh : List ℕ) × FailsWhere program input keyed fresh (key_at s classes)
    × HaveKey keyed (key_at s classes) loops × AreFresh keyed.flow s.offset fresh loops

-- From a spot no run has an answer, with whatever loops that have the classes of those that are held, nor behind however many
-- further iterations of the instruction before its address.
abbrev pub ExitsFailWith : Program → Input → Keyed → Spot → List (ℕ × ℕ) → Type 0
ExitsFailWith program input keyed s loops = (classes : ℕ → ℕ)
    × ((i : Instruction) → Stands program (s.at - 1) i → ExitsFail program input keyed i (key_at s classes)) × HaveKey keyed (key_at s classes) loops

-- If the loops that are held show that no state with their classes may do more, no run from a spot has an answer.
abbrev pub FailsIfFree : Program → Input → Keyed → (last : ℕ) → Spot → List (ℕ × ℕ) → Type 0
FailsIfFree program input keyed last s loops = keyed.flow.calm s.at ≡ true → (classes : ℕ → ℕ) (fresh : List ℕ) → AreFree keyed last fresh (key_at s classes) loops
    → FailsWhere program input keyed fresh (key_at s classes)
