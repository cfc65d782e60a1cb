-- The items of a program in a text: what a search from an offset finds, and how the next search goes on.
use Rattle.std.specs.Prelude.{◌≡◌, ℕ, ◌==◌, List, [], ◌∷◌, length, Option, Some, None, if◌then◌else◌, map, option_map, nat_le}
use Rattle.regress_meaning.specs.Meaning.{Forward}
use Rattle.regress_meaning.specs.Matches.{Item}
use Rattle.regress_meaning.specs.Inputs.{Input}
use Rattle.regress_engine_insn.specs.Instructions.{Program}
use Rattle.regress_engine_runs.specs.States.{range_of, Whole, first_state}
use Rattle.regress_engine_runs.specs.Runs.{Runs}

-- the item of an answer, of a run that began at an offset
abbrev pub item_of : ℕ → Whole → Item
item_of at w = record { start = at; end = w.offset; groups = map range_of w.groups }

-- where a search begins that is asked for from an offset: there, or past the end of the text nowhere
abbrev pub begins_at : Input → ℕ → Option ℕ
begins_at input at = if nat_le at (length input.units) then Some at else None

module _ (program : Program) (input : Input) where
  -- the run that begins at an offset, at the first instruction with nothing set, has this answer
  abbrev pub Answers : ℕ → Option Whole → Type 0
  Answers at r = Runs program input Forward (first_state program at ∷ []) r

  -- A search from an offset on finds an item, or none.
  pub data Finds : ℕ → Option Item → Type 0 where
    -- that of the run that begins there, where it has an answer
    found : {at : ℕ} {w : Whole} → Answers at (Some w) → Finds at (Some (item_of at w))
    -- else what a search finds behind the next code point
    later : {at c next : ℕ} {i : Option Item} → Answers at None → input.next Forward at ≡ Some (c, next) → Finds next i → Finds at i
    -- and none where no code point follows
    nowhere : {at : ℕ} → Answers at None → input.next Forward at ≡ None → Finds at None

  -- where the next search begins behind an item: at its end, or where it is empty behind the next code point, if there is one
  abbrev pub goes_on : Item → Option ℕ
  goes_on i = if i.start == i.end then option_map (λ x. x.1) (input.next Forward i.end) else Some i.end

  -- The items that searches find one after another, from an offset on, if there is one.
  pub data Lists : Option ℕ → List Item → Type 0 where
    -- with no offset to begin at there are none
    over : Lists None []
    -- nor where a search finds none
    no_item : {at : ℕ} → Finds at None → Lists (Some at) []
    -- else what it finds, and then those behind it
    next_item : {at : ℕ} {i : Item} {items : List Item} → Finds at (Some i) → Lists (goes_on i) items → Lists (Some at) (i ∷ items)
