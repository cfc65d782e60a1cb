-- Slots, which a match fills: room of a caller for the ranges of a match and of its groups.
use Rattle.std.specs.Prelude.{◌≡◌, ℕ, zero, suc, List, [], ◌∷◌, length, map, Option, Some, None, option_map}
use Rattle.std.specs.declared.ops.Range.{Range}
use Rattle.regress_meaning.specs.Matches.{Item}
use Rattle.regress_match.specs.Views.{ends}

-- as many slots as there is room for, with the ranges of groups in order, and nothing behind the last group
unfoldable pub slots_of : {A : Type 0} → ℕ → List (Option A) → List (Option A)
slots_of zero groups = []
slots_of (suc n) [] = None ∷ slots_of n []
slots_of (suc n) (g ∷ groups) = g ∷ slots_of n groups

-- An item, if any, is told by its whole range, and fills slots with that and then the range of each group. Without an item
-- they stay as they were.
abbrev pub Fills : Option Item → Option (Range ℕ) → List (Option (Range ℕ)) → List (Option (Range ℕ)) → Type 0
Fills None found before after = (found ≡ None) × (after ≡ before)
Fills (Some i) found before after =
    (option_map ends found ≡ Some (i.start, i.end)) × (map (option_map ends) after ≡ slots_of (length before) (Some (i.start, i.end) ∷ i.groups))
