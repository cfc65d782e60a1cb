-- What a search writes to slots.
use Rattle.std.specs.Prelude.{◌≡◌, ℕ, ◌<◌, List, length, Option, Some, None, option_map}
use Rattle.std.specs.declared.ops.Range.{Range}
use Rattle.regress_meaning.specs.Matches.{Item}
use Rattle.regress_match.specs.Views.{ends}
use Rattle.regress_calls.specs.Ranges.{range_numbered, group_numbered}

-- Slots hold the ranges of a match by their numbers, as many as there are slots.
abbrev pub HoldItem : Item → List (Option (Range ℕ)) → Type 0
HoldItem i slots = (k : ℕ) → k < length slots → range_numbered slots k ≡ group_numbered i k

-- What is written to slots for the match that there is, if any, and its range; nothing where there is none.
abbrev pub IsInSlots : Option Item → (old : List (Option (Range ℕ))) → Option (Range ℕ) → (new : List (Option (Range ℕ))) → Type 0
IsInSlots None old found new = (found ≡ None) × (new ≡ old)
IsInSlots (Some i) old found new = (option_map ends found ≡ Some (i.start, i.end)) × HoldItem i new
