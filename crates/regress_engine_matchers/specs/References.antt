-- What a group took, over what an input shows.
use Rattle.std.specs.Prelude.{◌≡◌, ℕ, ◌-◌, ◌≤◌, true, List, [], ◌∷◌, length, reverse, Option, Some, slice_range, option_and_then}
use Rattle.regress_meaning.specs.Meaning.{Direction, Forward, Backward, same}
use Rattle.regress_meaning.specs.Offsets.{offset}
use Rattle.regress_meaning.specs.Inputs.{Input}
use Rattle.regress_meaning.specs.Steps.{passed}
use Rattle.regress_engine_input.specs.Views.{View, input_of, reading_of, reading_of_kind}

-- a place of the text has this offset
abbrev pub IsPlace : View → ℕ → Type 0
IsPlace v o = (p : ℕ) × (p ≤ length (reading_of v).points) × (offset (reading_of v) p ≡ o)

-- how many units are left in a direction from one offset on to another
abbrev pub units_left : Direction → ℕ → ℕ → ℕ
units_left Forward at end = end - at
units_left Backward at end = at - end

-- the offset at which a text of so many units begins, as it is read in a direction
abbrev pub begin_in : Direction → ℕ → ℕ
begin_in Forward n = 0
begin_in Backward n = n

-- the offset behind the code point beside one, where that has the same canon as this one
abbrev pub alike : Input → Direction → ℕ → ℕ → Option ℕ
alike input dir c o = passed (same input.table input.unicode true c) (input.next dir o)

-- code points one after another stand beside an offset, each by an equal canon: the offset behind the last
unfoldable pub all_alike : Input → Direction → List ℕ → ℕ → Option ℕ
all_alike input dir [] o = Some o
all_alike input dir (c ∷ cs) o = option_and_then (all_alike input dir cs) (alike input dir c o)

-- code points as they are read in a direction
abbrev pub in_turn : Direction → List ℕ → List ℕ
in_turn Forward cs = cs
in_turn Backward cs = reverse cs

-- What stands from one offset on up to another, read as a text of its own, stands beside a third by equal canons: the offset
-- behind it.
abbrev pub part_repeated : View → Direction → ℕ → ℕ → ℕ → Option ℕ
part_repeated v dir a b o = all_alike (input_of v) dir (in_turn dir (reading_of_kind v.kind (slice_range v.units a b)).points) o
