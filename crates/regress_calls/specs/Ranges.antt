-- Ranges as they stand in a caller's memory.
use Rattle.std.specs.Prelude.{◌≡◌, ℕ, ◌-◌, ◌^◌, ◌+◌, ◌<◌, ◌≤◌, List, ◌∷◌, length, Option, Some, None, option_map, slice_get, unwrap_or}
use Rattle.std.specs.declared.ops.Range.{Range}
use Rattle.regress_meaning.specs.Matches.{Item}
use Rattle.regress_match.specs.Views.{ends}
use Rattle.regress_calls.specs.declared.text_range.TextRange.{TextRange}

-- what stands for both ends of a range that is not set
abbrev pub unset : ℕ
unset = 2 ^ 64 - 1

-- what is shown of ends, if there are any
abbrev pub shown_range : Option (ℕ × ℕ) → TextRange
shown_range None = record { start = unset; end = unset }
shown_range (Some e) = record { start = e.0; end = e.1 }

-- the ends of the range with a number, if it is set; none past the last
abbrev pub range_numbered : List (Option (Range ℕ)) → ℕ → Option (ℕ × ℕ)
range_numbered slots k = unwrap_or (option_map (option_map ends) (slice_get slots k)) None

-- the ends of a match, and those of its groups
abbrev pub ranges_of_item : Item → List (Option (ℕ × ℕ))
ranges_of_item i = Some (i.start, i.end) ∷ i.groups

-- the ends of the whole match, which has the number 0, or of a group; none past the last
abbrev pub group_numbered : Item → ℕ → Option (ℕ × ℕ)
group_numbered i k = unwrap_or (slice_get (ranges_of_item i) k) None

-- Memory shows a match of a pattern with so many groups: its range and those of its groups, as many as there is room for, and
-- unset ones past the last.
pub record ShowsItem (groups : ℕ) (i : Item) (ranges : List TextRange) : Type 0 where
  pub set : (k : ℕ) → k < length ranges → k ≤ groups → slice_get ranges k ≡ Some (shown_range (group_numbered i k))
  pub past : (k : ℕ) → k < length ranges → groups < k → slice_get ranges k ≡ Some (shown_range None)

-- What a search answers to the match that there is, if any: how many ranges a match has, which are shown; and 0, with memory as it
-- was, where there is none.
abbrev pub IsAnswerTo : (groups : ℕ) → Option Item → (old : List TextRange) → (count : ℕ) → (new : List TextRange) → Type 0
IsAnswerTo groups None old count new = (count ≡ 0) × (new ≡ old)
IsAnswerTo groups (Some i) old count new = (count ≡ groups + 1) × ShowsItem groups i new
