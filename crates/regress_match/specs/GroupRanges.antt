-- The range of one group of a match, by its number and by its name.
use Rattle.std.specs.Prelude.{ℕ, List, [], ◌∷◌, Option, None, unwrap_or, slice_get, slice_range, if◌then◌else◌}
use Rattle.std.specs.declared.ops.Range.{Range}
use Rattle.regress_meaning.specs.Text.{same_text}
use Rattle.regress_match.specs.declared.found.Match.{Match}
use Rattle.regress_match.specs.GroupViews.{groups_of, names_of_match}

-- what the group of that number took, where 0 is the whole match, and nothing past the last group
abbrev pub numbered : {A : Type 0} → List (Option A) → ℕ → Option A
numbered groups n = unwrap_or (slice_get groups n) None

-- what the first group took that has the name
abbrev pub first_named : {A : Type 0} → List ℕ → List (List ℕ) → List (Option A) → Option A
first_named name (n ∷ names) (g ∷ groups) = if same_text n name then g else first_named name names groups
first_named name _ _ = None

-- the same, and nothing for the empty name
abbrev pub named : {A : Type 0} → List (List ℕ) → List (Option A) → List ℕ → Option A
named names groups [] = None
named names groups (c ∷ name) = first_named (c ∷ name) names groups

-- the range of the group of that number
abbrev pub range_numbered : Match → ℕ → Option (Range ℕ)
range_numbered m n = numbered (groups_of m) n

-- the range of the first group of that name
abbrev pub range_named : Match → List ℕ → Option (Range ℕ)
range_named m name = named (names_of_match m) m.captures.items name

-- the part of a text at a range
abbrev pub part_of : List ℕ → Range ℕ → List ℕ
part_of text r = slice_range text r.start r.end
