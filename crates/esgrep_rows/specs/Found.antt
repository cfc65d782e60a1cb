-- What is found in a text, and what is shown of it.
use Rattle.std.specs.Prelude.{ℕ, ◌≤◌, ◌==◌, Bool, List, [], ◌∷◌, map, slice_range, Option, Some, None}
use Rattle.std.specs.List.{list_any}
use Rattle.regress_meaning.specs.Matches.{Item}
use Rattle.regress_replacing.specs.Replacing.{replaced}
use Rattle.regress_replacing.specs.Substitution.{substitution}
use Rattle.regress_match.specs.declared.found.Match.{Match}
use Rattle.regress_match.specs.Views.{item_of}
use Rattle.regress_match.specs.GroupViews.{names_of_match}
use Rattle.regress_match.specs.TextRanges.{LiesInText}

-- A match, told in bytes of the text, and the text that is shown for it: its own, or what a replacement text gives.
pub record Found : Type 0 where
  pub item : Item
  pub shown : List ℕ

-- what is found in each text that stands at an offset of a whole one
abbrev pub Find : Type 0
Find = ℕ → List ℕ → List Found

-- What a search tells of the lines of a text: what is found in each, and of each offset whether the search of the line there was given up.
pub record Seen : Type 0 where
  pub find : Find
  pub is_given_up : ℕ → Bool

-- an offset is one of these
abbrev pub is_among : List ℕ → ℕ → Bool
is_among starts at = list_any (λ start. start == at) starts

-- what a search tells that was given up for the lines at these offsets, and found this in all others
abbrev pub but_for : List ℕ → Find → Seen
but_for starts find = record { find = find; is_given_up = is_among starts }

-- a text with what is shown in the place of each match
abbrev pub rewritten : List ℕ → List Found → List ℕ
rewritten text founds = replaced text (map (λ f. f.item) founds) (map (λ f. f.shown) founds)

-- What is shown of a match, where the groups have these names: its text, or what a template of the standard gives.
abbrev pub shown_at : Option (List ℕ) → List (List ℕ) → List ℕ → Item → List ℕ
shown_at None names text i = slice_range text i.start i.end
shown_at (Some template) names text i = substitution names template text i

-- a match of a text, with what is shown of it
abbrev pub found_at : Option (List ℕ) → List (List ℕ) → List ℕ → Item → Found
found_at template names text i = record { item = i; shown = shown_at template names text i }

-- the same of a value of the code
abbrev pub found_of : Option (List ℕ) → List ℕ → Match → Found
found_of template text m = found_at template (names_of_match m) text (item_of m)

-- matches lie in a text one behind the other, from an offset on
abbrev pub LieInOrder : List ℕ → ℕ → List Match → Type 0
LieInOrder text at [] = Unit {0}
LieInOrder text at (m ∷ ms) = (at ≤ m.range.start) × LiesInText text m × LieInOrder text m.range.end ms
