-- The matches that an iterator has still to yield, and what a caller may do with each.
use Rattle.std.specs.Prelude.{◌≡◌, ℕ, List, Option, Some, None, Result, Ok}
use Rattle.std.specs.Iterator.{Yields}
use Rattle.regress_meaning.specs.Matches.{Item}
use Rattle.regress_meaning.specs.Offsets.{of_utf8, Begins}
use Rattle.regress_front_core.specs.declared.error.Error.{Error}
use Rattle.regress_match.specs.declared.found.Match.{Match}
use Rattle.regress_match.specs.Iterating.{GivesMatch, coming_on, steps_on}
use Rattle.regress_match.specs.TextRanges.{IsMatchIn}
use Rattle.regress_engine_inputs.specs.InputViews.{utf8_view}
use Rattle.regress_engine_code.specs.Standing.{names_of}
use Rattle.regress_engine_search.specs.Search.{Search, items_from, places_behind}
use Rattle.regress_programs.specs.declared.matches.Matches.{Matches}

-- the search: with which program, in what text
abbrev pub search_by : Matches → Search
search_by ms = record {
  compiled = ms.executor.context.program.now;
  view = utf8_view ms.executor.context.input;
  searchable = ms.executor.context.searchable;
}

-- the offset from which the next search goes, and none where the iterator has ended
abbrev pub next_from : Matches → Option ℕ
next_from ms = ms.position

-- The bytes of the text that is searched.
abbrev pub searched : Matches → List ℕ
searched ms = (search_by ms).view.units

-- The names of the groups of the pattern that is searched for, as bytes of UTF-8.
abbrev pub searched_names : Matches → List (List ℕ)
searched_names ms = names_of (search_by ms).compiled

-- The items that are still to come, told in bytes.
abbrev pub coming : Matches → List Item
coming ms = coming_on (items_from (search_by ms)) (next_from ms)

-- how many steps there may be up to the end
abbrev pub steps_left : Matches → ℕ
steps_left ms = steps_on (places_behind (search_by ms)) (next_from ms)

-- The search is over.
abbrev pub HasEnded : Matches → Type 0
HasEnded ms = next_from ms ≡ None

-- A step gives the first of the items that were coming in the text, or a refusal, and goes on in the same text.
abbrev pub GivesNext : Matches → Option (Result Match Error) → Matches → Type 0
GivesNext old r new = (searched new ≡ searched old) × (searched_names new ≡ searched_names old)
    × GivesMatch coming HasEnded (IsMatchIn (searched old) (searched_names old)) old r new

-- A search in the text may begin at the offset.
abbrev pub IsStart : List ℕ → ℕ → Type 0
IsStart bytes at = (place : ℕ) × Begins (of_utf8 bytes) at place

-- A search in the text may begin at both ends of the match.
abbrev pub BeginsAndEndsAtStarts : List ℕ → Match → Type 0
BeginsAndEndsAtStarts bytes m = IsStart bytes m.range.start × IsStart bytes m.range.end

module _ {S E : Type 0} where
  -- The fact holds of each match that calls from here on give.
  abbrev pub HoldsOfEach : (S → Option (Result Match E) → S → Type 0) → (Match → Type 0) → S → Type 0
  HoldsOfEach next_gives Q ms = (given : List (Result Match E)) (old new : S) (r : Option (Result Match E)) (m : Match)
      → Yields next_gives ms given old → next_gives old r new → r ≡ Some (Ok m) → Q m
