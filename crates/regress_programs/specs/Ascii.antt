-- The matches that an iterator over a text of ASCII has still to yield.
use Rattle.std.specs.Prelude.{◌≡◌, ℕ, List, None}
use Rattle.regress_meaning.specs.Matches.{Item}
use Rattle.regress_match.specs.Iterating.{coming_on, steps_on}
use Rattle.regress_engine_inputs.specs.InputViews.{ascii_view}
use Rattle.regress_engine_code.specs.Standing.{names_of}
use Rattle.regress_engine_search.specs.Search.{Search, items_from, places_behind}
use Rattle.regress_programs.specs.declared.ascii.AsciiMatches.{AsciiMatches}

-- the search of a text of ASCII: with which program, in what text
abbrev pub search_in_ascii : AsciiMatches → Search
search_in_ascii ms = record {
  compiled = ms.executor.context.program.now;
  view = ascii_view ms.executor.context.input;
  searchable = ms.executor.context.searchable;
}

-- the bytes of the text of ASCII that is searched
abbrev pub searched_in_ascii : AsciiMatches → List ℕ
searched_in_ascii ms = (search_in_ascii ms).view.units

-- the names of the groups of the pattern that is searched for in it, as bytes of UTF-8
abbrev pub names_in_ascii : AsciiMatches → List (List ℕ)
names_in_ascii ms = names_of (search_in_ascii ms).compiled

-- the items that are still to come in it, told in bytes
abbrev pub coming_in_ascii : AsciiMatches → List Item
coming_in_ascii ms = coming_on (items_from (search_in_ascii ms)) ms.position

-- how many steps there may be up to its end
abbrev pub steps_in_ascii : AsciiMatches → ℕ
steps_in_ascii ms = steps_on (places_behind (search_in_ascii ms)) ms.position

-- the search in it is over
abbrev pub HasEndedAscii : AsciiMatches → Type 0
HasEndedAscii ms = ms.position ≡ None
