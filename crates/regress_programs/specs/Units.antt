-- The matches that an iterator over 16-bit units has still to yield.
use Rattle.std.specs.Prelude.{◌≡◌, ℕ, ◌≤◌, List, None, All, IfSome, length}
use Rattle.std.specs.declared.ops.Range.{Range}
use Rattle.regress_meaning.specs.Matches.{Item}
use Rattle.regress_meaning.specs.Offsets.{Reading, Begins}
use Rattle.regress_match.specs.declared.found.Match.{Match}
use Rattle.regress_match.specs.Iterating.{coming_on, steps_on}
use Rattle.regress_engine_inputs.specs.InputViews.{utf16_view, ucs2_view}
use Rattle.regress_engine_search.specs.Search.{Search, items_from, places_behind}
use Rattle.regress_programs.specs.declared.units.Utf16Matches.{Utf16Matches}
use Rattle.regress_programs.specs.declared.units.Ucs2Matches.{Ucs2Matches}

-- the same of units of UTF-16
abbrev pub search_in_utf16 : Utf16Matches → Search
search_in_utf16 ms = record {
  compiled = ms.executor.context.program.now;
  view = utf16_view ms.executor.context.input;
  searchable = ms.executor.context.searchable;
}

-- the same of units that are each one character
abbrev pub search_in_ucs2 : Ucs2Matches → Search
search_in_ucs2 ms = record {
  compiled = ms.executor.context.program.now;
  view = ucs2_view ms.executor.context.input;
  searchable = ms.executor.context.searchable;
}

-- the items that are still to come in units of UTF-16, told in units
abbrev pub coming_in_utf16 : Utf16Matches → List Item
coming_in_utf16 ms = coming_on (items_from (search_in_utf16 ms)) ms.position

-- the items that are still to come in units that are each one character
abbrev pub coming_in_ucs2 : Ucs2Matches → List Item
coming_in_ucs2 ms = coming_on (items_from (search_in_ucs2 ms)) ms.position

-- how many steps there may be up to the end of units of UTF-16
abbrev pub steps_in_utf16 : Utf16Matches → ℕ
steps_in_utf16 ms = steps_on (places_behind (search_in_utf16 ms)) ms.position

-- how many steps there may be up to the end of units that are each one character
abbrev pub steps_in_ucs2 : Ucs2Matches → ℕ
steps_in_ucs2 ms = steps_on (places_behind (search_in_ucs2 ms)) ms.position

-- the search in units of UTF-16 is over
abbrev pub HasEndedUtf16 : Utf16Matches → Type 0
HasEndedUtf16 ms = ms.position ≡ None

-- the search in units that are each one character is over
abbrev pub HasEndedUcs2 : Ucs2Matches → Type 0
HasEndedUcs2 ms = ms.position ≡ None

-- a range lies in units, and a search may begin at both its ends
abbrev pub LiesInUnits : Reading → List ℕ → Range ℕ → Type 0
LiesInUnits reading units r =
    (r.start ≤ r.end) × (r.end ≤ length units) × ((place : ℕ) × Begins reading r.start place) × ((place : ℕ) × Begins reading r.end place)

-- so does the whole range of a match, and each range that a group took
abbrev pub IsMatchInUnits : Reading → List ℕ → Match → Type 0
IsMatchInUnits reading units m = LiesInUnits reading units m.range × All (λ g. IfSome g (LiesInUnits reading units)) m.captures.items
