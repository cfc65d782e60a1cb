-- What a caller in C sees of what a handle holds.
use Rattle.std.specs.Prelude.{◌≡◌, ℕ, Option, Some, None}
use Rattle.std.specs.Arc.{arc_value}
use Rattle.regress_meaning.specs.TableParts.{TableParts}
use Rattle.regress_front_tables.specs.TableViews.{parts}
use Rattle.regress.specs.declared.api.Regex.{Regex}
use Rattle.regress_calls.specs.declared.held.Held.{Held}
use Rattle.regress_calls.specs.declared.held.Held.TheVariants as held

-- What a handle holds: nothing, tables with these parts, a compiled pattern, or a search of one with a bound, if any, on its steps.
pub data Content : Type 0 where
  Nothing : Content
  OfTables : TableParts → Content
  OfPattern : Regex → Content
  OfSearch : Regex → (bound : Option ℕ) → Content

-- what a handle that holds this shows
abbrev pub content : Option Held → Content
content None = Nothing
content (Some (held.Tables tables)) = OfTables (parts tables)
content (Some (held.Pattern shared)) = OfPattern (arc_value shared)
content (Some (held.Search search)) = OfSearch (arc_value search.regex) search.max_steps

-- A handle holds what another holds too, where that is shared: tables, or a pattern.
abbrev pub HoldsShared : Content → Content → Type 0
HoldsShared (OfTables ps) c = c ≡ OfTables ps
HoldsShared (OfPattern r) c = c ≡ OfPattern r
HoldsShared _ c = ⊥
