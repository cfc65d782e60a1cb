-- What is searched for in which text, and where a search begins and goes on.
use Rattle.std.specs.Prelude.{◌≡◌, ℕ, ◌-◌, nat_le, List, length, map, Option, Some, None, if◌then◌else◌, encode_utf8_all}
use Rattle.regress_meaning.specs.Meaning.{Context}
use Rattle.regress_meaning.specs.Matches.{Item}
use Rattle.regress_meaning.specs.Offsets.{told, Begins}
use Rattle.regress_front_tables.specs.TableViews.{table}
use Rattle.regress_front_nodes.specs.Trees.{tree}
use Rattle.regress_front_nodes.specs.Names.{names_in}
use Rattle.regress_match.specs.declared.found.Match.{Match}
use Rattle.regress_match.specs.GroupNames.{shared_names}
use Rattle.regress_match.specs.TextRanges.{utf8_reading, IsMatchIn}
use Rattle.regress_evaluator.specs.declared.search.CompiledPattern.{CompiledPattern}
use Rattle.regress_evaluator.specs.declared.search.Search.{Search}
use Rattle.regress_front_nodes.specs.NodeMatches.{node_match_list}

-- a place, or none past place n
abbrev pub place_within : ℕ → ℕ → Option ℕ
place_within n place = if nat_le place n then Some place else None

-- the pattern that is searched for
abbrev pub pattern_of : Search → CompiledPattern
pattern_of s = s.pattern

-- the code points of the text that is searched
abbrev pub points_of : Search → List ℕ
points_of s = s.text.points.items

-- the names of the pattern's groups by their numbers, as bytes of UTF-8
abbrev pub names_of : Search → List (List ℕ)
names_of s = shared_names s.group_names

-- what a compiled pattern is searched for in a text by
abbrev pub searching : CompiledPattern → List ℕ → Context
searching pattern text = record { text = text; table = table pattern.tables.now; unicode = pattern.unicode }

-- how many groups a compiled pattern has
abbrev pub group_count_of : CompiledPattern → ℕ
group_count_of pattern = length (names_in (tree pattern.node.now))

-- the items of a compiled pattern in a text from a place on, told in places
abbrev pub matches_of : CompiledPattern → List ℕ → ℕ → List Item
matches_of pattern text = node_match_list (searching pattern text) (group_count_of pattern) (tree pattern.node.now)

-- the items from a place on, told in bytes
abbrev pub items_from : Search → ℕ → List Item
items_from s place = map (told (utf8_reading (points_of s))) (matches_of (pattern_of s) (points_of s) place)

-- how many places lie behind one
abbrev pub places_behind : Search → ℕ → ℕ
places_behind s place = length (points_of s) - place

-- a search that starts at an offset in bytes begins at the place there, and past the end at none
abbrev pub StartsAt : Search → ℕ → Option ℕ → Type 0
StartsAt s at position =
    (place : ℕ) → Begins (utf8_reading (points_of s)) at place → position ≡ place_within (length (points_of s)) place

-- a match lies in the text that is searched, and its groups have the pattern's names
abbrev pub IsMatchOf : Search → Match → Type 0
IsMatchOf s m = IsMatchIn (encode_utf8_all (points_of s)) (names_of s) m
