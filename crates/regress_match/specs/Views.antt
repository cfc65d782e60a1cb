-- How the values of the public calls stand to the definitions.
use Rattle.std.specs.Prelude.{ℕ, map, option_map}
use Rattle.std.specs.declared.ops.Range.{Range}
use Rattle.regress_meaning.specs.Matches.{Item}
use Rattle.regress_match.specs.declared.found.Match.{Match}

-- the ends of a range
abbrev pub ends : Range ℕ → ℕ × ℕ
ends r = (r.start, r.end)

-- the item that a match is
abbrev pub item_of : Match → Item
item_of m = record { start = m.range.start; end = m.range.end; groups = map (option_map ends) m.captures.items }
