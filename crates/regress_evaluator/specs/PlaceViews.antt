-- How matches that are told in places stand to the definitions.
use Rattle.std.specs.Prelude.{ℕ, List, map, option_map}
use Rattle.std.specs.declared.ops.Range.{Range}
use Rattle.regress_meaning.specs.Matches.{Item}
use Rattle.regress_meaning.specs.Offsets.{offset}
use Rattle.regress_match.specs.TextRanges.{utf8_reading}
use Rattle.regress_evaluator.specs.declared.found.Places.{Places}
use Rattle.regress_evaluator.specs.declared.found.Found.{Found}

-- two places, the start and the end
abbrev pub ends : Places → ℕ × ℕ
ends p = (p.start, p.end)

-- the item that was found
abbrev pub item_of : Found → Item
item_of f = record { start = f.span.start; end = f.span.end; groups = map (option_map ends) f.groups.items }

-- what lies between two places, told in bytes
abbrev pub told_range : List ℕ → Places → Range ℕ
told_range points p = record { start = offset (utf8_reading points) p.start; end = offset (utf8_reading points) p.end }
