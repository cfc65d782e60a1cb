-- What an iterator over groups has still to yield.
use Rattle.std.specs.Prelude.{ℕ, List, ◌∷◌, drop, Option, Some}
use Rattle.regress_match.specs.GroupNames.{shared_names}
use Rattle.std.specs.declared.ops.Range.{Range}
use Rattle.regress_match.specs.declared.found.Match.{Match}
use Rattle.regress_match.specs.declared.groups.Groups.{Groups}

-- the whole range of a match, then that of each capturing group in order of its number
abbrev pub groups_of : Match → List (Option (Range ℕ))
groups_of m = Some m.range ∷ m.captures.items

-- the name of each capturing group in order of its number, empty where it has none, as bytes of UTF-8
abbrev pub names_of_match : Match → List (List ℕ)
names_of_match m = shared_names m.group_names

-- the groups still to come
abbrev pub groups_left : Groups → List (Option (Range ℕ))
groups_left g = drop g.index (groups_of g.found.now)
