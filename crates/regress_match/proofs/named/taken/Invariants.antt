use Rattle.std.proofs.Common.{◌≡◌, drop}
use Rattle.regress_match.specs.GroupRanges.{numbered}
use Rattle.regress_match.specs.GroupViews.{names_of_match}
use Rattle.regress_match.specs.NamedRanges.{first_taken, taken_by}
use Rattle.regress_match.proofs.named.taken.Given as goal

abbrev pub invariant-loop-index : goal.invariant-loop-index
invariant-loop-index l =
    taken_by l.found l.name ≡ first_taken l.name (numbered l.found.captures.items) l.index (drop l.index (names_of_match l.found))
