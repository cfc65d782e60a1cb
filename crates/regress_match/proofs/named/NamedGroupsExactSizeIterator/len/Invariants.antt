use Rattle.std.proofs.Common.{◌≡◌, ◌+◌, ◌≤◌, length, take, drop}
use Rattle.regress_match.specs.GroupViews.{names_of_match}
use Rattle.regress_match.specs.NamedRanges.{new_names}
use Rattle.regress_match.proofs.named.NamedGroupsExactSizeIterator.len.Given as goal

abbrev pub invariant-loop-index : goal.invariant-loop-index
invariant-loop-index l = record {
  count : l.count + length (new_names (take l.index (names_of_match l.self.found.now)) (drop l.index (names_of_match l.self.found.now)))
      ≡ length (new_names (take l.self.index (names_of_match l.self.found.now)) (drop l.self.index (names_of_match l.self.found.now)));
  small : l.count ≤ l.index;
}
