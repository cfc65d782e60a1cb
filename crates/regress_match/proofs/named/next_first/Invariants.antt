use Rattle.std.proofs.Common.{◌≡◌, map, take, drop, string_bytes}
use Rattle.regress_match.specs.NamedRanges.{new_names}
use Rattle.regress_match.proofs.named.next_first.Given as goal

abbrev pub invariant-loop-index : goal.invariant-loop-index
invariant-loop-index l =
    new_names (take l.start (map string_bytes l.names)) (drop l.start (map string_bytes l.names))
    ≡ new_names (take l.index (map string_bytes l.names)) (drop l.index (map string_bytes l.names))
