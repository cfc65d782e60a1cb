use Rattle.std.proofs.Common.{◌≡◌, length, map, min, take, sum_by}
use Rattle.std.specs.Box.{boxed_slice_items}
use Rattle.regress_meaning.specs.Tokens.{greatest}
use Rattle.regress_front_opt.proofs.sizes.point_count.Given as goal

abbrev pub invariant-loop-string : goal.invariant-loop-string
invariant-loop-string l = l.total ≡ min (sum_by length (map boxed_slice_items (take l.string-index l.alternatives))) greatest
