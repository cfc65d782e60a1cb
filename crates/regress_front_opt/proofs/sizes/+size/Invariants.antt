use Rattle.std.proofs.Common.{◌≡◌, ◌+◌, ◌*◌, map, min, take, sum_by}
use Rattle.regress_meaning.specs.Tokens.{greatest}
use Rattle.regress_front_nodes.specs.Trees.{tree, cat_of}
use Rattle.regress_front_nodes.specs.Forms.{nesting}
use Rattle.regress_front_nodes.specs.Sizes.{size}
use Rattle.regress_front_opt.proofs.sizes.+size.Given as goal

abbrev pub invariant-part_count-loop-part : goal.invariant-part_count-loop-part
invariant-part_count-loop-part l = l.total ≡ min (sum_by size (map tree (take l.part-index l.parts))) greatest

abbrev pub decreases-node_count : goal.decreases-node_count
decreases-node_count l = 2 * nesting (tree l.node.now) + 1

abbrev pub decreases-part_count : goal.decreases-part_count
decreases-part_count l = 2 * nesting (cat_of (map tree l.parts.now))
