use Rattle.std.proofs.Common.{◌+◌, ◌*◌, map, take}
use Rattle.regress_front_nodes.specs.Trees.{tree, cat_of}
use Rattle.regress_front_nodes.specs.Forms.{nesting}
use Rattle.regress_engine_prefix.specs.Reaches.{Reaches}
use Rattle.regress_engine_prefix.proofs.reach.+reach.Given as goal

-- what is known of the parts so far
abbrev pub invariant-reach_of_parts-loop-part : goal.invariant-reach_of_parts-loop-part
invariant-reach_of_parts-loop-part l = Reaches l.reach (cat_of (map tree (take l.part-index l.parts)))

-- how deep the tree nests
abbrev pub decreases-reach_of : goal.decreases-reach_of
decreases-reach_of l = 2 * nesting (tree l.node.now) + 1

abbrev pub decreases-reach_of_parts : goal.decreases-reach_of_parts
decreases-reach_of_parts l = 2 * nesting (cat_of (map tree l.parts.now))
