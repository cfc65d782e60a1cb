use Rattle.std.proofs.Common.{◌≡◌, ◌+◌, ◌*◌, length, map, take, drop}
use Rattle.regress_front_nodes.specs.Trees.{tree, cat_of, alt}
use Rattle.regress_front_nodes.specs.Forms.{nesting}
use Rattle.regress_front_nodes.specs.TreeMeaning.{direction}
use Rattle.regress_front_opt.specs.Passes.{AreVisited}
use Rattle.regress_front_opt.proofs.visiting.+visit.Given as goal

abbrev pub decreases-visit : goal.decreases-visit
decreases-visit g l = 4 * nesting (tree l.node.now) + 3

abbrev pub decreases-visit_from_above : goal.decreases-visit_from_above
decreases-visit_from_above g l = 4 * nesting (tree l.node.now) + 2

abbrev pub decreases-visit_below : goal.decreases-visit_below
decreases-visit_below g l = 4 * nesting (tree l.node.now) + 1

abbrev pub decreases-visit_parts : goal.decreases-visit_parts
decreases-visit_parts g l = 4 * nesting (cat_of (map tree l.parts.now))

abbrev pub decreases-visit_arms : goal.decreases-visit_arms
decreases-visit_arms g l = 4 * nesting (alt (tree l.first.now) (tree l.second.now))

-- the other parts are as they were, and those so far are visited
abbrev pub invariant-visit_parts-loop-part : goal.invariant-visit_parts-loop-part
invariant-visit_parts-loop-part g l =
    (drop l.part-index l.part-items ≡ drop l.part-index l.initial.part-items)
    × (length l.part-items ≡ length l.initial.part-items)
    × AreVisited (direction l.in_lookbehind) g.P.Pass.broken (map tree l.initial.part-items) (map tree l.part-items) (map tree (take l.part-index l.part-items)) l.changed
