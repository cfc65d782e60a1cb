use Rattle.std.proofs.Common.{◌≡◌, ℕ, ◌+◌, ◌*◌, List, ◌++◌, length, min, take, drop}
use Rattle.regress_meaning.specs.Tokens.{greatest}
use Rattle.regress_front_nodes.specs.Trees.{tree}
use Rattle.regress_front_nodes.specs.Forms.{nesting}
use Rattle.regress_front_nodes.specs.Changes.{ChangingWalks}
use Rattle.regress_front_nodes.proofs.walking_mut.+walk_mut.Given as goal

abbrev pub decreases-visit_mut : goal.decreases-visit_mut
decreases-visit_mut g l = 2 * nesting (tree l.node.now) + 1

abbrev pub decreases-visit_below_mut : goal.decreases-visit_below_mut
decreases-visit_below_mut g l = 2 * nesting (tree l.node.now)

-- the other parts are as they were, and a walk over them is the rest of a walk over all parts
abbrev pub invariant-visit_below_mut-loop-part : goal.invariant-visit_below_mut-loop-part
invariant-visit_below_mut-loop-part g l =
    goal.F-IsAlwaysCallable g l.func
    × (drop l.part-index l.part-items ≡ drop l.part-index l.initial.part-items)
    × (length l.part-items ≡ length l.initial.part-items)
    × ((d : ℕ) (others : List _) (last : _) → l.deeper ≡ min d greatest
    → ChangingWalks g.F.FnMut l.mode.postorder l.mode.unicode d l.in_lookbehind l.func (drop l.part-index l.part-items) others last
    → ChangingWalks g.F.FnMut l.mode.postorder l.mode.unicode d l.in_lookbehind l.initial.func l.initial.part-items (take l.part-index l.part-items ++ others) last)
