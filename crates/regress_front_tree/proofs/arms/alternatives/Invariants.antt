use Rattle.std.proofs.Common.{◌<◌, map, vec_len}
use Rattle.regress_front_nodes.specs.Trees.{tree}
use Rattle.regress_front_tree.proofs.ArmLemmas.{AreArms}
use Rattle.regress_front_tree.proofs.arms.alternatives.Given as goal

-- each tree that is left has some of the arms, in order
abbrev pub invariant-rounds : goal.invariant-rounds
invariant-rounds l = record { arms : AreArms (map tree l.fn.arms.items) (map tree l.arms.items); some : 0 < vec_len l.arms }

abbrev pub decreases-rounds : goal.decreases-rounds
decreases-rounds l = vec_len l.arms
