use Rattle.std.proofs.Common.{sym, ◌∙◌}
use Rattle.regress_front_nodes.specs.Trees.{tree}
use Rattle.regress_front_rules.proofs.PlaceLemmas.{node-listed}
use Rattle.regress_front_opt.proofs.ShapeLemmas.{lost-advances}
use Rattle.regress_front_opt.proofs.failing.LostCatsPass.rewrite.Goals as goal

pub returns-then-is_lost : goal.returns-then-is_lost
returns-then-is_lost c = rw c.make_always_fails.ensures (lost-advances _ (tree c.args.node.now) (node-listed c.args.node.now) (sym c.is_lost.ensures ∙ c.if-is_lost.true))
