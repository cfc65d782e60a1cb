use Rattle.std.proofs.Common.{refl}
use Rattle.regress_front_tree.specs.Scopes.{settings_of}
use Rattle.regress_front_tree.specs.Lowering.{of_class_escape}
use Rattle.regress_front_tree.proofs.lowering.Lowering.class_escape.Goals as goal

pub returns : goal.returns
returns c = λ k. of_class_escape (c.in_ok-node.ensures (settings_of c.args.scope.now) refl)
