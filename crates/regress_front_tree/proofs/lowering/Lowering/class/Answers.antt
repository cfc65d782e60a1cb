use Rattle.std.proofs.Common.{refl}
use Rattle.regress_front_tree.specs.Scopes.{settings_of}
use Rattle.regress_front_tree.specs.Lowering.{of_class, of_negated_class}
use Rattle.regress_front_tree.proofs.lowering.Lowering.class.Goals as goal

pub returns-then-negated : goal.returns-then-negated
returns-then-negated c = rw c.if-negated.true (λ k. of_negated_class (c.in_ok-outside.ensures (settings_of c.args.scope.now) refl))

pub returns : goal.returns
returns c = rw c.if-negated.false (λ k. of_class (c.in_ok-inside.ensures (settings_of c.args.scope.now) refl))
