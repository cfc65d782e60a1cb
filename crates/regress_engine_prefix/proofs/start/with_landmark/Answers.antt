use Rattle.std.specs.Prelude.{IfSome}
use Rattle.std.proofs.Common.{subst}
use Rattle.regress_front_nodes.specs.Trees.{tree}
use Rattle.regress_engine_prefix.specs.Starts.{IsStartOf, HitsBoundaries, KeepsLiteral}
use Rattle.regress_engine_prefix.specs.Reaches.{Reaches}
use Rattle.regress_engine_prefix.specs.declared.reach.Reach.TheVariants.{By}
use Rattle.regress_engine_prefix.specs.declared.start.StartPredicate.TheVariants.{ByteBracket}
use Rattle.regress_engine_prefix.proofs.StartLemmas.{near-start, near-boundary}
use Rattle.regress_engine_prefix.proofs.start.with_landmark.Goals as goal

pub returns-in-Some-clause-begins : goal.returns-in-Some-clause-begins
returns-in-Some-clause-begins c =
    let begins : IsStartOf (ByteBracket c.in-ByteBracket.set) (tree c.args.node.now) = subst (λ p. IsStartOf p (tree c.args.node.now)) c.in-ByteBracket.is c.requires.begins in
    let reach : Reaches (By c.in-Some.landmark) (tree c.args.node.now) = subst (λ found. IfSome found (λ landmark. Reaches (By landmark) (tree c.args.node.now))) c.in-Some.is c.in_ok-landmark.ensures in
    near-start c.in-ByteBracket.set c.in-Some.landmark (tree c.args.node.now) begins reach

pub returns-in-Some-clause-boundary : goal.returns-in-Some-clause-boundary
returns-in-Some-clause-boundary c = near-boundary c.in-ByteBracket.set c.in-Some.landmark (subst HitsBoundaries c.in-ByteBracket.is c.requires.boundary)

pub returns-in-Some-clause-literal : goal.returns-in-Some-clause-literal
returns-in-Some-clause-literal c = λ keeps. subst (KeepsLiteral (tree c.args.node.now)) c.in-ByteBracket.is keeps
