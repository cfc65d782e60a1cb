use Rattle.std.proofs.Common.{subst}
use Rattle.regress_front_nodes.specs.Trees.{tree}
use Rattle.regress_engine_prefix.specs.Prefixes.{Foretells}
use Rattle.regress_engine_prefix.proofs.prefix.with_second.Goals as goal

pub returns-in-Some : goal.returns-in-Some
returns-in-Some c = c.in-Some.ensures c.in-First.first (subst (λ p. Foretells p (tree c.args.node.now)) c.in-First.is c.requires)
