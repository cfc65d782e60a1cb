use Rattle.std.proofs.Common.{◌≡◌, [], map}
use Rattle.regress_front_nodes.specs.Trees.{tree}
use Rattle.regress_front_rules.specs.Rules.{copies}
use Rattle.regress_front_opt.proofs.unrolling.copies_of.Given as goal

abbrev pub invariant-loop : goal.invariant-loop
invariant-loop l = map tree l.nodes.items ≡ copies l.counter (tree l.body) []
