use Rattle.std.proofs.Common.{◌≡◌, length, map, ap, arith}
use Rattle.regress_front_nodes.specs.declared.node.Node.TheVariants as N
use Rattle.regress_front_nodes.specs.Trees.{tree}
use Rattle.regress_front_tree.proofs.ArmLemmas.{AreArms-alone, AreArms-paired, AreArms-one, pairs-length, alone}
use Rattle.regress_front_tree.proofs.arms.alternatives.Goals as goal

pub rounds-init : goal.rounds-init
rounds-init c = record { arms = AreArms-alone (map tree c.args.arms.items); some = omega (arith, c.requires, c.args.arms.ok.0) }

pub rounds-smaller : goal.rounds-smaller
rounds-smaller c =
    let pairs = c.in_ok-arms.arms in
    omega (arith, pairs-length c.rounds.arms.items pairs.items c.in_ok-arms.ensures, pairs.ok.0, c.rounds.arms.ok.0, c.len.ensures)

pub rounds-preserved : goal.rounds-preserved
rounds-preserved c =
    let pairs = c.in_ok-arms.arms in
    record {
      arms = rw c.in_ok-arms.ensures (AreArms-paired _ _ c.rounds.invariant.arms);
      some = omega (arith, pairs-length c.rounds.arms.items pairs.items c.in_ok-arms.ensures, pairs.ok.0, c.rounds.arms.ok.0, c.rounds.invariant.some);
    }

pub returns : goal.returns
returns c =
    let arms = c.rounds.arms in
    let one : length arms.items ≡ 1 = omega (arith, c.rounds.invariant.some, arms.ok.0, c.len.ensures, c.rounds-test.false) in
    let last = alone arms.items c.pop.new.self.items c.pop.result N.Empty c.pop.ensures.items one (c.pop.ensures.variant.1 (omega (arith, arms.ok.0))) in
    AreArms-one _ _ _ c.rounds.invariant.arms (rw c.unwrap_or.ensures (ap (map tree) last))
