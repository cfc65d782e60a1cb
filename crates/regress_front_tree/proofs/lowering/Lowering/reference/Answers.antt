use Rattle.std.proofs.Common.{◌+◌, ◌<◌, ℕ, length, map, refl, ap, ◌∙◌, arith}
use Rattle.std.proofs.lemmas.List.{take_all, take_more, map_push}
use Rattle.regress_front_nodes.specs.Trees.{Tree, back}
use Rattle.regress_front_tree.specs.Lowering.{of_reference}
use Rattle.regress_front_nodes.proofs.TreeLaws.{tree-BackRef}
use Rattle.regress_front_nodes.proofs.SequenceLemmas.{in_reading_order-map}
use Rattle.regress_front_tree.proofs.lowering.Lowering.reference.Goals as goal

pub loop-group-preserved : goal.loop-group-preserved
loop-group-preserved c =
    let groups = c.args.groups.now in
    let index = c.loop-group.group-index in
    let lt : index < length groups = c.loop-group-test.true in
    rw (c.in_ok-push.ensures.items, map_push, tree-BackRef, c.loop-group.invariant, take_more groups index 0 lt, map_push, c.from.ensures) refl

pub returns : goal.returns
returns c =
    let scope = c.args.scope.now in
    let groups = c.args.groups.now in
    let node : ℕ → Tree = λ j. back (j + 1) scope.icase in
    let nodes = c.loop-group.invariant ∙ ap (map node) (take_all c.loop-group.group-index groups (omega arith)) in
    rw (c.sequence.ensures, nodes, ← in_reading_order-map node scope.backward groups) (λ k. of_reference)
