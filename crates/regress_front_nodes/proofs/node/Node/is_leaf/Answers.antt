use Rattle.std.proofs.Common.{rules, not, sym, ap, ◌∙◌}
use Rattle.regress_front_nodes.proofs.TreeLaws.{tree-Cat, tree-Alt, tree-CaptureGroup, tree-LookaroundAssertion, tree-AtomicGroup, tree-Loop, tree-Loop1CharBody}
use Rattle.regress_front_nodes.proofs.CopyLemmas.{is_leaf-cat_of}
use Rattle.regress_front_nodes.proofs.KindLemmas.{other_than_inner}
use Rattle.regress_front_nodes.proofs.node.Node.is_leaf.Goals.{in_default, in-Cat, in-Cat-2, in-Cat-3, in-Cat-4, in-Cat-5, in-Cat-6, in-Cat-7}
use Rattle.regress_front_nodes.proofs.node.Node.is_leaf.Goals as goal

pub returns : goal.returns
returns c = elim c.match-matches.branch [
  | in_default w ↦ let i = w.in_default in
      ap not w.matches-is ∙ sym (other_than_inner c.args.self.now i.not-Cat i.not-Alt i.not-CaptureGroup i.not-LookaroundAssertion i.not-AtomicGroup i.not-Loop i.not-Loop1CharBody)
  | in-Cat w ↦ ap not w.matches-is ∙ search (rules, tree-Cat, is_leaf-cat_of)
  | in-Cat-2 w ↦ ap not w.matches-is ∙ search (rules, tree-Alt)
  | in-Cat-3 w ↦ ap not w.matches-is ∙ search (rules, tree-CaptureGroup)
  | in-Cat-4 w ↦ ap not w.matches-is ∙ search (rules, tree-LookaroundAssertion)
  | in-Cat-5 w ↦ ap not w.matches-is ∙ search (rules, tree-AtomicGroup)
  | in-Cat-6 w ↦ ap not w.matches-is ∙ search (rules, tree-Loop)
  | in-Cat-7 w ↦ ap not w.matches-is ∙ search (rules, tree-Loop1CharBody)
]
