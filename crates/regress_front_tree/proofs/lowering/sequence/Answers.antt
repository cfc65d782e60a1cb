use Rattle.std.proofs.Common.{◌≡◌, ◌<◌, length, map, refl, ap, ◌∙◌, sym, arith}
use Rattle.std.proofs.lemmas.List.{length-map}
use Rattle.regress_front_nodes.specs.Trees.{tree}
use Rattle.regress_front_nodes.specs.Forms.{in_reading_order}
use Rattle.regress_front_nodes.proofs.TreeLaws.{tree-Cat}
use Rattle.regress_front_nodes.proofs.SequenceLemmas.{cat_made-many, cat_made-few, ordered}
use Rattle.regress_front_tree.proofs.lowering.sequence.Goals as goal
use Rattle.regress_front_tree.proofs.lowering.sequence.Goals.{then-backward, else-backward}

pub returns-then-len-gt1 : goal.returns-then-len-gt1
returns-then-len-gt1 c =
    let parts = c.if-backward.parts in
    let order : parts.items ≡ in_reading_order c.args.backward c.args.parts.items =
    elim c.if-backward.branch [
      | then-backward w ↦ rw (w.if-backward.true, w.parts-is) w.reverse.ensures.items
      | else-backward w ↦ rw (w.if-backward.false, w.parts-is) refl
    ] in
    tree-Cat parts ∙ cat_made-many (map tree parts.items) (rw length-map (omega (arith, parts.ok.0))) ∙ sym (ordered c.args.backward c.args.parts.items parts.items order)

pub returns : goal.returns
returns c =
    let parts = c.if-backward.parts in
    let order : parts.items ≡ in_reading_order c.args.backward c.args.parts.items =
    elim c.if-backward.branch [
      | then-backward w ↦ rw (w.if-backward.true, w.parts-is) w.reverse.ensures.items
      | else-backward w ↦ rw (w.if-backward.false, w.parts-is) refl
    ] in
    ap tree c.unwrap_or.ensures
    ∙ cat_made-few parts.items c.pop.new.self.items c.pop.result c.pop.ensures.items (omega (arith, parts.ok.0)) (λ (h : 0 < length parts.items). c.pop.ensures.variant.1 (omega (arith, parts.ok.0)))
    ∙ sym (ordered c.args.backward c.args.parts.items parts.items order)
