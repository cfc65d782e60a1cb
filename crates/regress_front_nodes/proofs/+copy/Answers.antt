use Rattle.std.proofs.Common.{[], ◌∷◌, ◌++◌, map, refl, sym, ap, ap₂, ◌∙◌, arith}
use Rattle.std.proofs.lemmas.List.{map-append, take_all}
use Rattle.regress_front_nodes.specs.Trees.{tree}
use Rattle.regress_front_nodes.proofs.KindLemmas.{other_than_copied}
use Rattle.regress_front_nodes.proofs.TreeLaws.{tree-Alt}
use Rattle.regress_front_nodes.proofs.CopyLemmas.{MayBeCopied-first, MayBeCopied-more, MayBeCopied-at, parts-more}
use Rattle.regress_front_nodes.proofs.+copy.Goals as goal

pub copy::copies-loop-part-init : goal.copy::copies-loop-part-init
copy::copies-loop-part-init t c = (ap (map tree) c.new-copies.ensures.items, (refl, omega (arith, c.requires)))

pub copy::copies-returns-in-None : goal.copy::copies-returns-in-None
copy::copies-returns-in-None t c = λ all.
    let part = MayBeCopied-at c.args.depth c.args.parts.now c.loop-part.part-index c.part-item.result c.loop-part-test.true all in
    (rw c.in-None.is at c.in_ok-copy.ensures) (rw (← c.part-item.is) at part)

pub copy::copies-loop-part-preserved : goal.copy::copies-loop-part-preserved
copy::copies-loop-part-preserved t c =
    let parts = c.args.parts.now in
    let k = c.loop-part.part-index in
    let copied = rw c.in-Some.is at c.in_ok-copy.ensures in
    let part = c.part-item.result in (
      ap (map tree) c.in_ok-push-in-Some.ensures.items ∙ map-append tree c.loop-part.copies.items (c.in-Some.copy ∷ [])
          ∙ ap₂ (λ ts t. ts ++ t ∷ []) c.loop-part.invariant.0 (copied.1 ∙ ap tree c.part-item.is) ∙ sym (parts-more parts k part c.loop-part-test.true),
      MayBeCopied-more c.args.depth parts k part c.loop-part-test.true c.loop-part.invariant.1 (rw c.part-item.is at copied.0),
    )

pub copy::copies-returns : goal.copy::copies-returns
copy::copies-returns t c =
    let all = take_all c.loop-part.part-index c.args.parts.now (omega (arith, c.loop-part-test.false)) in
    (rw all at c.loop-part.invariant.1, rw all at c.loop-part.invariant.0)

pub node::Node::copy_of_parts-returns-in_default : goal.node::Node::copy_of_parts-returns-in_default
node::Node::copy_of_parts-returns-in_default t c = λ all.
    let i = c.in_default in
    other_than_copied c.args.self.now i.not-Cat i.not-Alt i.not-LookaroundAssertion i.not-AtomicGroup i.not-Loop i.not-Loop1CharBody c.requires.inner all.0

pub node::Node::copy_of_parts-returns-in_default-2 : goal.node::Node::copy_of_parts-returns-in_default-2
node::Node::copy_of_parts-returns-in_default-2 t c = λ all.
    let first = MayBeCopied-first c.args.depth (tree c.in-Alt.first.value) (tree c.in-Alt.second.value) (rw (c.in-Alt.is, tree-Alt) at all) in
    (rw c.in_default-2.is at c.in_ok-first-in-Alt.ensures) (rw c.deref-in-Alt.ensures first)
