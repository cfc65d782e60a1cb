use Rattle.std.proofs.Common.{suc, refl, ◌∙◌, arith}
use Rattle.std.proofs.lemmas.List.{drop_all, drop_more}
use Rattle.regress_front_nodes.specs.Walks.{no_node, skipped, first_above, first_below}
use Rattle.regress_front_nodes.proofs.WalkLemmas.{Walks-then, below-Alt, backward_below-Alt, below-Cat, backward_below-Cat, nothing_below, told-at, counted-more}
use Rattle.regress_front_nodes.proofs.walking.+walk.Goals as goal

pub visit-returns-then-mode-clause-visited : goal.visit-returns-then-mode-clause-visited
visit-returns-then-mode-clause-visited g t c = λ d counted.
    first_below c.if-mode.true (c.visit_below.ensures.visited d counted)
    (record { shown = c.args.node; shows = refl; lent = _; lends = told-at c.args.mode.unicode d c.args.depth c.args.in_lookbehind counted; left = _; called = c.func.ensures; leaves = refl })
    no_node

pub visit-returns-then-not-walk-clause-visited : goal.visit-returns-then-not-walk-clause-visited
visit-returns-then-not-walk-clause-visited g t c = λ d counted.
    first_above c.if-mode.false
    (record { shown = c.args.node; shows = refl; lent = _; lends = told-at c.args.mode.unicode d c.args.depth c.args.in_lookbehind counted; left = _; called = c.func-2.ensures; leaves = refl })
    c.if-not-walk.true (c.visit_below-then-not-walk.ensures.visited d counted) no_node

pub visit-returns-else-not-walk-clause-visited : goal.visit-returns-else-not-walk-clause-visited
visit-returns-else-not-walk-clause-visited g t c = λ d counted.
    skipped c.if-mode.false
    (record { shown = c.args.node; shows = refl; lent = _; lends = told-at c.args.mode.unicode d c.args.depth c.args.in_lookbehind counted; left = _; called = c.func-2.ensures; leaves = refl })
    c.if-not-walk.false no_node

pub visit_below-returns-in-Alt-clause-visited : goal.visit_below-returns-in-Alt-clause-visited
visit_below-returns-in-Alt-clause-visited g t c = λ d counted.
    let deeper = c.saturating_add-deeper.ensures ∙ counted-more d c.args.depth counted in
    let first = rw c.deref.ensures at (c.visit-in-Alt.ensures.visited (suc d) deeper) in
    let second = rw c.deref-in-Alt.ensures at (c.visit-in-Alt-2.ensures.visited (suc d) deeper) in
    rw (c.in-Alt.is, below-Alt, backward_below-Alt) (Walks-then g.F.FnMut c.args.mode.postorder c.args.mode.unicode first second)

pub visit_below-returns-in_default : goal.visit_below-returns-in_default
visit_below-returns-in_default g t c = record {
  visited = λ d counted. let i = c.in_default in
      rw (nothing_below c.args.node.now i.not-Cat i.not-Alt i.not-CaptureGroup i.not-LookaroundAssertion i.not-AtomicGroup i.not-Loop i.not-Loop1CharBody) no_node;
  callable = c.requires;
}

pub visit_below-loop-part-preserved : goal.visit_below-loop-part-preserved
visit_below-loop-part-preserved g t c = (
  c.visit.ensures.callable,
  λ d last counted rest.
      let part = c.visit.ensures.visited d counted in
      let from_here = drop_more c.deref-part-items.result.now c.loop-part.part-index c.part-item.result c.loop-part-test.true in
      c.loop-part.invariant.1 d last counted
      (rw (from_here, ← c.part-item.is) (Walks-then g.F.FnMut c.args.mode.postorder c.args.mode.unicode part rest)),
)

pub visit_below-returns-after-loop-part-clause-visited : goal.visit_below-returns-after-loop-part-clause-visited
visit_below-returns-after-loop-part-clause-visited g t c = λ d counted.
    let deeper = c.saturating_add-deeper.ensures ∙ counted-more d c.args.depth counted in
    let none = drop_all c.loop-part.part-index c.deref-part-items.result.now (omega (arith, c.loop-part-test.false)) in
    rw (c.in-Cat.is, below-Cat, backward_below-Cat, ← c.deref-part-items.ensures.value)
    (c.loop-part.invariant.1 (suc d) c.loop-part.func deeper (rw none no_node))
