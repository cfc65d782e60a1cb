use Rattle.std.proofs.Common.{◌≡◌, ◌+◌, ◌-◌, ◌<◌, List, All, length, take, drop, map, length-drop, refl, sym, ap, subst, arith}
use Rattle.std.proofs.lemmas.List.{take_all}
use Rattle.std.proofs.lemmas.List.Elements.{All-more, All-drop}
use Rattle.std.proofs.lemmas.Result.{IfOk-weaker}
use Rattle.regress_front_core.specs.Quantifiers.{most}
use Rattle.regress_front_nodes.specs.Trees.{tree, cat, cat_of}
use Rattle.regress_front_nodes.specs.declared.node.Node.{Node}
use Rattle.regress_front_nodes.specs.Forms.{nesting}
use Rattle.regress_front_nodes.proofs.ChangeLemmas.{nesting-part}
use Rattle.regress_front_nodes.proofs.TreeLaws.{tree-LookaroundAssertion, tree-AtomicGroup, tree-Loop, tree-Loop1CharBody, tree-Cat, tree-Alt, tree-CaptureGroup}
use Rattle.regress_engine_prefix.specs.Prefixes.{IsLawful, Foretells}
use Rattle.regress_engine_prefix.proofs.PrefixLemmas.{Foretells-look, Foretells-loop, Foretells-single_loop, Foretells-alt, Foretells-capture, Foretells-atomic, Foretells-parts, Foretells-still_parts, lawful-parts}
use Rattle.regress_engine_prefix.proofs.SecondLemmas.{Foretells-from, nesting-behind}
use Rattle.regress_engine_prefix.specs.declared.prefix.Prefix.TheVariants.{Still}
use Rattle.regress_engine_prefix.proofs.prefix.+prefix.Goals as goal

pub find-find_of_parts-requires : goal.find-find_of_parts-requires
find-find_of_parts-requires t c =
    let same : nesting (tree c.args.node.now) ≡ nesting (cat_of (map tree c.deref.result.now)) = rw (c.in-Cat.is, tree-Cat, c.deref.ensures.value) refl in
    (omega (arith, c.decreases, same), (rw c.deref.ensures.value (lawful-parts c.requires.0 c.in-Cat.parts.items (rw (c.in-Cat.is, tree-Cat) at c.requires.1))))

pub find_next-find-requires : goal.find_next-find-requires
find_next-find-requires t c =
    let parts = c.args.parts.now in
    let k = c.loop-part.part-index in
    let part = c.part-item.result in
    let nested = nesting-part parts parts k part c.loop-part-test.true refl in
    let same = ap (λ n. nesting (tree n)) c.part-item.is in
    (omega (arith, c.decreases, nested, same), subst (λ m. IsLawful (tree m)) (sym c.part-item.is) (c.requires k part c.loop-part-test.true))

pub find_of_parts-find-requires : goal.find_of_parts-find-requires
find_of_parts-find-requires t c =
    let parts = c.args.parts.now in
    let k = c.loop-index.index in
    let part = c.index-parts-index.result in
    let nested = nesting-part parts parts k part c.loop-index-test.true refl in
    let same = ap (λ n. nesting (tree n)) c.index-parts-index.is in
    (omega (arith, c.decreases, nested, same), subst (λ m. IsLawful (tree m)) (sym c.index-parts-index.is) (c.requires k part c.loop-index-test.true))

pub find_of_parts-find_behind-requires : goal.find_of_parts-find_behind-requires
find_of_parts-find_behind-requires t c =
    let parts = c.args.parts.now in
    let k = c.loop-index.index in
    let size = length-drop (k + 1) parts in
    let rest : take (length parts - (k + 1)) (drop (k + 1) parts) ≡ drop (k + 1) parts = take_all _ _ (omega (arith, size)) in
    let same = ap (λ (ns : List Node). nesting (cat_of (map tree ns))) rest in (
      omega (arith, c.decreases, same, nesting-behind parts (k + 1)),
      (
        subst (All (λ m. IsLawful (tree m))) (sym rest) (All-drop (λ m. IsLawful (tree m)) (k + 1) parts c.requires),
        (subst (λ p. Foretells p (tree c.index-parts-index.result)) c.in-Some.ensures.first c.in_ok-find.ensures, c.in-Some.ensures.one),
      ),
    )

pub find_of_parts-returns-in-Some : goal.find_of_parts-returns-in-Some
find_of_parts-returns-in-Some t c =
    let parts = c.args.parts.now in
    let k = c.loop-index.index in
    let size = length-drop (k + 1) parts in
    let rest : take (length parts - (k + 1)) (drop (k + 1) parts) ≡ drop (k + 1) parts = take_all _ _ (omega (arith, size)) in
    IfOk-weaker c.find_behind.result _ _
    (λ _ told. Foretells-from c.find_behind.new.known parts k c.index-parts-index.result c.loop-index-test.true c.index-parts-index.is c.loop-index.invariant
    (subst (λ (ns : List Node). Foretells c.find_behind.new.known (cat (tree c.index-parts-index.result) (cat_of (map tree ns)))) rest told))
    c.find_behind.ensures

pub find_of_parts-returns-then-not-is_still : goal.find_of_parts-returns-then-not-is_still
find_of_parts-returns-then-not-is_still t c =
    Foretells-parts c.find.new.known (c.is_still.ensures.other c.if-not-is_still.true) c.args.parts.now c.loop-index.index c.index-parts-index.result c.loop-index-test.true
    c.index-parts-index.is c.loop-index.invariant c.in_ok-find.ensures

pub find_of_parts-loop-index-preserved : goal.find_of_parts-loop-index-preserved
find_of_parts-loop-index-preserved t c =
    All-more (λ m. Foretells Still (tree m)) c.args.parts.now c.loop-index.index c.index-parts-index.result c.loop-index-test.true c.loop-index.invariant
    (subst (λ m. Foretells Still (tree m)) c.index-parts-index.is (rw (c.is_still.ensures.still c.if-not-is_still.false) at c.in_ok-find.ensures))

pub find_of_parts-returns : goal.find_of_parts-returns
find_of_parts-returns t c =
    IfOk-weaker c.still.result _ _ (λ _ is. rw is (Foretells-still_parts c.args.parts.now (rw (take_all c.loop-index.index c.args.parts.now (omega (arith, c.loop-index-test.false))) at c.loop-index.invariant))) c.still.ensures

pub find_behind-returns : goal.find_behind-returns
find_behind-returns t c = c.precede.ensures (tree c.args.node.now) (cat_of (map tree c.args.rest.now)) c.requires.told c.requires.one c.in_ok-find_next.ensures

pub find-returns-in-Alt : goal.find-returns-in-Alt
find-returns-in-Alt t c =
    rw (c.in-Alt.is, tree-Alt, ← c.deref-in-Alt.ensures, ← c.deref-in-Alt-2.ensures) c.find_of_arms.ensures

pub find_of_arms-returns : goal.find_of_arms-returns
find_of_arms-returns t c =
    Foretells-alt c.join.new.known c.find.new.known c.find-2.new.known (tree c.args.first.now) (tree c.args.second.now) c.in_ok-join.ensures.known c.in_ok-join.ensures.other c.in_ok-join.ensures.leads
    c.in_ok-find.ensures c.in_ok-find-2.ensures

pub find-returns-in-CaptureGroup : goal.find-returns-in-CaptureGroup
find-returns-in-CaptureGroup t c =
    rw (c.in-CaptureGroup.is, tree-CaptureGroup, ← c.deref-in-CaptureGroup.ensures)
    (IfOk-weaker c.find.result _ _ (λ _ told. Foretells-capture c.find.new.known _ _ (tree c.deref-in-CaptureGroup.result.now) told)
    c.find.ensures)

pub find-returns-in-AtomicGroup : goal.find-returns-in-AtomicGroup
find-returns-in-AtomicGroup t c =
    rw (c.in-AtomicGroup.is, tree-AtomicGroup, ← c.deref-in-AtomicGroup.ensures)
    (IfOk-weaker c.find-in-AtomicGroup.result _ _ (λ _ told. Foretells-atomic c.find-in-AtomicGroup.new.known _ _ (tree c.deref-in-AtomicGroup.result.now) told)
    c.find-in-AtomicGroup.ensures)

pub find-returns-in-LookaroundAssertion : goal.find-returns-in-LookaroundAssertion
find-returns-in-LookaroundAssertion t c =
    let look = c.in-LookaroundAssertion in
    rw (look.is, tree-LookaroundAssertion)
    (IfOk-weaker c.still.result _ _ (λ _ is. rw is (Foretells-look look.negate look.backwards look.start_group look.end_group (tree look.contents.value))) c.still.ensures)

pub find-returns-in-Loop : goal.find-returns-in-Loop
find-returns-in-Loop t c =
    let arm = c.in-Loop in
    let lawful = rw (arm.is, tree-Loop) at c.requires.1 in
    rw (arm.is, tree-Loop, ← c.deref-in-Loop.ensures)
    (IfOk-weaker c.find_of_loop.result _ _ (λ _ told. told arm.enclosed_groups.start arm.enclosed_groups.end (most arm.quant) lawful.1) c.find_of_loop.ensures.many)

pub find-returns-in-Loop1CharBody : goal.find-returns-in-Loop1CharBody
find-returns-in-Loop1CharBody t c =
    let arm = c.in-Loop1CharBody in
    let lawful = rw (arm.is, tree-Loop1CharBody) at c.requires.1 in
    rw (arm.is, tree-Loop1CharBody, ← c.deref-in-Loop1CharBody.ensures)
    (IfOk-weaker c.find_of_loop-in-Loop1CharBody.result _ _ (λ _ told. told (most arm.quant) lawful.1) c.find_of_loop-in-Loop1CharBody.ensures.single)

pub find_of_loop-returns : goal.find_of_loop-returns
find_of_loop-returns t c =
    let some : 0 < c.args.quant.now.min = omega (arith, c.if-quant-eq0.false) in
    let other = c.is_still.ensures.other c.if-is_still.false in
    record {
      many = λ first last most order. Foretells-loop c.find.new.known other (tree c.args.loopee.now) first last c.args.quant.now.min most c.args.quant.now.greedy some order c.in_ok-find.ensures;
      single = λ most order. Foretells-single_loop c.find.new.known other (tree c.args.loopee.now) c.args.quant.now.min most c.args.quant.now.greedy some order c.in_ok-find.ensures;
    }

pub find_next-returns-then-not-is_still : goal.find_next-returns-then-not-is_still
find_next-returns-then-not-is_still t c =
    Foretells-parts c.find.new.known (c.is_still.ensures.other c.if-not-is_still.true) c.args.parts.now c.loop-part.part-index c.part-item.result c.loop-part-test.true
    c.part-item.is c.loop-part.invariant c.in_ok-find.ensures

pub find_next-loop-part-preserved : goal.find_next-loop-part-preserved
find_next-loop-part-preserved t c =
    All-more (λ m. Foretells Still (tree m)) c.args.parts.now c.loop-part.part-index c.part-item.result c.loop-part-test.true c.loop-part.invariant
    (subst (λ m. Foretells Still (tree m)) c.part-item.is (rw (c.is_still.ensures.still c.if-not-is_still.false) at c.in_ok-find.ensures))

pub find_next-returns : goal.find_next-returns
find_next-returns t c =
    IfOk-weaker c.still.result _ _ (λ _ is. rw is (Foretells-still_parts c.args.parts.now (rw (take_all c.loop-part.part-index c.args.parts.now (omega (arith, c.loop-part-test.false))) at c.loop-part.invariant))) c.still.ensures
