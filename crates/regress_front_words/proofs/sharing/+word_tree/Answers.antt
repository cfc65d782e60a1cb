use Rattle.std.proofs.Common.{◌||◌, ◌∷◌, [], false, slice_range, subst, sym, ap, ◌∙◌, arith}
use Rattle.std.proofs.lemmas.Result.{IfOk-weaker}
use Rattle.regress_front_nodes.specs.Trees.{tree, alt}
use Rattle.regress_front_words.specs.Sharing.{spelled, behind, IsMadeOf}
use Rattle.regress_front_words.proofs.ShareLemmas.{made-begun, made-rearranged, made-either, length-part, long-before, long-after, parted}
use Rattle.regress_front_words.proofs.sharing.+word_tree.Goals as goal

pub returns-then-is_worth : goal.returns-then-is_worth
returns-then-is_worth t c =
    let from = c.args.from in
    let end = c.shared_end-end.result in
    let ws = c.args.words.now in
    let first = c.deref-2.result.now in
    let node = c.in_ok-node-2.ensures in
    let again = ap (λ xs. slice_range xs from end) (c.deref-then-is_worth-2.ensures.value ∙ sym c.deref-2.ensures.value) in
    let order = c.shared_end-end.ensures.order in
    let rest = subst (λ xs. IsMadeOf (behind end (spelled xs)) c.in_ok-rest.rest.shared (tree c.in_ok-rest.rest.node)) c.deref-then-is_worth.ensures.value c.in_ok-rest.ensures in
    let found = made-rearranged (behind end (spelled c.in_ok-regrouped.regrouped.items)) (behind end (spelled ws)) c.in_ok-rest.rest.shared (tree c.in_ok-rest.rest.node) c.in_ok-regrouped.ensures.same rest in
    rw node.3
    (made-begun from end (slice_range first from end) (spelled ws) node.0 (tree c.in_ok-rest.rest.node) c.in_ok-rest.rest.shared order.0
    (c.is_worth.ensures c.if-is_worth.true) c.shared_end-end.ensures.same (length-part first from end order.1)
    (subst (λ part. IsMadeOf (part ∷ []) false node.0) again node.1) (node.2 ∙ ap (λ part. part ∷ []) again) found)

pub word_tree-requires-2 : goal.word_tree-requires-2
word_tree-requires-2 t c =
    let middle = c.middle_of.ensures in
    let size = c.split_at.ensures.front_len in (
      omega (arith, c.decreases, size, middle.1),
      (omega (arith, size, middle.0), long-before c.args.from c.middle_of.result c.args.words.now c.split_at.result.0.now c.split_at.ensures.front c.requires.long),
    )

pub word_tree-requires-3 : goal.word_tree-requires-3
word_tree-requires-3 t c =
    let middle = c.middle_of.ensures in
    let size = c.split_at.ensures.back_len in (
      omega (arith, c.decreases, size, middle.0),
      (omega (arith, size, middle.1), long-after c.args.from c.middle_of.result c.args.words.now c.split_at.result.1.now c.split_at.ensures.back c.requires.long),
    )

pub returns : goal.returns
returns t c =
    let from = c.args.from in
    let before = c.in_ok-before.before in
    let after = c.in_ok-after.after in
    let xs = behind from (spelled c.split_at.result.0.now) in
    let ys = behind from (spelled c.split_at.result.1.now) in
    let whole = parted from c.middle_of.result c.args.words.now c.split_at.result.0.now c.split_at.result.1.now c.split_at.ensures.front c.split_at.ensures.back in
    IfOk-weaker c.either.result _ _
    (λ r e. rw (e.0, e.1)
    (subst (λ ws. IsMadeOf ws (before.shared || after.shared) (alt (tree before.node) (tree after.node))) whole
    (made-either xs ys before.shared after.shared (tree before.node) (tree after.node) c.in_ok-before.ensures c.in_ok-after.ensures)))
    c.either.ensures
