use Rattle.std.proofs.Common.{◌<◌, ◌+◌, length, ap, ◌∙◌, length-set, arith}
use Rattle.std.proofs.lemmas.List.{drop-set-lt}
use Rattle.std.proofs.lemmas.Grind.{drop_more_same}
use Rattle.regress_front_words.specs.declared.grouping.Group.{Group}
use Rattle.regress_front_words.proofs.ShareLemmas.{same-at}
use Rattle.regress_front_words.proofs.GroupLemmas.{joined-more}
use Rattle.regress_front_words.proofs.grouping.words_of.Goals as goal

pub loop-group-preserved : goal.loop-group-preserved
loop-group-preserved c =
    let items = c.loop-group.group-items in
    let whole = c.deref_mut-group-items.result.now in
    let i = c.loop-group.group-index in
    let g = c.group-item.result in
    let v = c.loop-group.invariant in
    let size = v.2 in
    let inside : c.loop-group.group-index < length c.deref_mut-group-items.result.now = omega (arith, c.loop-group-test.true, c.loop-group.auto.group-items, size) in (
      joined-more _ c.loop-group.words.items c.append.new.self.items whole i g inside c.in_ok-append.ensures.items v.0 (ap (λ (h : Group). h.words.items) (same-at items whole i g v.1)),
      drop-set-lt (i + 1) items i _ (omega arith) ∙ drop_more_same items whole i v.1,
      length-set items i _ ∙ v.2,
    )
