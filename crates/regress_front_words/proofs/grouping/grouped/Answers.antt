use Rattle.std.proofs.Common.{◌≤◌, ◌+◌, length, take, List, ℕ, subst, ◌∙◌, arith}
use Rattle.regress_front_words.specs.Sharing.{spelled}
use Rattle.regress_front_words.specs.Grouping.{IsAdded, joined}
use Rattle.regress_front_words.proofs.ShareLemmas.{spelled-at, spelled-more}
use Rattle.regress_front_words.proofs.GroupLemmas.{added-rearranged, added-long, length-added}
use Rattle.regress_front_words.proofs.grouping.grouped.Goals as goal

pub loop-word-preserved : goal.loop-word-preserved
loop-word-preserved c =
    let place = c.args.place in
    let words = c.args.words.now in
    let i = c.loop-word.word-index in
    let w = c.word-item.result in
    let old = joined c.loop-word.groups.items in
    let more = joined c.add_word.new.groups.items in
    let v = c.loop-word.invariant in
    let added : IsAdded c.args.place c.word-item.result.items (joined c.loop-word.groups.items) (joined c.add_word.new.groups.items) =
    subst (λ (xs : List ℕ). IsAdded place xs old more) (c.in_ok-copy_of.ensures ∙ c.deref.ensures.value) c.in_ok-add_word.ensures.added in (
      c.in_ok-add_word.ensures.kept,
      added-long place w.items old more added (spelled-at (λ xs. place ≤ length xs) words i w c.loop-word-test.true c.word-item.is c.requires) v.1,
      omega (arith, length-added place w.items old more added, v.2),
      added-rearranged place w.items old more (spelled (take i words)) (spelled (take (i + 1) words)) added (spelled-more words i w c.loop-word-test.true c.word-item.is) v.3,
    )
