use Rattle.std.proofs.Common.{◌++◌, length, subst, ap, ◌∙◌, arith}
use Rattle.regress_front_nodes.specs.Trees.{tree}
use Rattle.regress_front_rules.specs.Words.{words}
use Rattle.regress_front_words.specs.Sharing.{spelled, behind, IsMadeOf}
use Rattle.regress_front_words.proofs.ShareLemmas.{shared-rule, made-rearranged, behind-none, gathered, some-gathered}
use Rattle.regress_front_words.proofs.sharing.shared_words.Goals as goal

pub word_tree-requires-clause-some : goal.word_tree-requires-clause-some
word_tree-requires-clause-some c =
    let a = tree c.args.first.now in
    let b = tree c.args.second.now in
    let first = c.if-not-branch.false in
    let second = c.if-not-branch-2.false in
    let list = c.add_words-else-not-branch.new.list.items in
    let all = gathered c.new-list.result.items c.add_words.new.list.items list (words a) (words b) c.new-list.ensures.items (c.in_ok-add_words.ensures.added first) (c.in_ok-add_words-2.ensures.added second) in
    omega (arith, some-gathered list a b (c.in_ok-add_words.ensures.choice first) all, ap length c.deref.ensures.value, c.in_ok-list.ensures.len, ap length c.deref-2.ensures.value)

pub returns-then-words : goal.returns-then-words
returns-then-words c =
    let a = tree c.args.first.now in
    let b = tree c.args.second.now in
    let made = tree c.in_ok-words.words.node in
    let first = c.if-not-branch.false in
    let second = c.if-not-branch-2.false in
    let list = c.add_words-else-not-branch.new.list.items in
    let all = gathered c.new-list.result.items c.add_words.new.list.items list (words a) (words b) c.new-list.ensures.items (c.in_ok-add_words.ensures.added first) (c.in_ok-add_words-2.ensures.added second) in
    let same = behind-none (spelled c.deref.result.now) ∙ ap spelled c.deref.ensures.value ∙ all in
    let regrouped = subst (λ xs. IsMadeOf (behind 0 (spelled xs)) c.in_ok-words.words.shared made) c.deref-2.ensures.value c.in_ok-words.ensures in
    let found = made-rearranged (behind 0 (spelled c.in_ok-list.list.items)) (behind 0 (spelled c.deref.result.now)) c.in_ok-words.words.shared made c.in_ok-list.ensures.same regrouped in
    shared-rule a b made c.requires.0 (c.in_ok-add_words.ensures.choice first) (c.in_ok-add_words-2.ensures.choice second) c.requires.1
    (subst (λ shared. IsMadeOf (words a ++ words b) shared made) c.if-words.true
    (subst (λ ws. IsMadeOf ws c.in_ok-words.words.shared made) same found))
