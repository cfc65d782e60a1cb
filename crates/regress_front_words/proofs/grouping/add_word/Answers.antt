use Rattle.std.proofs.Common.{◌++◌, [], ◌∷◌, List, length, slice_get, Vec, ℕ, Global, sym, ap, ◌∙◌, arith}
use Rattle.regress_front_words.specs.Sharing.{spelled}
use Rattle.regress_front_words.proofs.GroupLemmas.{last-inside, joins-group, added-alone}
use Rattle.regress_front_words.proofs.grouping.add_word.Goals as goal

pub add_to_group-requires : goal.add_to_group-requires
add_to_group-requires c =
    let at = c.in-Some.ensures in
    omega (arith, last-inside at.0 c.in-Some.found c.deref-2.result.now at.2, ap length c.deref-2.ensures.value, ap length c.deref_mut.ensures.value)

pub returns-in_ok-add_to_group-in-Some-clause-kept : goal.returns-in_ok-add_to_group-in-Some-clause-kept
returns-in_ok-add_to_group-in-Some-clause-kept c =
    let groups = c.args.groups.now.items in
    let word = c.args.word.items in
    let n = c.args.groups.now.len in
    let size = sym (ap length c.deref_mut.ensures.value) ∙ c.deref_mut.ensures.len in
    let letter = c.letter_at-letter.ensures ∙ ap (λ xs. slice_get xs c.args.place) c.deref.ensures.value in
    (joins-group c.args.place word c.letter_at-letter.result c.in-Some.found n groups c.deref-2.result.now c.deref_mut.result.now c.add_to_group.new.groups c.deref-2.ensures.value c.deref_mut.ensures.value size
    (c.add_to_group.auto.groups ∙ c.deref_mut.ensures.len) letter c.in-Some.ensures c.in_ok-add_to_group-in-Some.ensures c.requires).0

pub returns-in_ok-add_to_group-in-Some-clause-added : goal.returns-in_ok-add_to_group-in-Some-clause-added
returns-in_ok-add_to_group-in-Some-clause-added c =
    let groups = c.args.groups.now.items in
    let word = c.args.word.items in
    let n = c.args.groups.now.len in
    let size = sym (ap length c.deref_mut.ensures.value) ∙ c.deref_mut.ensures.len in
    let letter = c.letter_at-letter.ensures ∙ ap (λ xs. slice_get xs c.args.place) c.deref.ensures.value in
    (joins-group c.args.place word c.letter_at-letter.result c.in-Some.found n groups c.deref-2.result.now c.deref_mut.result.now c.add_to_group.new.groups c.deref-2.ensures.value c.deref_mut.ensures.value size
    (c.add_to_group.auto.groups ∙ c.deref_mut.ensures.len) letter c.in-Some.ensures c.in_ok-add_to_group-in-Some.ensures c.requires).1

pub returns-in_ok-push-in-None-2-clause-added : goal.returns-in_ok-push-in-None-2-clause-added
returns-in_ok-push-in-None-2-clause-added c =
    let word = c.args.word in
    rw c.in_ok-push-in-None-2.ensures.items
    (added-alone c.args.place word.items c.args.groups.now.items _ (ap spelled (c.in_ok-push-in-None.ensures.items ∙ ap (λ (ws : List (Vec ℕ Global)). ws ++ word ∷ []) c.new-words.ensures.items)))
