use Rattle.std.proofs.Common.{ℕ, ◌≡◌, ◌∙◌, Bool, sym, ap}
use Rattle.std.proofs.Math.Path.{fun_ext}
use Rattle.std.proofs.lemmas.Result.{IfOk-weaker}
use Rattle.regress_meaning.specs.Table.{canon, closure}
use Rattle.regress_meaning.specs.Class.{is_ascii_word, is_word}
use Rattle.regress_front_sets.specs.Sets.{in_set}
use Rattle.regress_front_tables.specs.TableViews.{table}
use Rattle.regress_front_class_values.proofs.ClassLemmas.{folded-words, plain-words}
use Rattle.regress_front_class_values.proofs.value.word_set.Goals as goal

pub returns-then-folded : goal.returns-then-folded
unfolding canon
returns-then-folded c =
    let tables = c.args.tables.now in
    let words : in_set c.in_ok-words.words ≡ is_ascii_word = c.in_ok-words.ensures ∙ fun_ext c.word_chars.ensures.members in
    IfOk-weaker c.try_closure.result _ _ (λ s members. fun_ext (λ (d : ℕ).
    members d ∙ ap (λ (test : ℕ → Bool). closure (table tables).fold test d) words ∙ folded-words tables d (c.fold_is_idempotent.ensures.fold tables)
    ∙ ap (λ (folded : Bool). is_word (table tables) folded d) (sym c.if-folded.true)))
    c.try_closure.ensures

pub returns-else-folded : goal.returns-else-folded
returns-else-folded c =
    let tables = c.args.tables.now in
    c.in_ok-words.ensures ∙ fun_ext (λ (d : ℕ).
    c.word_chars.ensures.members d ∙ plain-words tables d ∙ ap (λ (folded : Bool). is_word (table tables) folded d) (sym c.if-folded.false))
