use Rattle.std.proofs.lemmas.Result.{err_from_is_err_and}
use Rattle.std.proofs.Common.{◌≡◌, sym, ap, ◌∙◌, subst, is_some, Some, arith}
use Rattle.regress_meaning.specs.Grammar.{names_apart}
use Rattle.regress_meaning.specs.Reading.{disjunction_at}
use Rattle.regress_front_tokens.specs.Cursors.{unread}
use Rattle.regress_front_tokens.specs.Escapes.{mode_view}
use Rattle.regress_front_tokens.specs.Trees.{tree}
use Rattle.regress_front_tokens.specs.Ranges.{opens}
use Rattle.regress_front_syntax.specs.Parsing.{Place, Grows, IsRefusal, front_to, place}
use Rattle.regress_front_syntax.proofs.AnswerLemmas.{at}
use Rattle.regress_front_syntax.proofs.PatternLemmas.{empty-text, left-none, alike-none, apart-whole, whole-refused}
use Rattle.regress_front_syntax.proofs.parser.Parser.pattern.Goals as goal

pub returns-in_err-boxed-clause-answer : goal.returns-in_err-boxed-clause-answer
returns-in_err-boxed-clause-answer c =
    let m = mode_view c.args.mode.now in
    let t = unread c.args.self.now.cursor in
    let e = c.in_err-boxed.field-0.0 in
    let p = err_from_is_err_and c.from_residual.result c.from_residual.ensures.1 in
    let start : place 0 c.args.self.now ≡ at 0 0 0 t = λ i. record { nesting = 0; opened = c.requires.beginning.0 i; repeated = c.requires.beginning.1 i; text = t } in
    rw (p.1, p.2) (whole-refused m t (c.reading_goes_by_steps.ensures m c.requires.coherent t 0) e
    (subst (λ (h : Place). IsRefusal h (disjunction_at m h.text h.opened) e) start c.in_err-boxed.ensures.answer))

pub returns-then-is_some-clause-answer : goal.returns-then-is_some-clause-answer
returns-then-is_some-clause-answer c =
    let m = mode_view c.args.mode.now in
    let t = unread c.args.self.now.cursor in
    let end = place 0 c.disjunction.new.self in
    let p = tree c.in_ok-boxed.boxed.value in
    let read : disjunction_at m t 0 ≡ Some (front_to end p) = ap (disjunction_at m t) (sym c.requires.beginning.0) ∙ c.in_ok-boxed.ensures.answer.0 in
    left-none m t (front_to end p) read (ap is_some (sym c.peek.ensures) ∙ sym c.is_some.ensures ∙ c.if-is_some.true)

pub returns-then-not-branch-clause-answer : goal.returns-then-not-branch-clause-answer
returns-then-not-branch-clause-answer c =
    let m = mode_view c.args.mode.now in
    let t = unread c.args.self.now.cursor in
    let end = place 0 c.disjunction.new.self in
    let p = tree c.in_ok-boxed.boxed.value in
    let read : disjunction_at m t 0 ≡ Some (front_to end p) = ap (disjunction_at m t) (sym c.requires.beginning.0) ∙ c.in_ok-boxed.ensures.answer.0 in
    alike-none m t p c.disjunction.new.self.groups (unread c.disjunction.new.self.cursor) read (ap (λ s. names_apart (tree s)) (sym c.into_inner-syntax.ensures) ∙ sym c.in_ok-names_are_apart.ensures ∙ c.if-not-branch.true)

pub returns-clause-answer : goal.returns-clause-answer
returns-clause-answer c =
    let m = mode_view c.args.mode.now in
    let t = unread c.args.self.now.cursor in
    let end = place 0 c.disjunction.new.self in
    let p = tree c.in_ok-boxed.boxed.value in
    let start : place 0 c.args.self.now ≡ at 0 0 0 t = λ i. record { nesting = 0; opened = c.requires.beginning.0 i; repeated = c.requires.beginning.1 i; text = t } in
    let (read, grows) = subst (λ (h : Place). (disjunction_at m h.text h.opened ≡ Some (front_to end p)) × Grows h end p) start c.in_ok-boxed.ensures.answer in
    rw c.into_inner-syntax.ensures (let none = empty-text (unread c.disjunction.new.self.cursor) (ap is_some (sym c.peek.ensures) ∙ sym c.is_some.ensures ∙ c.if-is_some.false) in (
      apart-whole m t p c.disjunction.new.self.groups (unread c.disjunction.new.self.cursor) read none (ap (λ s. names_apart (tree s)) (sym c.into_inner-syntax.ensures) ∙ sym c.in_ok-names_are_apart.ensures ∙ c.if-not-branch.false),
      record { deep = omega (arith, grows.deep); groups = omega (arith, grows.counted, c.disjunction.new.self.few); loops = omega (arith, grows.loops, c.disjunction.new.self.few_loops) },
    ))

pub returns-clause-ranges : goal.returns-clause-ranges
returns-clause-ranges c =
    let s = c.in_ok-boxed.boxed.value in
    (c.disjunction.new.self.groups, ap (λ x. opens x 0) c.into_inner-syntax.ensures ∙ ap (opens s) (sym c.requires.beginning.0) ∙ c.in_ok-boxed.ensures.ranges)
