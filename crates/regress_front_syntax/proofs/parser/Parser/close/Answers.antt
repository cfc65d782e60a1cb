use Rattle.std.proofs.Common.{◌≡◌, true, false, sym, ap, subst, ◌∙◌}
use Rattle.std.proofs.lemmas.Result.{IfOk-weaker}
use Rattle.regress_meaning.specs.Reading.{quantified}
use Rattle.regress_front_tokens.specs.Trees.{tree}
use Rattle.regress_front_syntax.specs.Openings.{enclosed, finish, is_lookbehind, may_repeat}
use Rattle.regress_front_syntax.specs.Parsing.{Grows, front_to, place}
use Rattle.regress_front_syntax.proofs.AnswerLemmas.{answer_same}
use Rattle.regress_front_syntax.proofs.parser.Parser.close.Goals as goal

pub returns-then-is_lookbehind-clause-answer : goal.returns-then-is_lookbehind-clause-answer
returns-then-is_lookbehind-clause-answer c = λ nesting here grows.
    let o = c.args.opening in
    let k = c.args.opened in
    let p = tree c.args.contents.value in
    let there = place nesting c.args.self.now in
    let same : tree c.enclose-group.result ≡ enclosed o k p = c.enclose-group.ensures.same in
    let alone : is_lookbehind o ≡ true = sym c.is_lookbehind-is_lookbehind.ensures ∙ c.if-is_lookbehind.true in
    rw same (ap (λ b. finish b (may_repeat c.args.unicode o) k (front_to there (enclosed o k p))) alone, grows)

pub returns-clause-answer : goal.returns-clause-answer
returns-clause-answer c = λ nesting here grows.
    let o = c.args.opening in
    let k = c.args.opened in
    let p = tree c.args.contents.value in
    let there = place nesting c.args.self.now in
    let same : tree c.enclose-group.result ≡ enclosed o k p = c.enclose-group.ensures.same in
    let more : is_lookbehind o ≡ false = sym c.is_lookbehind-is_lookbehind.ensures ∙ c.if-is_lookbehind.false in
    let read : finish (is_lookbehind o) (may_repeat c.args.unicode o) k (front_to there (enclosed o k p)) ≡ quantified c.may_repeat-may_repeat.result k (front_to there (tree c.enclose-group.result)) =
    ap (λ b. finish b (may_repeat c.args.unicode o) k (front_to there (enclosed o k p))) more ∙ (λ i. quantified (sym c.may_repeat-may_repeat.ensures i) k (front_to there (sym same i))) in
    answer_same here (place nesting c.repeated.new.self) _ _ c.repeated.result read
    (c.repeated.ensures.answer nesting here (subst (λ q. Grows here there q) (sym same) grows))

pub returns-then-is_lookbehind-clause-ranges : goal.returns-then-is_lookbehind-clause-ranges
returns-then-is_lookbehind-clause-ranges c = c.enclose-group.ensures.ranges

pub returns-clause-ranges : goal.returns-clause-ranges
returns-clause-ranges c = IfOk-weaker c.repeated.result _ _ (λ s more e. more c.args.opened (c.enclose-group.ensures.ranges e)) c.repeated.ensures.ranges
