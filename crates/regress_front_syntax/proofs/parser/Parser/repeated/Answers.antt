use Rattle.std.proofs.Common.{refl, ◌∙◌, None, Some, ℕ, sym, ap}
use Rattle.std.proofs.lemmas.Result.{err_from_is_err_and}
use Rattle.regress_meaning.specs.Pattern.{repeated}
use Rattle.regress_front_tokens.specs.Trees.{tree}
use Rattle.regress_front_core.specs.Quantifiers.{most}
use Rattle.regress_front_syntax.specs.Parsing.{place}
use Rattle.regress_front_tokens.proofs.TreeLaws.{tree-Loop}
use Rattle.regress_front_tokens.specs.Ranges.{opens}
use Rattle.regress_front_tokens.proofs.RangeLemmas.{opens-Loop}
use Rattle.regress_front_syntax.proofs.QuantifierLemmas.{repetition-answer, repetition-refused}
use Rattle.regress_front_syntax.proofs.parser.Parser.repeated.Goals as goal

pub returns-in_err-quant-clause-answer : goal.returns-in_err-quant-clause-answer
returns-in_err-quant-clause-answer c =
    let p = err_from_is_err_and c.from_residual.result c.from_residual.ensures.1 in
    rw (p.1, p.2) (λ nesting here grows.
    repetition-refused c.args.allowed c.args.opened here (place nesting c.args.self.now) (place nesting c.quantifier.new.self) (tree c.args.atom) c.in_err-quant.field-0.0 (c.in_err-quant.ensures.answer nesting) grows)

pub returns-in_default-clause-answer : goal.returns-in_default-clause-answer
returns-in_default-clause-answer c = λ nesting here grows.
    repetition-answer c.args.allowed c.args.opened here (place nesting c.args.self.now) (place nesting c.quantifier.new.self) (tree c.args.atom) (tree c.args.atom) None (rw c.in_default.is at c.in_ok-quant.ensures.answer nesting) grows refl

pub returns-clause-answer : goal.returns-clause-answer
returns-clause-answer c = λ nesting here grows.
    let quant = c.in-Some.quant in
    let made = tree-Loop c.in_ok-new.field-0 quant (record { start = c.args.opened; end = c.quantifier.new.self.groups }) in
    let reads = c.in_ok-quant.ensures.answer nesting in
    let boxed = c.in_ok-new.ensures.ok in
    repetition-answer c.args.allowed c.args.opened here (place nesting c.args.self.now) (place nesting c.quantifier.new.self) (tree c.args.atom) _ (Some quant) (rw c.in-Some.is at reads) grows
    (made ∙ (λ i. repeated (tree (boxed i)) c.args.opened (reads.opened i) quant.min (most quant) quant.greedy))

pub returns-in_default-clause-ranges : goal.returns-in_default-clause-ranges
returns-in_default-clause-ranges c = λ k e. e ∙ ap (λ (n : ℕ). Some n) (sym (c.in_ok-quant.ensures.answer 0).opened)

pub returns-clause-ranges : goal.returns-clause-ranges
returns-clause-ranges c = λ k e.
    ap (λ f. f k) (opens-Loop c.in_ok-new.field-0 c.in-Some.quant (record { start = c.args.opened; end = c.quantifier.new.self.groups }))
    ∙ ap (λ s. opens s k) c.in_ok-new.ensures.ok ∙ e ∙ ap (λ (n : ℕ). Some n) (sym (c.in_ok-quant.ensures.answer 0).opened)
