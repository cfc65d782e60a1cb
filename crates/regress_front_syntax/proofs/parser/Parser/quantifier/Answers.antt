use Rattle.std.proofs.Common.{arith}
use Rattle.regress_front_tokens.specs.Cursors.{unread}
use Rattle.regress_front_tokens.proofs.ModeLemmas.{any_mode}
use Rattle.regress_front_syntax.proofs.QuantifierLemmas.{no_quantifier, not_allowed, out_of_order, quantifier-read, quantifier-less, quantifiers-full}
use Rattle.regress_front_syntax.proofs.parser.Parser.quantifier.Goals as goal

pub returns-in_default-clause-answer : goal.returns-in_default-clause-answer
returns-in_default-clause-answer c = λ nesting.
    no_quantifier c.args.allowed nesting c.args.self.now.groups c.args.self.now.loops (unread c.args.self.now.cursor) (unread c.quantifier.new.self) c.in_default.ensures.read.0 c.in_default.ensures.read.1

pub returns-then-not-allowed-clause-answer : goal.returns-then-not-allowed-clause-answer
returns-then-not-allowed-clause-answer c = rw c.if-not-allowed.true (λ nesting. not_allowed (unread c.args.self.now.cursor) (unread c.quantifier.new.self) c.in-Some.quant c.in-Some.ensures.read)

pub returns-then-quant-unwrap_or-clause-answer : goal.returns-then-quant-unwrap_or-clause-answer
returns-then-quant-unwrap_or-clause-answer c =
    rw c.if-not-allowed.false (λ nesting k f. out_of_order (unread c.args.self.now.cursor) (unread c.quantifier.new.self) c.in-Some.quant c.in-Some.ensures.read k f
    (omega (arith, c.if-quant-unwrap_or.true, c.unwrap_or.ensures)))

pub returns-then-from-eq-MAX_LOOPS-clause-answer : goal.returns-then-from-eq-MAX_LOOPS-clause-answer
returns-then-from-eq-MAX_LOOPS-clause-answer c =
    let less = quantifier-less (unread c.args.self.now.cursor) (unread c.quantifier.new.self) c.in-Some.quant c.in-Some.ensures.read any_mode (c.reading_leaves_less.ensures any_mode (unread c.args.self.now.cursor)) in
    rw c.if-not-allowed.false (λ nesting. quantifiers-full c.args.self.now.cursor c.quantifier.new.self c.in-Some.ensures.kept c.in-Some.quant c.in-Some.ensures.read less nesting c.args.self.now.groups c.args.self.now.loops
    (omega (arith, c.from.ensures, c.if-from-eq-MAX_LOOPS.true)) (omega (arith, c.if-quant-unwrap_or.false, c.unwrap_or.ensures)))

pub returns-clause-answer : goal.returns-clause-answer
returns-clause-answer c =
    let less = quantifier-less (unread c.args.self.now.cursor) (unread c.quantifier.new.self) c.in-Some.quant c.in-Some.ensures.read any_mode (c.reading_leaves_less.ensures any_mode (unread c.args.self.now.cursor)) in
    rw c.if-not-allowed.false (λ nesting. quantifier-read c.args.self.now.cursor c.quantifier.new.self c.in-Some.ensures.kept c.in-Some.quant c.in-Some.ensures.read less nesting c.args.self.now.groups c.args.self.now.loops _
    (omega arith) (omega (arith, c.if-quant-unwrap_or.false, c.unwrap_or.ensures)))

pub returns-clause-progress : goal.returns-clause-progress
returns-clause-progress c =
    let less = quantifier-less (unread c.args.self.now.cursor) (unread c.quantifier.new.self) c.in-Some.quant c.in-Some.ensures.read any_mode (c.reading_leaves_less.ensures any_mode (unread c.args.self.now.cursor)) in
    omega (arith, less)
