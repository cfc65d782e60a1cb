use Rattle.std.proofs.Common.{arith}
use Rattle.regress_engine_advance.proofs.LiteralLemmas.{other-at, all-there}
use Rattle.regress_engine_advance.proofs.literals.bytes_ahead.Goals as goal

pub returns-then-text-offset-2 : goal.returns-then-text-offset-2
returns-then-text-offset-2 g c =
    other-at (g.Input.InputIndexer.view c.args.input.now) c.in_ok-text.text.now c.in_ok-text.ensures c.args.bytes.now c.args.offset c.loop-k.k c.loop-k-test.true c.if-text-offset-2.true

pub returns : goal.returns
returns g c =
    all-there (g.Input.InputIndexer.view c.args.input.now) c.in_ok-text.text.now c.in_ok-text.ensures c.args.bytes.now c.args.offset c.if-text-offset.false
    (λ k inside. c.loop-k.invariant k (omega (arith, inside)))
