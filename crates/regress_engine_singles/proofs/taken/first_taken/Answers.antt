use Rattle.std.proofs.Common.{◌≤◌, ◌-◌, ◌+◌, arith}
use Rattle.regress_meaning.specs.Meaning.{Forward}
use Rattle.regress_engine_input.specs.Views.{input_of}
use Rattle.regress_engine_singles.proofs.PassingLemmas.{begun-each, begun-one}
use Rattle.regress_engine_singles.proofs.taken.first_taken.Goals as goal

pub returns-then-past-offset : goal.returns-then-past-offset
returns-then-past-offset g c =
    let past = c.ascii_end-past.result in
    let high = c.ascii_end-past.ensures.high in
    let most = c.saturating_add.ensures in
    let within : past - c.args.offset ≤ c.args.more + 1 = omega (arith, high, most) in
    begun-each (input_of (g.Input.InputIndexer.view c.args.input.now)) (g.Matcher.SingleCharMatcher.passes c.args.matcher.now) Forward c.args.more c.args.offset past c.if-past-offset.true within c.ascii_end-past.ensures.each

pub returns : goal.returns
returns g c =
    begun-one (input_of (g.Input.InputIndexer.view c.args.input.now)) (g.Matcher.SingleCharMatcher.passes c.args.matcher.now) Forward c.args.more c.args.offset c.in_ok-past.past c.in_ok-past.ensures
