use Rattle.std.proofs.Common.{refl}
use Rattle.regress_meaning.specs.Meaning.{Forward}
use Rattle.regress_engine_input.specs.Views.{input_of}
use Rattle.regress_engine_singles.proofs.PassingLemmas.{far-past, far-led, far-stopped, far-ended, reads-on}
use Rattle.regress_engine_singles.proofs.ahead.as_far_beside.Goals as goal

pub loop-left-init : goal.loop-left-init
loop-left-init g c =
    let behind = c.ascii_end-behind.ensures in
    let (rest, place) = far-past (g.Input.InputIndexer.view c.args.input.now) (g.met.Input.InputIndexer.are_of_kind c.args.input.now) (g.Matcher.SingleCharMatcher.passes c.args.matcher.now) c.args.times c.args.offset c.ascii_end-behind.result c.requires.place behind.low behind.high behind.each in
    record { rest = rest; place = place }

pub loop-left-preserved : goal.loop-left-preserved
loop-left-preserved g c =
    let v = g.Input.InputIndexer.view c.args.input.now in
    let passes = g.Matcher.SingleCharMatcher.passes c.args.matcher.now in
    let inv = c.loop-left.invariant in
    record {
      rest = far-led (input_of v) passes Forward c.loop-left.left c.args.times c.loop-left.behind c.args.offset inv.rest c.loop-left-test.true c.in-Some.next c.in-Some.ensures;
      place = reads-on v (g.met.Input.InputIndexer.are_of_kind c.args.input.now) passes Forward c.loop-left.behind c.in-Some.next inv.place c.in-Some.ensures;
    }

pub returns-in_default : goal.returns-in_default
returns-in_default g c =
    far-stopped (input_of (g.Input.InputIndexer.view c.args.input.now)) (g.Matcher.SingleCharMatcher.passes c.args.matcher.now) Forward c.loop-left.left c.args.times c.loop-left.behind c.args.offset
    c.loop-left.invariant.rest c.loop-left-test.true c.in_default.ensures c.loop-left.behind refl

pub returns-after-loop-left : goal.returns-after-loop-left
returns-after-loop-left g c =
    far-ended (input_of (g.Input.InputIndexer.view c.args.input.now)) (g.Matcher.SingleCharMatcher.passes c.args.matcher.now) Forward c.loop-left.left c.args.times c.loop-left.behind c.args.offset
    c.loop-left.invariant.rest c.loop-left-test.false c.loop-left.behind refl
