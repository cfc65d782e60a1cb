use Rattle.regress_engine_input.specs.Views.{direction_of, input_of}
use Rattle.regress_engine_singles.proofs.PassingLemmas.{far-led, far-stopped, far-ended, reads-on}
use Rattle.regress_engine_singles.proofs.far.scan_while.Goals as goal
use Rattle.regress_engine_singles.proofs.far.scan_while.Goals.{else-loop-left-test, then-loop-left-test+then-not-matches}

pub loop-left-preserved : goal.loop-left-preserved
loop-left-preserved g c =
    let v = g.Input.InputIndexer.view c.args.input.now in
    let passes = g.Matcher.SingleCharMatcher.passes c.args.matcher.now in
    let dir = direction_of g.Dir.Direction.FORWARD in
    let behind = g.Input.Position.PositionType.offset c.loop-left.behind in
    let next = g.Input.Position.PositionType.offset c.matches.new.pos in
    record {
      rest = far-led (input_of v) passes dir c.loop-left.left c.args.times behind c.args.offset c.loop-left.invariant.rest c.loop-left-test.true next c.if-not-matches.ensures;
      place = reads-on v (g.met.Input.InputIndexer.are_of_kind c.args.input.now) passes dir behind next c.loop-left.invariant.place c.if-not-matches.ensures;
    }

pub returns : goal.returns
returns g c =
    let input = input_of (g.Input.InputIndexer.view c.args.input.now) in
    let passes = g.Matcher.SingleCharMatcher.passes c.args.matcher.now in
    let dir = direction_of g.Dir.Direction.FORWARD in
    let behind = g.Input.Position.PositionType.offset c.loop-left.behind in
    elim c.loop-left-test.branch [
      | else-loop-left-test w ↦ far-ended input passes dir c.loop-left.left c.args.times behind c.args.offset c.loop-left.invariant.rest w.loop-left-test.false c.pos_to_offset.result c.pos_to_offset.ensures
      | then-loop-left-test+then-not-matches w ↦
          far-stopped input passes dir c.loop-left.left c.args.times behind c.args.offset c.loop-left.invariant.rest w.loop-left-test.true w.if-not-matches.ensures c.pos_to_offset.result c.pos_to_offset.ensures
    ]
