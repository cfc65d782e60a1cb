use Rattle.std.proofs.Common.{length}
use Rattle.regress_engine_input.specs.Views.{direction_of}
use Rattle.regress_engine_matchers.proofs.MatcherLemmas.{IsCompared, unread}
use Rattle.regress_engine_matchers.proofs.matchers.backref_icase.Given as goal

abbrev pub invariant-loop-c : goal.invariant-loop-c
invariant-loop-c g l =
    IsCompared (g.Input.InputIndexer.view l.input) (g.Input.InputIndexer.view l.part) (direction_of g.Dir.Direction.FORWARD) (g.Input.Position.PositionType.offset l.initial.pos)
    (g.Input.Position.PositionType.offset l.at) (g.Input.Position.PositionType.offset l.pos)

abbrev pub decreases-loop-c : goal.decreases-loop-c
decreases-loop-c g l = unread (direction_of g.Dir.Direction.FORWARD) (length (g.Input.InputIndexer.view l.part).units) (g.Input.Position.PositionType.offset l.at)
