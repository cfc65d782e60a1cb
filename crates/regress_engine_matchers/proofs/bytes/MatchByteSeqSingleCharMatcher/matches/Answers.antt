use Rattle.std.proofs.Common.{◌∙◌}
use Rattle.regress_engine_input.specs.Views.{direction_of}
use Rattle.regress_engine_matchers.proofs.SequenceLemmas.{sees_sequence}
use Rattle.regress_engine_matchers.proofs.bytes.MatchByteSeqSingleCharMatcher.matches.Goals as goal

pub returns : goal.returns
returns g c =
    c.match_bytes.ensures
    ∙ sees_sequence (g.Input.InputIndexer.view c.args.input.now) (g.met.Input.InputIndexer.are_of_kind c.args.input.now) c.requires.suits.0
    (direction_of g.Dir.Direction.FORWARD) (g.Input.Position.PositionType.offset c.args.pos.now) c.requires.position c.args.self.now.0.now c.requires.suits.1 c.requires.suits.2
