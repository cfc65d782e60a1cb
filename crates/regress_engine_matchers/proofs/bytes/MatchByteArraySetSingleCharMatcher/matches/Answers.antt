use Rattle.std.proofs.Common.{ap, ◌∙◌}
use Rattle.regress_engine_input.specs.Views.{direction_of}
use Rattle.regress_meaning.specs.Steps.{only_if}
use Rattle.regress_engine_matchers.proofs.ByteLemmas.{sees_byte}
use Rattle.regress_engine_matchers.proofs.bytes.MatchByteArraySetSingleCharMatcher.matches.Goals as goal

pub returns-in-Some : goal.returns-in-Some
returns-in-Some g c =
    ap (λ r. only_if r (g.Input.Position.PositionType.offset c.next_byte.new.pos)) c.contains.ensures
    ∙ sees_byte (g.Input.InputIndexer.view c.args.input.now) (g.met.Input.InputIndexer.are_of_kind c.args.input.now) c.requires.suits.0
    (g.ArraySet.SmallArraySet.contains c.args.self.now.0.0) c.requires.suits.1 (direction_of g.Dir.Direction.FORWARD)
    (g.Input.Position.PositionType.offset c.args.pos.now) c.requires.position _ _ c.in-Some.ensures.byte c.in-Some.ensures.position
