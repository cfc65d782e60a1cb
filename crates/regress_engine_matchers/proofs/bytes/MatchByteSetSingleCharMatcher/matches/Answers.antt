use Rattle.std.proofs.Common.{ap, ◌∙◌, sym}
use Rattle.regress_engine_input.specs.Views.{direction_of}
use Rattle.regress_meaning.specs.Steps.{only_if}
use Rattle.regress_engine_matchers.proofs.ByteLemmas.{sees_byte}
use Rattle.regress_engine_matchers.proofs.bytes.MatchByteSetSingleCharMatcher.matches.Goals as goal

pub returns-in-Some : goal.returns-in-Some
returns-in-Some g c =
    ap (λ r. only_if r (g.Input.Position.PositionType.offset c.next_byte.new.pos)) c.contains.ensures
    ∙ sees_byte (g.Input.InputIndexer.view c.args.input.now) (g.met.Input.InputIndexer.are_of_kind c.args.input.now)
    (sym (c.if-IS_BYTE.ensures ∙ g.met.Input.InputIndexer.bytes_by_kind c.args.input.now))
    (g.Bytes.ByteSet.contains c.args.self.now.bytes.now) c.requires.suits (direction_of g.Dir.Direction.FORWARD)
    (g.Input.Position.PositionType.offset c.args.pos.now) c.requires.position _ _ c.in-Some.ensures.byte c.in-Some.ensures.position
