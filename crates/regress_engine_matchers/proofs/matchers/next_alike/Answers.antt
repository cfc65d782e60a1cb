use Rattle.std.proofs.Common.{sym, ap, ◌∙◌}
use Rattle.regress_meaning.specs.Steps.{only_if}
use Rattle.regress_engine_input.specs.Views.{direction_of, input_of}
use Rattle.regress_engine_matchers.proofs.MatcherLemmas.{canon-is, alike-here}
use Rattle.regress_engine_matchers.proofs.matchers.next_alike.Goals as goal

pub returns : goal.returns
returns g c =
    let v = g.Input.InputIndexer.view c.args.input.now in
    let dir = direction_of g.Dir.Direction.FORWARD in
    let read = sym c.in-Some.ensures.point in
    ap (λ b. only_if b (g.Input.Position.PositionType.offset c.next.new.pos)) c.fold_equals.ensures
    ∙ alike-here (input_of v) dir (g.Input.CharProps.CharProperties.canon v.table v.unicode) _ _ _ _ (sym read) c.in-Some.ensures.position
    (c.requires.canon ∙ sym (canon-is v _))
    (g.met.Input.CharInput.canon_by_table c.args.input.now dir _ _ read)
