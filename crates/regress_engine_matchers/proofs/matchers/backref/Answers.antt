use Rattle.std.proofs.Common.{◌∙◌}
use Rattle.regress_engine_input.specs.Views.{direction_of}
use Rattle.regress_engine_matchers.proofs.ViewLemmas.{view_repeats}
use Rattle.regress_engine_matchers.proofs.matchers.backref.Goals as goal

pub returns-clause-between : goal.returns-clause-between
returns-clause-between g c = λ start end position.
    c.subrange_eq.ensures
    ∙ view_repeats (g.Input.InputIndexer.view c.args.input.now) (g.met.Input.InputIndexer.are_of_kind c.args.input.now) (direction_of g.Dir.Direction.FORWARD) _ _ _
    c.requires.order start end position
