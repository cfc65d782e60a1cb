use Rattle.regress_engine_input.specs.Views.{direction_of}
use Rattle.regress_engine_matchers.proofs.ViewLemmas.{view_reads}
use Rattle.regress_engine_search.proofs.PlaceLemmas.{lies-behind}
use Rattle.regress_engine_advance.proofs.reading.read.Goals as goal

pub pos_to_offset-requires : goal.pos_to_offset-requires
pos_to_offset-requires g c =
    let v = g.Input.InputIndexer.view c.args.input.now in
    lies-behind v (view_reads v (g.met.Input.InputIndexer.are_of_kind c.args.input.now)) (direction_of g.Dir.Direction.FORWARD) c.args.offset _ c.requires (rw c.new-position.ensures at c.in_ok-character.ensures.position)
