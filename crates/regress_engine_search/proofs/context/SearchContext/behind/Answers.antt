use Rattle.regress_meaning.specs.Meaning.{Forward}
use Rattle.regress_engine_matchers.proofs.ViewLemmas.{view_reads}
use Rattle.regress_engine_search.proofs.PlaceLemmas.{lies-next}
use Rattle.regress_engine_search.proofs.context.SearchContext.behind.Goals as goal

pub pos_to_offset-requires : goal.pos_to_offset-requires
pos_to_offset-requires g c =
    let v = g.Input.InputIndexer.view c.args.self.now.input in
    lies-next v (view_reads v (g.met.Input.InputIndexer.are_of_kind c.args.self.now.input)) Forward c.args.offset _ c.requires (rw c.new-position.ensures at c.in_ok-behind.ensures)
