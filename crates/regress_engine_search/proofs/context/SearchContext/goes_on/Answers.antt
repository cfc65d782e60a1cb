use Rattle.std.proofs.Common.{sym, subst}
use Rattle.regress_engine_input.specs.Views.{CanRead}
use Rattle.regress_engine_search.proofs.PlaceLemmas.{can-read}
use Rattle.regress_engine_search.proofs.context.SearchContext.goes_on.Goals as goal

pub behind-requires : goal.behind-requires
behind-requires g c =
    let v = g.Input.InputIndexer.view c.args.self.now.input in
    subst (CanRead v) (sym c.end-end.ensures) (can-read v (g.met.Input.InputIndexer.are_of_kind c.args.self.now.input) _ c.requires.0.1)
