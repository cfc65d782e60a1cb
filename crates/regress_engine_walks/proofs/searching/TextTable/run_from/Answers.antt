use Rattle.std.proofs.Common.{sym, subst, ◌∙◌}
use Rattle.regress_engine_code.specs.Standing.{program_of}
use Rattle.regress_engine_runs.specs.UndoStack.{meets_alone}
use Rattle.regress_engine_search.specs.Search.{IsSearchable}
use Rattle.regress_engine_linear.specs.LinearViews.{flow_in, heights_in}
use Rattle.regress_engine_walks.proofs.Untold.{untold-fails}
use Rattle.regress_engine_walks.proofs.searching.TextTable.run_from.Goals as goal

pub returns-then-not-are_told-clause-answer : goal.returns-then-not-are_told-clause-answer
returns-then-not-are_told-clause-answer g c =
    let context = c.args.context.now in
    let program = program_of context.program.now in
    let v = g.Input.InputIndexer.view context.input in
    let searchable = subst (IsSearchable program) (g.met.Input.ExecutorInput.shows context.input) context.searchable in
    untold-fails (flow_in c.args.table.now) (heights_in c.args.table.now) v (g.met.Input.InputIndexer.are_of_kind context.input) program searchable.suits c.requires.linear
    c.args.self.now.answers c.requires.told.right c.args.start c.requires.place (λ u i met. searchable.reads c.args.start c.requires.place u i (meets_alone met))
    (sym c.are_told.ensures ∙ c.if-not-are_told.true)

pub follow-requires-clause-reads : goal.follow-requires-clause-reads
follow-requires-clause-reads g c =
    let context = c.args.context.now in
    let searchable = subst (IsSearchable (program_of context.program.now)) (g.met.Input.ExecutorInput.shows context.input) context.searchable in
    searchable.reads c.args.start c.requires.place
