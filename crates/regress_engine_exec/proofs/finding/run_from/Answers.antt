use Rattle.std.proofs.Common.{sym, subst, refl, inl}
use Rattle.regress_engine_code.specs.Standing.{program_of}
use Rattle.regress_engine_input.specs.Views.{reading_of}
use Rattle.regress_engine_runs.specs.Meets.{IsAtPlace}
use Rattle.regress_engine_search.specs.Search.{IsSearchable}
use Rattle.regress_engine_exec.proofs.finding.run_from.Goals as goal

pub invariant_of-attempt : goal.invariant_of-attempt
invariant_of-attempt g c =
    let context = c.args.context.now in
    record { ends = context.searchable.ends c.args.offset (subst (λ x. IsAtPlace (reading_of x) c.args.offset) (sym (g.met.Input.ExecutorInput.shows context.input)) c.requires.place) }

pub run_within-requires-clause-suits : goal.run_within-requires-clause-suits
run_within-requires-clause-suits g c =
    let context = c.args.context.now in
    let searchable = subst (IsSearchable (program_of context.program.now)) (g.met.Input.ExecutorInput.shows context.input) context.searchable in
    searchable.suits

pub run_within-requires-clause-begun : goal.run_within-requires-clause-begun
run_within-requires-clause-begun g c = λ h. inl refl

pub run_within-requires-clause-reads : goal.run_within-requires-clause-reads
run_within-requires-clause-reads g c =
    let context = c.args.context.now in
    let searchable = subst (IsSearchable (program_of context.program.now)) (g.met.Input.ExecutorInput.shows context.input) context.searchable in
    searchable.reads c.args.offset c.requires.place
