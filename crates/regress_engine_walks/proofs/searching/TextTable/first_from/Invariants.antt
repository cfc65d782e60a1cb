use Rattle.std.proofs.Common.{◌≡◌, ◌-◌, length}
use Rattle.regress_engine_code.specs.Standing.{program_of}
use Rattle.regress_engine_input.specs.Views.{input_of, reading_of}
use Rattle.regress_engine_runs.specs.Meets.{IsAtPlace}
use Rattle.regress_engine_search.specs.Answering.{FindsOn}
use Rattle.regress_engine_walks.proofs.searching.TextTable.first_from.Given as goal

-- what a search from here finds is what is searched for, and no step was counted yet
abbrev pub invariant-places : goal.invariant-places
invariant-places g l = record {
  finds : FindsOn (program_of l.context.program.now) (input_of (g.Input.InputIndexer.view l.context.input)) l.offset l.from;
  place : IsAtPlace (reading_of (g.Input.InputIndexer.view l.context.input)) l.from;
  counted : l.steps ≡ l.initial.steps;
}

abbrev pub decreases-places : goal.decreases-places
decreases-places g l = length (g.Input.InputIndexer.view l.context.input).units - l.from
