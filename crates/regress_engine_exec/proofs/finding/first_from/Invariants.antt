use Rattle.std.proofs.Common.{◌-◌, length}
use Rattle.regress_engine_code.specs.Standing.{program_of}
use Rattle.regress_engine_input.specs.Views.{input_of, reading_of}
use Rattle.regress_engine_runs.specs.Meets.{IsAtPlace}
use Rattle.regress_engine_search.specs.Answering.{FindsOn}
use Rattle.regress_engine_attempt.specs.Attempts.{Remembers}
use Rattle.regress_engine_exec.specs.Counting.{CountsUpTo}
use Rattle.regress_engine_exec.proofs.finding.first_from.Given as goal

-- what a search from here finds is what is searched for, no more steps were counted than its runs took, and what is remembered is so
abbrev pub invariant-places : goal.invariant-places
invariant-places g l = record {
  finds : FindsOn (program_of l.context.program.now) (input_of (g.Input.InputIndexer.view l.context.input)) l.offset l.from;
  place : IsAtPlace (reading_of (g.Input.InputIndexer.view l.context.input)) l.from;
  counted : CountsUpTo (program_of l.context.program.now) (g.Input.InputIndexer.view l.context.input) l.offset l.from (g.B.Budget.left l.initial.budget) (g.B.Budget.left l.budget);
  so : Remembers (record { program = program_of l.context.program.now; view = g.Input.InputIndexer.view l.context.input }) l.remembered;
}

abbrev pub decreases-places : goal.decreases-places
decreases-places g l = length (g.Input.InputIndexer.view l.context.input).units - l.from
