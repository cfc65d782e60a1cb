use Rattle.std.proofs.Common.{◌-◌, length}
use Rattle.regress_engine_code.specs.Standing.{program_of}
use Rattle.regress_engine_search.specs.Skipping.{Reaches}
use Rattle.regress_engine_leading.proofs.leading.passed_leads.Given as goal

-- up to here nothing is found
abbrev pub invariant-places : goal.invariant-places
invariant-places g l = Reaches (program_of l.program) (g.Input.InputIndexer.view l.input) l.start l.at

abbrev pub decreases-places : goal.decreases-places
decreases-places g l = length (g.Input.InputIndexer.view l.input).units - l.at
