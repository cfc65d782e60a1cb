use Rattle.std.proofs.Common.{◌-◌, length}
use Rattle.regress_engine_code.specs.Standing.{program_of}
use Rattle.regress_engine_leading.proofs.ExitLemmas.{IsExit}
use Rattle.regress_engine_leading.proofs.ways.exits_fail.Given as goal

-- up to here no match can be reached from an exit
abbrev pub invariant-exits : goal.invariant-exits
invariant-exits g l = IsExit (program_of l.program) (g.Input.InputIndexer.view l.input) l.at l.near l.far l.offset

abbrev pub decreases-exits : goal.decreases-exits
decreases-exits g l = length (g.Input.InputIndexer.view l.input).units - l.offset
