use Rattle.std.proofs.Common.{◌-◌, length}
use Rattle.regress_engine_code.specs.Standing.{program_of}
use Rattle.regress_engine_input.specs.Views.{View}
use Rattle.regress_engine_leading.specs.Exits.{TakesFirst}
use Rattle.regress_engine_leading.proofs.ways.behind_ways.Given as goal

-- the ways so far take one character and come together
abbrev pub invariant-ways : goal.invariant-ways
invariant-ways l = (v : View) → TakesFirst (program_of l.program) v l.at l.together → TakesFirst (program_of l.program) v 0 l.together

abbrev pub decreases-ways : goal.decreases-ways
decreases-ways l = length l.insns - l.at
