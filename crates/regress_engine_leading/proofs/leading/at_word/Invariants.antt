use Rattle.std.proofs.Common.{◌-◌, length}
use Rattle.regress_engine_code.specs.Standing.{program_of}
use Rattle.regress_engine_singles.specs.Passed.{IsInside}
use Rattle.regress_engine_leading.proofs.leading.at_word.Given as goal

-- up to here no word begins or ends
abbrev pub invariant-places : goal.invariant-places
invariant-places g l = IsInside (program_of l.program) (g.Input.InputIndexer.view l.input) l.folded l.start l.at l.was

abbrev pub decreases-places : goal.decreases-places
decreases-places g l = length (g.Input.InputIndexer.view l.input).units - l.at
