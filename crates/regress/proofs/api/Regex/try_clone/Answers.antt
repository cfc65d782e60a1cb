use Rattle.regress_programs.proofs.ProgramLemmas.{copied-program, copied-target}
use Rattle.regress.proofs.api.Regex.try_clone.Goals as goal

pub returns-clause-stands : goal.returns-clause-stands
returns-clause-stands c = λ t o p stands. copied-program _ _ c.in_ok-compiled.ensures.bytes t o p stands

pub returns-clause-stands_in_units : goal.returns-clause-stands_in_units
returns-clause-stands_in_units c = λ t o p stands. copied-program _ _ c.in_ok-compiled.ensures.units t o p stands

pub returns-clause-programs : goal.returns-clause-programs
returns-clause-programs c = (copied-target _ _ c.in_ok-compiled.ensures.bytes, copied-target _ _ c.in_ok-compiled.ensures.units)
