use Rattle.regress_programs.proofs.ProgramLemmas.{parsed-for, read-program}
use Rattle.regress_programs.proofs.laws.programs_of_trees_are_of_patterns.Goals as goal

pub returns-clause-parsed : goal.returns-clause-parsed
returns-clause-parsed c = parsed-for

pub returns-clause-emitted : goal.returns-clause-emitted
returns-clause-emitted c = λ made t o text p regex of_text flags of_table.
    read-program made t o text p regex (record { of_text = of_text; flags = flags; table = of_table })
