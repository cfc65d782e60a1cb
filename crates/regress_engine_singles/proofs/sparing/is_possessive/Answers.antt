use Rattle.std.proofs.Common.{sym, ◌∙◌}
use Rattle.regress_engine_analysis.specs.Shared.{facts_of}
use Rattle.regress_engine_code.specs.Standing.{program_of}
use Rattle.regress_engine_singles.proofs.SparingLemmas.{possessive-spares}
use Rattle.regress_engine_singles.proofs.sparing.is_possessive.Goals as goal

pub returns-in-Possessive : goal.returns-in-Possessive
returns-in-Possessive c = λ v all suits yes i here takes.
    let program = c.args.program.now in
    possessive-spares (program_of program) (facts_of program.plan) program.planned v all suits c.args.at (sym c.known.ensures ∙ c.in-Possessive.is) i here takes
