use Rattle.std.proofs.Common.{◌+◌, sym, ◌∙◌}
use Rattle.regress_engine_analysis.specs.Planned.{is_class}
use Rattle.regress_engine_analysis.proofs.PlanLemmas.{stands-of}
use Rattle.regress_engine_analysis.specs.Shared.{facts_of}
use Rattle.regress_engine_code.specs.Standing.{program_of}
use Rattle.regress_engine_singles.proofs.SparingLemmas.{turn-spares}
use Rattle.regress_engine_singles.proofs.sparing.turn_at.Goals as goal

pub returns-in-Turn-clause-class : goal.returns-in-Turn-clause-class
returns-in-Turn-clause-class c =
    let program = c.args.program.now in
    stands-of (program_of program) is_class (c.args.at + 1) (program.planned.turn c.args.at c.in-Turn.turn (sym c.known.ensures ∙ c.in-Turn.is)).class

pub returns-in-Turn-clause-turn : goal.returns-in-Turn-clause-turn
returns-in-Turn-clause-turn c = λ v all suits.
    let program = c.args.program.now in
    turn-spares (program_of program) (facts_of program.plan) program.planned v all suits c.args.at c.in-Turn.turn (sym c.known.ensures ∙ c.in-Turn.is)
