use Rattle.std.proofs.Common.{sym, ◌∙◌, subst}
use Rattle.regress_engine_code.specs.Standing.{program_of}
use Rattle.regress_engine_input.specs.Views.{direction_of, input_of}
use Rattle.regress_engine_singles.specs.Failing.{IsDead}
use Rattle.regress_engine_advance.proofs.dead.is_dead.Goals as goal

pub returns-in-Some : goal.returns-in-Some
returns-in-Some g c = λ yes.
    let v = g.Input.InputIndexer.view c.args.input.now in
    subst (λ forward. IsDead (program_of c.args.program.now) (input_of v) (direction_of forward) c.args.at c.args.offset) (sym c.if-not-forward.false)
    (c.is_dead_ahead.ensures v c.args.offset (g.met.Input.InputIndexer.are_of_kind c.args.input.now) c.requires (sym c.in-Some.is ∙ c.lead_ahead.ensures) yes)
