use Rattle.std.proofs.Common.{Some, subst, sym}
use Rattle.regress_engine_code.specs.Standing.{program_of}
use Rattle.regress_engine_exec.specs.Turned.{Turns, TurnsTo}
use Rattle.regress_engine_exec.proofs.TurnLemmas.{lent-again, lent-anyway}
use Rattle.regress_engine_exec.proofs.search.Backtracker.run_told.Goals as goal

pub run_from-requires-clause-turns : goal.run_from-requires-clause-turns
run_from-requires-clause-turns g c =
    let self = c.args.self.now in
    let program = program_of self.context.program.now in
    let v = g.Input.InputIndexer.view self.context.input in
    let kept = subst (λ x. ∥ TurnsTo program x self.turning self.tables ∥₁) (g.met.Input.ExecutorInput.shows self.context.input) self.turns in
    lent-anyway program v self.turning self.tables kept _ c.in-Some.is

pub invariant_of-self-2-clause-turns : goal.invariant_of-self-2-clause-turns
invariant_of-self-2-clause-turns g c =
    let self = c.args.self.now in
    let program = program_of self.context.program.now in
    let shown = g.Input.Shown.shown self.context.input in
    let new = c.run_from.new.self in
    lent-again program shown self.turning self.tables self.turns (Some new)
    (subst (λ x. Turns program x new) (sym (g.met.Input.ExecutorInput.shows self.context.input)) c.run_from.ensures.turns)
