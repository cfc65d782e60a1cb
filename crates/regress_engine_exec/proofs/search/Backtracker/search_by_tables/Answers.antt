use Rattle.std.proofs.Common.{None, subst}
use Rattle.regress_engine_code.specs.Standing.{program_of}
use Rattle.regress_engine_exec.specs.Turned.{TurnsTo}
use Rattle.regress_engine_exec.proofs.TurnLemmas.{own-anyway, owns-again}
use Rattle.regress_engine_exec.proofs.search.Backtracker.search_by_tables.Goals as goal

pub first_from-requires-clause-tables : goal.first_from-requires-clause-tables
first_from-requires-clause-tables g c =
    let self = c.args.self.now in
    let program = program_of self.context.program.now in
    let v = g.Input.InputIndexer.view self.context.input in
    let kept = subst (λ x. ∥ TurnsTo program x self.turning self.tables ∥₁) (g.met.Input.ExecutorInput.shows self.context.input) self.turns in
    own-anyway program v self.turning self.tables kept _ c.in-Some.is

pub invariant_of-self-2-clause-turns : goal.invariant_of-self-2-clause-turns
invariant_of-self-2-clause-turns g c =
    let self = c.args.self.now in
    owns-again (program_of self.context.program.now) (g.Input.Shown.shown self.context.input) self.turning self.tables self.turns None tt
