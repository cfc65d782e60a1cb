use Rattle.std.specs.Prelude.{IfSome}
use Rattle.std.proofs.Common.{subst, sym}
use Rattle.regress_engine_code.specs.Standing.{program_of}
use Rattle.regress_engine_exec.specs.Turned.{GoesOnBy}
use Rattle.regress_engine_exec.proofs.TurnLemmas.{own-made, owns-again}
use Rattle.regress_engine_exec.proofs.search.Backtracker.make_tables.Goals as goal

pub invariant_of-self-clause-turns : goal.invariant_of-self-clause-turns
invariant_of-self-clause-turns g c =
    let self = c.args.self.now in
    let program = program_of self.context.program.now in
    let shown = g.Input.Shown.shown self.context.input in
    let made = c.unwrap_or.result in
    let own = own-made (GoesOnBy program (g.Input.InputIndexer.view self.context.input)) c.of.result made c.unwrap_or.ensures c.of.ensures in
    owns-again program shown self.turning self.tables self.turns made
    (subst (λ x. IfSome made (GoesOnBy program x)) (sym (g.met.Input.ExecutorInput.shows self.context.input)) own)
