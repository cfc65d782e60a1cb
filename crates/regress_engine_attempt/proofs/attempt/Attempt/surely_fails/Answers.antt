use Rattle.std.proofs.Common.{sym, ◌∙◌}
use Rattle.std.proofs.lemmas.Bool.{ltb-true}
use Rattle.regress_engine_code.specs.Standing.{program_of}
use Rattle.regress_engine_undo.specs.Held.{held}
use Rattle.regress_engine_memory.specs.TableViews.{needs_of}
use Rattle.regress_engine_memory.proofs.Needing.{short-dropped}
use Rattle.regress_engine_attempt.proofs.attempt.Attempt.surely_fails.Goals as goal

pub returns-then-is_short-clause-leads : goal.returns-then-is_short-clause-leads
returns-then-is_short-clause-leads g c =
    let program = program_of c.args.self.now.program.now in
    let v = g.Input.InputIndexer.view c.args.self.now.input in
    let (n, r, tries) = c.requires.tried in
    short-dropped (needs_of c.args.failures.now.table) v (g.met.Input.InputIndexer.are_of_kind c.args.self.now.input) program c.requires.suits c.requires.so.needed
    c.args.spot.now (held c.args.memory.now) (ltb-true _ _ (sym c.is_short.ensures ∙ c.if-is_short.true)) n r tries
