use Rattle.std.proofs.Common.{true, sym, subst}
use Rattle.regress_engine_code.specs.Standing.{program_of}
use Rattle.regress_engine_input.specs.Views.{input_of}
use Rattle.regress_engine_search.specs.Tasks.{Leads}
use Rattle.regress_engine_undo.specs.Held.{held}
use Rattle.regress_engine_undo.specs.Sound.{IsHeld}
use Rattle.regress_engine_undo.specs.Tasks.{task}
use Rattle.regress_engine_memory.specs.Held.{FailsHere}
use Rattle.regress_engine_memory.specs.Remembered.{keyed_of}
use Rattle.regress_engine_memory.specs.TableViews.{table_of}
use Rattle.regress_engine_memory.proofs.HeldLemmas.{trying-held, known-here}
use Rattle.regress_engine_trying.proofs.RememberLemmas.{tried-held}
use Rattle.regress_engine_attempt.proofs.attempt.Attempt.is_known.Goals as goal

pub returns-then-is_known_here-clause-leads : goal.returns-then-is_known_here-clause-leads
returns-then-is_known_here-clause-leads g c =
    let program = program_of c.args.self.now.program.now in
    let v = g.Input.InputIndexer.view c.args.self.now.input in
    let keyed = keyed_of (table_of c.args.failures.now.table) in
    known-here program (input_of v) c.args.spot.now (held c.args.memory.now) keyed
    (subst (FailsHere program (input_of v) keyed c.args.spot.now) c.loops.ensures (c.is_known_here.ensures c.if-is_known_here.true program (input_of v) c.requires.so.known)) c.requires.sound.loops

pub returns-clause-leads : goal.returns-clause-leads
returns-clause-leads g c =
    let program = program_of c.args.self.now.program.now in
    let input = input_of (g.Input.InputIndexer.view c.args.self.now.input) in
    subst (λ k. Leads program input 0 (task program input true c.args.spot.now (held c.args.memory.now)) (task program input true c.args.spot.now k)) (sym c.in_ok-push.ensures)
    (trying-held program input c.args.spot.now (held c.args.memory.now))

pub returns-clause-sound : goal.returns-clause-sound
returns-clause-sound g c =
    let program = program_of c.args.self.now.program.now in
    let v = g.Input.InputIndexer.view c.args.self.now.input in
    subst (IsHeld program v) (sym c.in_ok-push.ensures) (tried-held program v (held c.args.memory.now) _ _ c.requires.sound)
