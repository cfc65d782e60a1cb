use Rattle.std.proofs.Common.{false, subst, sym}
use Rattle.regress_engine_code.specs.Standing.{program_of}
use Rattle.regress_engine_input.specs.Views.{input_of}
use Rattle.regress_engine_search.specs.Tasks.{Leads}
use Rattle.regress_engine_search.proofs.TaskLemmas.{leads-then}
use Rattle.regress_engine_undo.specs.Held.{held, pushed}
use Rattle.regress_engine_undo.specs.Tasks.{task}
use Rattle.regress_engine_runs.specs.UndoStack.{give_back}
use Rattle.regress_engine_undo.proofs.BackLemmas.{held-give_back}
use Rattle.regress_engine_attempt.proofs.attempt.Attempt.give_back_known.Goals as goal

pub learn_behind-requires-clause-sound : goal.learn_behind-requires-clause-sound
learn_behind-requires-clause-sound g c = (held-give_back _ _ (held c.args.memory.now) c.args.at c.args.near c.args.far c.requires.sound).1

pub learn_behind-requires-clause-place : goal.learn_behind-requires-clause-place
learn_behind-requires-clause-place g c = (held-give_back _ _ (held c.args.memory.now) c.args.at c.args.near c.args.far c.requires.sound).0

pub returns-in_ok-record_exit-clause-leads : goal.returns-in_ok-record_exit-clause-leads
returns-in_ok-record_exit-clause-leads g c =
    let program = program_of c.args.self.now.program.now in
    let input = input_of (g.Input.InputIndexer.view c.args.self.now.input) in
    let from = task program input false c.args.spot.now (pushed (give_back c.args.at c.args.near c.args.far) (held c.args.memory.now)) in
    subst (λ b. Leads program input 0 from (task program input b c.give_back.new.spot (held c.record_exit.new.memory))) (sym c.if-going.true)
    (leads-then program input 0 0
    (subst (λ b. Leads program input 0 from (task program input b c.give_back.new.spot (held c.give_back.new.memory))) c.if-going.true c.in_ok-going.ensures.leads)
    c.in_ok-record_exit.ensures.leads)
