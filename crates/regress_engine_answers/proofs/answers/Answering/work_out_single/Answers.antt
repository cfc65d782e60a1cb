use Rattle.std.proofs.Common.{ap, ◌∙◌}
use Rattle.regress_engine_code.specs.Standing.{program_of}
use Rattle.regress_engine_input.specs.Views.{direction_of}
use Rattle.regress_engine_insn.specs.InsnViews.{instruction}
use Rattle.regress_engine_linear.specs.Answered.{exits_at}
use Rattle.regress_engine_answers.specs.AnswerTables.{exits_by, told_by}
use Rattle.regress_engine_ways.proofs.ExitAnswers.{exits-here}
use Rattle.regress_engine_answers.proofs.answers.Answering.work_out_single.Goals as goal

pub has_single-has-requires-clause-here : goal.has_single-has-requires-clause-here
has_single-has-requires-clause-here g c =
    let old = c.args.answers.now in
    c.have_exits-beyond.ensures
    ∙ ap (exits_at (told_by old) (exits_by old c.args.at) c.args.at) c.next-next.ensures.next
    ∙ exits-here (g.Input.InputIndexer.view c.args.self.now.input) (g.met.Input.InputIndexer.are_of_kind c.args.self.now.input) (program_of c.args.self.now.program.now) c.requires.suits
    (direction_of c.args.forward) c.args.at (instruction c.args.body.now) c.requires.repeated (told_by old) (exits_by old) c.args.offset c.requires.place c.requires.exits
