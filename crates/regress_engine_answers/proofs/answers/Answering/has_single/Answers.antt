use Rattle.std.proofs.Common.{◌≤◌, ◌-◌, length, arith, ◌∙◌}
use Rattle.regress_engine_code.specs.Standing.{program_of}
use Rattle.regress_engine_input.specs.Views.{direction_of}
use Rattle.regress_engine_insn.specs.InsnViews.{instruction}
use Rattle.regress_engine_answers.specs.AnswerTables.{exits_by, told_by}
use Rattle.regress_engine_ways.proofs.ExitAnswers.{single-all, single-some}
use Rattle.regress_engine_answers.proofs.answers.Answering.has_single.Goals as goal

pub returns-then-left-text_len : goal.returns-then-left-text_len
returns-then-left-text_len g c greedy =
    c.is_exit_told.ensures
    ∙ single-some (g.Input.InputIndexer.view c.args.self.now.input) (g.met.Input.InputIndexer.are_of_kind c.args.self.now.input) (program_of c.args.self.now.program.now) c.requires.suits
    (direction_of c.args.forward) c.args.at (instruction c.args.body.now) c.requires.repeated (told_by c.args.answers.now) c.args.least c.args.most greedy c.args.offset c.requires.place
    c.in-Some.near c.in-Some.ensures.after

pub returns : goal.returns
returns g c greedy =
    let v = g.Input.InputIndexer.view c.args.self.now.input in
    let long = c.if-left-text_len.false in
    let size = c.text_len.ensures in
    let enough : length v.units ≤ c.args.most - c.args.least = omega (arith, long, size) in
    c.have_exits_from.ensures
    ∙ single-all v (g.met.Input.InputIndexer.are_of_kind c.args.self.now.input) (program_of c.args.self.now.program.now) c.requires.suits
    (direction_of c.args.forward) c.args.at (instruction c.args.body.now) c.requires.repeated (told_by c.args.answers.now) c.args.least c.args.most greedy c.args.offset c.requires.place
    (exits_by c.args.answers.now) c.requires.exits c.args.beyond c.requires.here enough c.in-Some.near c.in-Some.ensures.after
