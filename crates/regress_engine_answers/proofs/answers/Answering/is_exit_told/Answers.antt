use Rattle.std.proofs.Common.{◌≡◌, ◌+◌, true, false, sym, ◌∙◌}
use Rattle.regress_engine_code.specs.Standing.{program_of}
use Rattle.regress_engine_input.specs.Views.{direction_of, input_of}
use Rattle.regress_engine_insn.specs.InsnViews.{instruction}
use Rattle.regress_engine_answers.specs.AnswerTables.{told_by}
use Rattle.regress_engine_ways.proofs.ExitAnswers.{one-all, one-goes, one-stops, one-told}
use Rattle.regress_engine_answers.proofs.answers.Answering.is_exit_told.Goals as goal

pub returns-then-are_told : goal.returns-then-are_told
returns-then-are_told g c =
    let told = told_by c.args.answers.now in
    let behind = c.loop-left.behind in
    let has : told (c.args.at + 2) behind ≡ true = sym c.are_told.ensures ∙ c.if-are_told.true in
    one-told told (c.args.at + 2) (program_of c.args.self.now.program.now) (input_of (g.Input.InputIndexer.view c.args.self.now.input)) (instruction c.args.body.now) (direction_of c.args.forward)
    c.loop-left.left behind has ∙ c.loop-left.invariant.rest

pub returns-in_default : goal.returns-in_default
returns-in_default g c =
    let told = told_by c.args.answers.now in
    let behind = c.loop-left.behind in
    let has : told (c.args.at + 2) behind ≡ false = sym c.are_told.ensures ∙ c.if-are_told.false in
    one-stops told (c.args.at + 2) (program_of c.args.self.now.program.now) (input_of (g.Input.InputIndexer.view c.args.self.now.input)) (instruction c.args.body.now) (direction_of c.args.forward)
    c.loop-left.left behind has c.in_default.ensures.next ∙ c.loop-left.invariant.rest

pub loop-left-preserved : goal.loop-left-preserved
loop-left-preserved g c =
    let told = told_by c.args.answers.now in
    let behind = c.loop-left.behind in
    let has : told (c.args.at + 2) behind ≡ false = sym c.are_told.ensures ∙ c.if-are_told.false in
    record {
      rest = one-goes told (c.args.at + 2) (program_of c.args.self.now.program.now) (input_of (g.Input.InputIndexer.view c.args.self.now.input)) (instruction c.args.body.now) (direction_of c.args.forward)
          c.loop-left.left behind c.in-Some.next c.loop-left-test.true has c.in-Some.ensures.next ∙ c.loop-left.invariant.rest;
      place = c.in-Some.ensures.place;
    }

pub returns : goal.returns
returns g c =
    let told = told_by c.args.answers.now in
    let behind = c.loop-left.behind in
    c.are_told-2.ensures
    ∙ one-all told (c.args.at + 2) (program_of c.args.self.now.program.now) (input_of (g.Input.InputIndexer.view c.args.self.now.input)) (instruction c.args.body.now) (direction_of c.args.forward)
    c.loop-left.left behind c.loop-left-test.false
    ∙ c.loop-left.invariant.rest
