use Rattle.std.specs.Prelude.{map}
use Rattle.std.proofs.Common.{suc, ◌∙◌}
use Rattle.regress_engine_code.specs.Standing.{program_of}
use Rattle.regress_engine_input.specs.Views.{direction_of, input_of}
use Rattle.regress_engine_insn.specs.InsnViews.{instruction}
use Rattle.regress_engine_search.specs.StateViews.{marks_of}
use Rattle.regress_engine_memory.proofs.Taking.{taking-unreferring}
use Rattle.regress_engine_ways.proofs.ExitAnswers.{after-free, body-before, body-here}
use Rattle.regress_engine_answers.proofs.answers.Answering.after.Goals as goal

pub after_times-requires-clause-body : goal.after_times-requires-clause-body
after_times-requires-clause-body g c =
    let program = program_of c.args.self.now.program.now in
    let v = g.Input.InputIndexer.view c.args.self.now.input in
    let all = g.met.Input.InputIndexer.are_of_kind c.args.self.now.input in
    let dir = direction_of c.args.forward in
    let i = instruction c.args.body.now in
    let (at, repeated) = c.requires.repeated in (
      suc (suc at),
      body-before v all program c.requires.suits dir at i repeated,
      body-here v all program c.requires.suits dir at i repeated c.args.offset c.requires.place,
    )

pub returns-clause-after : goal.returns-clause-after
returns-clause-after g c =
    let program = program_of c.args.self.now.program.now in
    let v = g.Input.InputIndexer.view c.args.self.now.input in
    let i = instruction c.args.body.now in
    let (at, repeated) = c.requires.repeated in
    c.after_times.ensures.behind
    ∙ after-free program (input_of v) i (direction_of c.args.forward) (map marks_of c.args.self.now.groups.now) (taking-unreferring i repeated.1) c.args.times c.args.offset
