use Rattle.std.specs.Prelude.{map}
use Rattle.std.proofs.Common.{suc, [], ◌∙◌}
use Rattle.std.proofs.lemmas.List.{length-map}
use Rattle.regress_engine_code.specs.Standing.{program_of}
use Rattle.regress_engine_input.specs.Views.{direction_of, input_of}
use Rattle.regress_engine_insn.specs.InsnViews.{instruction}
use Rattle.regress_engine_search.specs.StateViews.{marks_of}
use Rattle.regress_engine_search.proofs.ReadyLemmas.{body-asked}
use Rattle.regress_engine_memory.proofs.Taking.{taking-unreferring}
use Rattle.regress_engine_memory.proofs.Unreferring.{advance-any}
use Rattle.regress_engine_ways.proofs.ExitAnswers.{body-before, body-here, next-there}
use Rattle.regress_engine_answers.proofs.answers.Answering.next.Goals as goal

pub advance-requires-clause-ready : goal.advance-requires-clause-ready
advance-requires-clause-ready g c =
    let program = program_of c.args.self.now.program.now in
    let v = g.Input.InputIndexer.view c.args.self.now.input in
    let all = g.met.Input.InputIndexer.are_of_kind c.args.self.now.input in
    let dir = direction_of c.args.forward in
    let i = instruction c.args.body.now in
    let (at, repeated) = c.requires.repeated in
    body-asked v all program c.requires.suits (suc (suc at)) c.args.offset i (map marks_of c.args.self.now.groups.now)
    (body-here v all program c.requires.suits dir at i repeated c.args.offset c.requires.place) (body-before v all program c.requires.suits dir at i repeated)
    (length-map c.args.self.now.groups.now marks_of ∙ c.requires.groups)

pub returns-clause-next : goal.returns-clause-next
returns-clause-next g c =
    let program = program_of c.args.self.now.program.now in
    let v = g.Input.InputIndexer.view c.args.self.now.input in
    let i = instruction c.args.body.now in
    let (at, repeated) = c.requires.repeated in
    c.advance.ensures ∙ advance-any program (input_of v) i (direction_of c.args.forward) (map marks_of c.args.self.now.groups.now) [] c.args.offset (taking-unreferring i repeated.1)

pub returns-clause-place : goal.returns-clause-place
returns-clause-place g c =
    let program = program_of c.args.self.now.program.now in
    let v = g.Input.InputIndexer.view c.args.self.now.input in
    let all = g.met.Input.InputIndexer.are_of_kind c.args.self.now.input in
    let dir = direction_of c.args.forward in
    let i = instruction c.args.body.now in
    let (at, repeated) = c.requires.repeated in
    next-there v all program c.requires.suits dir at i repeated c.args.offset c.requires.place c.advance.result
    (c.advance.ensures ∙ advance-any program (input_of v) i dir (map marks_of c.args.self.now.groups.now) [] c.args.offset (taking-unreferring i repeated.1))
