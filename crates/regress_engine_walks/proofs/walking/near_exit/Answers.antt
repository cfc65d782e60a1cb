use Rattle.std.proofs.Common.{inl, inr, map, sym, ◌∙◌}
use Rattle.std.proofs.lemmas.List.{length-map}
use Rattle.regress_engine_code.specs.Standing.{program_of}
use Rattle.regress_engine_input.specs.Views.{direction_of, input_of}
use Rattle.regress_engine_insn.specs.InsnViews.{instruction}
use Rattle.regress_engine_search.specs.StateViews.{marks_of}
use Rattle.regress_engine_search.proofs.ReadyLemmas.{body-asked, body-at, body-next}
use Rattle.regress_engine_answers.specs.AnswerTables.{told_by}
use Rattle.regress_engine_ways.proofs.ExitWays.{near-here, near-last, near-on}
use Rattle.regress_engine_walks.proofs.walking.near_exit.Goals as goal

pub advance-requires-clause-ready : goal.advance-requires-clause-ready
advance-requires-clause-ready g c =
    let program = program_of c.args.answering.now.program.now in
    let v = g.Input.InputIndexer.view c.args.answering.now.input in
    body-asked v (g.met.Input.InputIndexer.are_of_kind c.args.answering.now.input) program c.requires.suits c.args.at c.places.behind (instruction c.args.body.now)
    (map marks_of c.args.answering.now.groups.now) (body-at program v c.args.at c.args.near c.places.behind c.requires.body c.places.invariant.place) c.requires.stands
    (length-map c.args.answering.now.groups.now marks_of ∙ c.requires.groups)

pub returns-then-are_told : goal.returns-then-are_told
returns-then-are_told g c =
    let program = program_of c.args.answering.now.program.now in
    let v = g.Input.InputIndexer.view c.args.answering.now.input in
    let input = input_of v in
    let i = instruction c.args.body.now in
    let gs = map marks_of c.args.answering.now.groups.now in
    let told = told_by c.args.answers.now in
    sym (near-here program input i (direction_of c.args.forward) gs told c.args.at c.places.rest c.places.behind (sym c.are_told.ensures ∙ c.if-are_told.true)) ∙ c.places.invariant.same

pub returns-then-rest-eq0 : goal.returns-then-rest-eq0
returns-then-rest-eq0 g c =
    let program = program_of c.args.answering.now.program.now in
    let v = g.Input.InputIndexer.view c.args.answering.now.input in
    let input = input_of v in
    let i = instruction c.args.body.now in
    let gs = map marks_of c.args.answering.now.groups.now in
    let told = told_by c.args.answers.now in
    sym (near-last program input i (direction_of c.args.forward) gs told c.args.at c.places.rest c.places.behind (sym c.are_told.ensures ∙ c.if-are_told.false) (inl c.if-rest-eq0.true)) ∙ c.places.invariant.same

pub returns-in_default : goal.returns-in_default
returns-in_default g c =
    let program = program_of c.args.answering.now.program.now in
    let v = g.Input.InputIndexer.view c.args.answering.now.input in
    let input = input_of v in
    let i = instruction c.args.body.now in
    let gs = map marks_of c.args.answering.now.groups.now in
    let told = told_by c.args.answers.now in
    sym (near-last program input i (direction_of c.args.forward) gs told c.args.at c.places.rest c.places.behind (sym c.are_told.ensures ∙ c.if-are_told.false) (inr (sym c.in_default.ensures)))
    ∙ c.places.invariant.same

pub places-preserved : goal.places-preserved
places-preserved g c =
    let program = program_of c.args.answering.now.program.now in
    let v = g.Input.InputIndexer.view c.args.answering.now.input in
    let input = input_of v in
    let i = instruction c.args.body.now in
    let gs = map marks_of c.args.answering.now.groups.now in
    let told = told_by c.args.answers.now in
    record {
      same = sym (near-on program input i (direction_of c.args.forward) gs told c.args.at c.places.rest c.places.behind c.in-Some.next (sym c.are_told.ensures ∙ c.if-are_told.false) c.if-rest-eq0.false
          (sym c.in-Some.ensures)) ∙ c.places.invariant.same;
      place = (body-next v (g.met.Input.InputIndexer.are_of_kind c.args.answering.now.input) program c.requires.suits c.args.at c.places.behind c.in-Some.next i (direction_of c.args.forward) gs
          (body-at program v c.args.at c.args.near c.places.behind c.requires.body c.places.invariant.place) c.requires.stands (sym c.in-Some.ensures)).3;
    }
