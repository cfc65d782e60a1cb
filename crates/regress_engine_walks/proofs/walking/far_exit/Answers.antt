use Rattle.std.proofs.Common.{◌≡◌, ◌-◌, Bool, true, inl, inr, map, Some, if◌then◌else◌, sym, ap, ◌∙◌}
use Rattle.std.proofs.lemmas.List.{length-map}
use Rattle.regress_engine_code.specs.Standing.{program_of}
use Rattle.regress_engine_input.specs.Views.{direction_of, input_of}
use Rattle.regress_engine_insn.specs.InsnViews.{instruction}
use Rattle.regress_engine_runs.specs.Runs.{one_by_one}
use Rattle.regress_engine_runs.specs.Closed.{takes_character}
use Rattle.regress_engine_runs.proofs.RunViews.{one_stands}
use Rattle.regress_engine_search.specs.StateViews.{marks_of}
use Rattle.regress_engine_search.proofs.ReadyLemmas.{body-asked, body-at, body-next}
use Rattle.regress_engine_answers.specs.AnswerTables.{told_by}
use Rattle.regress_engine_linear.specs.Answered.{last_at}
use Rattle.regress_engine_search.proofs.SkipLemmas.{place-lies}
use Rattle.regress_engine_linear.proofs.WorkLemmas.{room-end}
use Rattle.regress_engine_ways.proofs.ExitWays.{far-last, far-none, far-on}
use Rattle.regress_engine_walks.proofs.walking.far_exit.Goals as goal

pub advance-requires-clause-ready : goal.advance-requires-clause-ready
advance-requires-clause-ready g c =
    let program = program_of c.args.answering.now.program.now in
    let v = g.Input.InputIndexer.view c.args.answering.now.input in
    body-asked v (g.met.Input.InputIndexer.are_of_kind c.args.answering.now.input) program c.requires.suits c.args.at c.places.behind (instruction c.args.body.now)
    (map marks_of c.args.answering.now.groups.now) (body-at program v c.args.at c.args.near c.places.behind c.requires.body c.places.invariant.place) c.requires.stands
    (length-map c.args.answering.now.groups.now marks_of ∙ c.requires.groups)

pub returns-then-rest-eq0 : goal.returns-then-rest-eq0
returns-then-rest-eq0 g c =
    let program = program_of c.args.answering.now.program.now in
    let v = g.Input.InputIndexer.view c.args.answering.now.input in
    let input = input_of v in
    let i = instruction c.args.body.now in
    let gs = map marks_of c.args.answering.now.groups.now in
    let told = told_by c.args.answers.now in
    let found : c.latest-found.result ≡ (if told c.args.at c.places.behind then Some c.places.behind else c.places.found) =
    c.latest-found.ensures ∙ ap (λ (b : Bool). if b then Some c.places.behind else c.places.found) c.are_told-is_told.ensures in
    found ∙ sym (far-last program input i (direction_of c.args.forward) gs told c.args.at c.places.rest c.places.behind c.places.found (inl c.if-rest-eq0.true)) ∙ c.places.invariant.same

pub returns-in_default : goal.returns-in_default
returns-in_default g c =
    let program = program_of c.args.answering.now.program.now in
    let v = g.Input.InputIndexer.view c.args.answering.now.input in
    let input = input_of v in
    let i = instruction c.args.body.now in
    let gs = map marks_of c.args.answering.now.groups.now in
    let told = told_by c.args.answers.now in
    let found : c.latest-found.result ≡ (if told c.args.at c.places.behind then Some c.places.behind else c.places.found) =
    c.latest-found.ensures ∙ ap (λ (b : Bool). if b then Some c.places.behind else c.places.found) c.are_told-is_told.ensures in
    found ∙ sym (far-last program input i (direction_of c.args.forward) gs told c.args.at c.places.rest c.places.behind c.places.found (inr (sym c.in_default.ensures))) ∙ c.places.invariant.same

pub returns-then-not-are_exits_told : goal.returns-then-not-are_exits_told
returns-then-not-are_exits_told g c =
    let program = program_of c.args.answering.now.program.now in
    let v = g.Input.InputIndexer.view c.args.answering.now.input in
    let input = input_of v in
    let i = instruction c.args.body.now in
    let gs = map marks_of c.args.answering.now.groups.now in
    let told = told_by c.args.answers.now in
    let found : c.latest-found.result ≡ (if told c.args.at c.places.behind then Some c.places.behind else c.places.found) =
    c.latest-found.ensures ∙ ap (λ (b : Bool). if b then Some c.places.behind else c.places.found) c.are_told-is_told.ensures in
    let body = c.requires.body in
    let same : body.0 ≡ i = one_stands program input (c.args.at - 1) body.0 i body.1 c.requires.stands in
    let takes : takes_character i ≡ true = ap takes_character (sym same) ∙ body.2 in
    let few = room-end _ (direction_of c.args.forward) c.places.behind (place-lies v (g.met.Input.InputIndexer.are_of_kind c.args.answering.now.input) c.places.behind c.places.invariant.place) in
    let none = sym (c.requires.exits c.places.behind c.places.invariant.place) ∙ sym c.are_exits_told.ensures ∙ c.if-not-are_exits_told.true in
    found ∙ sym (far-none v program i takes (direction_of c.args.forward) gs told c.args.at c.places.rest c.places.behind c.places.found few none) ∙ c.places.invariant.same

pub places-preserved : goal.places-preserved
places-preserved g c =
    let program = program_of c.args.answering.now.program.now in
    let v = g.Input.InputIndexer.view c.args.answering.now.input in
    let input = input_of v in
    let i = instruction c.args.body.now in
    let gs = map marks_of c.args.answering.now.groups.now in
    let told = told_by c.args.answers.now in
    let found : c.latest-found.result ≡ (if told c.args.at c.places.behind then Some c.places.behind else c.places.found) =
    c.latest-found.ensures ∙ ap (λ (b : Bool). if b then Some c.places.behind else c.places.found) c.are_told-is_told.ensures in
    record {
      same = ap (last_at told c.args.at (one_by_one program input (c.places.rest - 1) i (direction_of c.args.forward) gs c.in-Some.next)) found
          ∙ sym (far-on program input i (direction_of c.args.forward) gs told c.args.at c.places.rest c.places.behind c.in-Some.next c.places.found c.if-rest-eq0.false (sym c.in-Some.ensures))
          ∙ c.places.invariant.same;
      place = (body-next v (g.met.Input.InputIndexer.are_of_kind c.args.answering.now.input) program c.requires.suits c.args.at c.places.behind c.in-Some.next i (direction_of c.args.forward) gs
          (body-at program v c.args.at c.args.near c.places.behind c.requires.body c.places.invariant.place) c.requires.stands (sym c.in-Some.ensures)).3;
    }
