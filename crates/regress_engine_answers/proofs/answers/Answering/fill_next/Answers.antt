use Rattle.std.proofs.Common.{◌≡◌, true, false, sym, ◌∙◌}
use Rattle.std.proofs.lemmas.Bool.{eq-eqb}
use Rattle.regress_engine_input.specs.Views.{direction_of}
use Rattle.regress_engine_search.proofs.NextPlaces.{next-awaited, no-place, still-awaited}
use Rattle.regress_engine_answers.proofs.answers.Answering.fill_next.Goals as goal

pub fill_offset-requires-clause-apart : goal.fill_offset-requires-clause-apart
fill_offset-requires-clause-apart g c other =
    let v = g.Input.InputIndexer.view c.args.self.now.input in
    let all = g.met.Input.InputIndexer.are_of_kind c.args.self.now.input in
    let dir = direction_of c.args.level.forward in
    no-place v all dir c.args.offset c.args.place.now c.requires.lies c.requires.awaited
    (λ same. let never : true ≡ false = sym (eq-eqb c.args.offset c.args.place.now same) ∙ other in absurd (cc never))

pub returns-then-is_place-clause-awaited : goal.returns-then-is_place-clause-awaited
returns-then-is_place-clause-awaited g c q inside behind =
    let v = g.Input.InputIndexer.view c.args.self.now.input in
    let all = g.met.Input.InputIndexer.are_of_kind c.args.self.now.input in
    let dir = direction_of c.args.level.forward in
    next-awaited v all dir c.args.offset c.args.place.now c.requires.lies c.requires.awaited c.if-is_place.true c.next_place.result c.next_place.ensures q inside behind

pub returns-else-is_place-clause-awaited : goal.returns-else-is_place-clause-awaited
returns-else-is_place-clause-awaited g c q inside behind =
    let v = g.Input.InputIndexer.view c.args.self.now.input in
    let all = g.met.Input.InputIndexer.are_of_kind c.args.self.now.input in
    let dir = direction_of c.args.level.forward in
    still-awaited v all dir c.args.offset c.args.place.now c.requires.lies c.requires.awaited
    c.if-is_place.false q behind
