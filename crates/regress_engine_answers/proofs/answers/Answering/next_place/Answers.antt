use Rattle.std.proofs.Common.{sym, ap, ◌∙◌}
use Rattle.regress_engine_input.specs.Views.{direction_of, input_of}
use Rattle.regress_engine_search.proofs.PlaceLemmas.{can-read}
use Rattle.regress_engine_search.proofs.NextPlaces.{next-is, none-next, turned}
use Rattle.regress_engine_answers.proofs.answers.Answering.next_place.Goals as goal

pub beside-requires : goal.beside-requires
beside-requires g c = can-read (g.Input.InputIndexer.view c.args.self.now.input) (g.met.Input.InputIndexer.are_of_kind c.args.self.now.input) c.args.place c.requires

pub returns-in-Some : goal.returns-in-Some
returns-in-Some g c =
    let v = g.Input.InputIndexer.view c.args.self.now.input in
    next-is v (g.met.Input.InputIndexer.are_of_kind c.args.self.now.input) (direction_of c.args.forward) c.args.place _ c.in-Some.next c.requires
    (ap (λ d. (input_of v).next d c.args.place) (turned c.args.forward) ∙ sym c.in-Some.ensures)

pub returns-in-None : goal.returns-in-None
returns-in-None g c =
    let v = g.Input.InputIndexer.view c.args.self.now.input in
    none-next v (g.met.Input.InputIndexer.are_of_kind c.args.self.now.input) (direction_of c.args.forward) c.args.place c.requires
    (ap (λ d. (input_of v).next d c.args.place) (turned c.args.forward) ∙ sym c.in-None.ensures)
