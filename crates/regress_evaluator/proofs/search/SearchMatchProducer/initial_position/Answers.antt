use Rattle.std.proofs.Common.{vec_len, arith}
use Rattle.regress_evaluator.proofs.SearchLemmas.{starts_at}
use Rattle.regress_evaluator.proofs.search.SearchMatchProducer.initial_position.Goals as goal

pub returns-clause-begins : goal.returns-clause-begins
returns-clause-begins c =
    let text = c.args.self.now.text in
    starts_at text.points.items c.args.self.now.characters c.offsets_rise.ensures.utf8 c.args.offset (vec_len text.points) c.place.result
    (omega (arith, text.points.ok.0)) c.place.ensures.there c.place.ensures.nowhere
