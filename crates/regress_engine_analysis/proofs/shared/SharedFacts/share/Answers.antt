use Rattle.std.specs.Prelude.{get_or}
use Rattle.std.proofs.Common.{◌<◌, length, arith}
use Rattle.std.proofs.lemmas.List.{length-map}
use Rattle.regress_engine_analysis.specs.Shared.{no_facts}
use Rattle.regress_engine_analysis.proofs.SharedLemmas.{placed-share}
use Rattle.regress_engine_analysis.proofs.shared.SharedFacts.share.Goals as goal

pub returns : goal.returns
returns c =
    let self = c.args.self.now in
    let size = length-map self.places.items (λ k. get_or self.facts.items k no_facts) in
    let within = c.requires.other in
    let inside : c.args.other < length self.places.items = omega (arith, size, within) in
    placed-share self.facts.items self.places.items c.args.at c.args.other c.index.result.now inside c.index.ensures
