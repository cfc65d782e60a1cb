use Rattle.std.proofs.Common.{◌≡◌, true, subst}
use Rattle.std.proofs.lemmas.List.{map-id}
use Rattle.regress_engine_scanning.specs.Least.{IsLeast}
use Rattle.regress_engine_scanning.specs.BytePairs.{begins_pair}
use Rattle.regress_engine_scanning.proofs.byte_pair.BytePair.find_units.Goals as goal

pub returns : goal.returns
returns c =
    subst (λ units. IsLeast (λ k. begins_pair c.args.self.now units k ≡ true) c.args.offset c.find_among.result) (map-id c.args.units.now) c.find_among.ensures.least
