use Rattle.std.proofs.Common.{◌+◌, refl, rules}
use Rattle.std.proofs.lemmas.Iterator.{YieldsList-from_range, YieldsList-from_map, items_from_collect}
use Rattle.std.proofs.lemmas.Iterator.Consumers.{YieldsList-at}
use Rattle.regress_front_tables.proofs.tables.parts.letters.Goals as goal

pub returns : goal.returns
returns c = items_from_collect _ c.collect.ensures.ran
    (YieldsList-from_map _ (λ k. (c.args.first + k, c.args.image + k)) (YieldsList-at c.map.ensures.source (YieldsList-from_range 0 26 26 refl refl)) c.map.ensures.closure (λ x r q k. search rules))
