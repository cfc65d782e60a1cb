use Rattle.std.proofs.Common.{rules}
use Rattle.std.specs.Box.{boxed_slice_items}
use Rattle.std.proofs.lemmas.Iterator.{YieldsList-from_map_by}
use Rattle.std.proofs.lemmas.Iterator.Adapters.{YieldsList-from_vec}
use Rattle.std.proofs.lemmas.Iterator.Consumers.{YieldsList-at, map_from_collect}
use Rattle.regress_front_tree.proofs.brackets.boxed.Goals as goal

pub returns : goal.returns
returns c = map_from_collect _ c.collect.ensures.ran
    (YieldsList-from_map_by _ boxed_slice_items (λ s. s.items) (YieldsList-at c.map.ensures.source (YieldsList-from_vec c.args.strings.items (cc) (cc))) c.map.ensures.closure (λ x r q k. search rules))
