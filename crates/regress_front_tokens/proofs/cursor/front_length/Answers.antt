use Rattle.std.proofs.Common.{rules, not, arith}
use Rattle.std.proofs.lemmas.List.Sums.{prefix_len-le-length}
use Rattle.std.proofs.lemmas.Iterator.{YieldsList-from_slice}
use Rattle.std.proofs.lemmas.Iterator.Search.{position_from_yields_List}
use Rattle.regress_front_tokens.proofs.SpanLemmas.{position_or_len-not}
use Rattle.regress_front_tokens.proofs.cursor.front_length.Goals as goal

pub returns-clause-count : goal.returns-clause-count
returns-clause-count g c passes tells =
    let xs = c.args.points.now in
    let found = position_from_yields_List (λ x. not (passes x)) _ _ _ c.position.ensures.ran (YieldsList-from_slice xs cc) (λ x b q k. search (rules, tells)) in
    grind (arith, position_or_len-not passes xs, prefix_len-le-length passes xs, found)
