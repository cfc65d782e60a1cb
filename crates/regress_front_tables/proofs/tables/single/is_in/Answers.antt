use Rattle.std.proofs.Common.{◌∙◌, rules}
use Rattle.std.proofs.lemmas.Iterator.{YieldsList-from_slice}
use Rattle.std.proofs.lemmas.Iterator.Search.{any_from_yields_List}
use borrow.Author.Tests.{tests}
use Rattle.regress_front_sets.specs.Intervals.{in_interval}
use Rattle.regress_front_tables.proofs.SurrogateLemmas.{in_intervals-any}
use Rattle.regress_front_tables.proofs.tables.single.is_in.Goals as goal

pub returns : goal.returns
returns c =
    let intervals = c.args.intervals.now in
    any_from_yields_List (λ i. in_interval i c.args.c) _ _ _ c.any.ensures.ran (YieldsList-from_slice intervals cc) (λ x b q k. search (rules, tests))
    ∙ in_intervals-any intervals c.args.c
