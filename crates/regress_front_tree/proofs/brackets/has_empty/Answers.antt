use Rattle.std.proofs.Common.{◌∙◌, ◌==◌, rules, vec_len}
use Rattle.std.proofs.lemmas.Iterator.{YieldsList-from_slice}
use Rattle.std.proofs.lemmas.Iterator.Search.{any_from_yields_List}
use borrow.Author.Tests.{tests}
use Rattle.regress_front_tree.proofs.BracketLemmas.{among-empty}
use Rattle.regress_front_tree.proofs.brackets.has_empty.Goals as goal

pub returns : goal.returns
returns c =
    let strings = c.args.strings.now in
    any_from_yields_List (λ t. vec_len t == 0) _ _ _ c.any.ensures.ran (YieldsList-from_slice strings cc) (λ x b q k. search (rules, tests))
    ∙ among-empty strings
