use Rattle.std.proofs.Common.{◌∙◌, ◌==◌, rules, not, length, string_bytes, ap}
use Rattle.std.proofs.lemmas.Iterator.{YieldsList-from_slice}
use Rattle.std.proofs.lemmas.Iterator.Search.{any_from_yields_List}
use borrow.Author.Tests.{tests}
use Rattle.regress_replacing.specs.Substitution.{is_some_named}
use Rattle.regress_replacing.proofs.NamedTexts.{some-named}
use Rattle.regress_replacing.proofs.names.is_some_named.Goals as goal

pub returns : goal.returns
returns c =
    let names = c.group_names.result.now in
    any_from_yields_List (λ name. not (length (string_bytes name) == 0)) _ _ _ c.any.ensures.ran (YieldsList-from_slice names cc) (λ x b q k. search (rules, tests))
    ∙ some-named names ∙ ap is_some_named c.group_names.ensures
