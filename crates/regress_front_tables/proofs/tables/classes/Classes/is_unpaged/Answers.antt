use Rattle.std.proofs.Common.{◌≡◌, None, not, unwrap_or, sym, ap, ◌∙◌}
use Rattle.regress_front_tables.specs.Classes.{members_of}
use Rattle.regress_front_tables.specs.Pages.{number_at, numbers_of}
use Rattle.regress_front_tables.proofs.PagesLemmas.{number_in-page, none_is}
use Rattle.regress_front_tables.proofs.SharedLemmas.{list_numbered-none}
use Rattle.regress_front_tables.proofs.tables.classes.Classes.is_unpaged.Goals as goal

pub returns : goal.returns
returns c none d e =
    let classes = c.args.self.now in
    let pages = classes.numbers in
    let here : number_at pages c.args.c ≡ None = sym c.get.ensures ∙ none_is c.get.result (c.is_none.ensures ∙ ap not none) in
    let there = number_in-page pages.root.items (numbers_of pages.pages.items) c.args.c d e here in
    list_numbered-none (members_of classes.lists.items) (unwrap_or (number_at pages d) 0) (ap (λ o. unwrap_or o 0) there)
