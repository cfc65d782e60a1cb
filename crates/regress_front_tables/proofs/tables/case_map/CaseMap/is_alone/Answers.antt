use Rattle.std.proofs.Common.{◌≡◌, List, Option, None, not, ℕ, unwrap_or, sym, ap, subst, ◌∙◌}
use Rattle.regress_meaning.specs.TableParts.{image}
use Rattle.regress_front_tables.specs.Folding.{IsClass}
use Rattle.regress_front_tables.specs.MapViews.{pairs_of}
use Rattle.regress_front_tables.specs.Pages.{number_at, numbers_of}
use Rattle.regress_front_tables.proofs.ListedLemmas.{image-untold}
use Rattle.regress_front_tables.proofs.PagesLemmas.{number_in-page, none_is}
use Rattle.regress_front_tables.proofs.tables.case_map.CaseMap.is_alone.Goals as goal

pub returns-then-is_none : goal.returns-then-is_none
returns-then-is_none c alone d e same_page same_image =
    let map = c.args.self.now in
    let pairs = pairs_of map in
    let pages = map.images in
    let here : number_at pages c.args.c ≡ None = sym c.get.ensures ∙ none_is c.get.result (c.is_none.ensures ∙ ap not c.if-is_none.true) in
    let there : number_at pages d ≡ None = number_in-page pages.root.items (numbers_of pages.pages.items) c.args.c d same_page here in
    let own : image pairs d ≡ d = image-untold pairs d (sym (map.told d) ∙ ap (λ o. unwrap_or o 0) there) in
    let IsClassOf : Option (List ℕ) → Type 0 = λ told. IsClass (image pairs) d told in
    let only = subst IsClassOf (c.is_unpaged.ensures alone d same_page) (map.gathered d) in
    only e (same_image ∙ own)
