use Rattle.std.proofs.Common.{◌≡◌, ◌-◌, ◌/◌, ◌%◌, ◌<◌, [], length, get_or, Some, sym, ap, ◌∙◌, arith}
use Rattle.std.proofs.lemmas.Grind.{get_or_default_zero}
use Rattle.std.proofs.lemmas.List.{get_or_past, get_or-map}
use Rattle.regress_front_tables.specs.Pages.{numbers_of}
use Rattle.regress_front_tables.proofs.PagesLemmas.{number_in-none, number_in-some}
use Rattle.regress_front_tables.proofs.tables.pages.Pages.get.Goals as goal

pub returns-in-Some : goal.returns-in-Some
returns-in-Some c =
    let p = c.args.self.now in
    let k = c.in-Some.page.now in
    let told = rw c.deref.ensures.value at c.in-Some.ensures.lookup.3 in
    let named = p.named (c.args.c / 256) 0 told.0 in
    let at : get_or p.root.items (c.args.c / 256) 0 ≡ k = sym (told.1 0) in
    let within : k - 1 < length p.pages.items = omega (arith, named, at, c.if-page-gt0.true, p.pages.ok.0) in
    let page = c.index.result.now in
    let there : get_or (numbers_of p.pages.items) (k - 1) [] ≡ page.numbers.items =
    get_or-map (λ q. q.numbers.items) p.pages.items (k - 1) page [] within ∙ ap (λ q. q.numbers.items) (sym c.index.ensures) in
    let number = get_or_default_zero page.numbers.items (c.args.c % 256) c.index-in-Some.result.now (omega (arith, page.full, page.numbers.ok.0)) in
    sym (number_in-some p.root.items (numbers_of p.pages.items) c.args.c k at c.if-page-gt0.true
    ∙ ap Some (ap (λ q. get_or q (c.args.c % 256) 0) there ∙ sym (c.index-in-Some.ensures ∙ number)))

pub returns-in_default : goal.returns-in_default
returns-in_default c =
    let p = c.args.self.now in
    let at = rw c.deref.ensures.value at c.in-Some.ensures.lookup.3.1 0 in
    sym (number_in-none p.root.items (numbers_of p.pages.items) c.args.c (omega (arith, at, c.if-page-gt0.false)))

pub returns-in_default-2 : goal.returns-in_default-2
returns-in_default-2 c =
    let p = c.args.self.now in
    let told = rw c.in_default.is at c.get.ensures.lookup.3 in
    sym (number_in-none p.root.items (numbers_of p.pages.items) c.args.c
    (get_or_past p.root.items (c.args.c / 256) 0 (rw c.deref.ensures.value at told)))
