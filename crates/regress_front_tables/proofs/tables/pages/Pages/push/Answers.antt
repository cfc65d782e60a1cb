use Rattle.std.proofs.Common.{[], ◌∷◌, sym, ◌∙◌}
use Rattle.std.proofs.lemmas.List.{map-append, length-map}
use Rattle.regress_front_tables.specs.Pages.{numbers_of}
use Rattle.regress_front_tables.proofs.PagesLemmas.{number_in-unpaged, number_in-paged}
use Rattle.regress_front_tables.proofs.tables.pages.Pages.push.Goals.{in-Some+in_ok-push, in_default}
use Rattle.regress_front_tables.proofs.tables.pages.Pages.push.Goals as goal

pub returns-clause-numbers : goal.returns-clause-numbers
returns-clause-numbers c d =
    let p = c.args.self.now in
    let len = p.root.ok.0 in
    elim c.match-page.branch [
      | in-Some+in_ok-push w ↦
          let size = p.pages.ok.0 ∙ sym (length-map p.pages.items (λ q. q.numbers.items)) in
          let one_more = map-append (λ q. q.numbers.items) p.pages.items (w.in-Some.page ∷ []) in
          rw (c.in_ok-push-2.ensures.items, w.self-is, w.number-is, w.in_ok-push.ensures.items, w.len-number.ensures, w.in_ok-push.ensures.len, w.in-Some.is, one_more)
          (number_in-paged p.root.items (numbers_of p.pages.items) d w.in-Some.page.numbers.items p.root.len p.pages.len len size p.named)
      | in_default w ↦
          rw (c.in_ok-push-2.ensures.items, w.self-is, w.number-is, w.in_default.is)
          (number_in-unpaged p.root.items (numbers_of p.pages.items) d p.root.len len)
    ]
