use Rattle.std.proofs.Common.{◌≡◌, ◌≤◌, vec_len}
use Rattle.regress_front_tables.specs.Folding.{place_in}
use Rattle.regress_front_tables.specs.Pages.{number_at}
use Rattle.regress_front_tables.proofs.PagesLemmas.{IsFilled}
use Rattle.regress_front_tables.proofs.tables.classes.number_pages.Given as goal

abbrev pub invariant-loop-n : goal.invariant-loop-n
invariant-loop-n l =
    (vec_len l.numbers.root ≡ l.n) × (vec_len l.numbers.pages ≤ l.n) × (l.n ≤ 4352) × IsFilled (λ c. 0) (place_in l.images) l.n (number_at l.numbers)
