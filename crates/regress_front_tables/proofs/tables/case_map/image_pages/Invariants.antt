use Rattle.std.proofs.Common.{◌≡◌, ◌≤◌, vec_len}
use Rattle.regress_front_tables.specs.CaseMaps.{listed_image}
use Rattle.regress_front_tables.specs.Pages.{number_at}
use Rattle.regress_front_tables.proofs.PagesLemmas.{IsFilled}
use Rattle.regress_front_tables.proofs.tables.case_map.image_pages.Given as goal

abbrev pub invariant-loop-n : goal.invariant-loop-n
invariant-loop-n l =
    (vec_len l.images.root ≡ l.n) × (vec_len l.images.pages ≤ l.n) × (l.n ≤ 4352) × IsFilled (λ c. 0) (listed_image l.pairs) l.n (number_at l.images)
