-- The numbers of code points, in pages of 256.
use Rattle.std.specs.Prelude.{ℕ, ◌-◌, ◌/◌, ◌%◌, ◌==◌, List, [], Option, Some, None, map, slice_index_or, if◌then◌else◌}
use Rattle.regress_front_tables.specs.declared.tables.pages.Page.{Page}
use Rattle.regress_front_tables.specs.declared.tables.pages.Pages.{Pages}

-- the numbers of each page
abbrev pub numbers_of : List Page → List (List ℕ)
numbers_of = map (λ p. p.numbers.items)

-- the number of c in the page that the root names, counted from 1, if it names one
unfoldable pub number_in : List ℕ → List (List ℕ) → ℕ → Option ℕ
number_in root pages c = if slice_index_or root (c / 256) 0 == 0 then None
    else Some (slice_index_or (slice_index_or pages (slice_index_or root (c / 256) 0 - 1) []) (c % 256) 0)

-- the number of c, if it has a page
abbrev pub number_at : Pages → ℕ → Option ℕ
number_at p = number_in p.root.items (numbers_of p.pages.items)
