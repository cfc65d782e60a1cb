-- Maps of case, as pages keep them.
use Rattle.std.specs.Prelude.{ℕ, zero, suc, ◌+◌, ◌-◌, ◌==◌, List, [], ◌∷◌, unwrap_or, if◌then◌else◌}
use Rattle.regress_meaning.specs.Table.{code_points}
use Rattle.regress_front_tables.specs.declared.tables.pages.Pages.{Pages}
use Rattle.regress_front_tables.specs.Pages.{number_at}

-- the image that the first pair from c gives, counted from 1, and 0 where there is none
unfoldable pub listed_image : List (ℕ × ℕ) → ℕ → ℕ
listed_image [] c = 0
listed_image (pair ∷ pairs) c = if pair.0 == c then pair.1 + 1 else listed_image pairs c

-- The pairs of the n code points from c on, by what is told of each: its image, counted from 1, or 0 where it is in no pair.
unfoldable pub pairs_told : (ℕ → ℕ) → ℕ → ℕ → List (ℕ × ℕ)
pairs_told told c zero = []
pairs_told told c (suc n) = if told c == 0 then pairs_told told (suc c) n else (c, told c - 1) ∷ pairs_told told (suc c) n

-- what pages tell of a code point
abbrev pub told_at : Pages → ℕ → ℕ
told_at images c = unwrap_or (number_at images c) 0

-- the pairs that pages stand for
unfoldable pub pairs_in : Pages → List (ℕ × ℕ)
pairs_in images = pairs_told (told_at images) 0 code_points
