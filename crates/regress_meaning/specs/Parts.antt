-- The parts of a text between items that lie one behind the other. Texts, and the offsets of items, are told in bytes of UTF-8,
-- or both in code points.
use Rattle.std.specs.Prelude.{ℕ, zero, suc, List, [], ◌∷◌, ◌++◌, take, drop, slice_range}
use Rattle.regress_meaning.specs.Matches.{Item}

-- The parts from an offset on: up to each item, and behind the last.
unfoldable pub parts_from : List ℕ → ℕ → List Item → List (List ℕ)
parts_from text at [] = drop at text ∷ []
parts_from text at (i ∷ items) = slice_range text at i.start ∷ parts_from text i.end items

-- the parts of a text: one more than there are items
abbrev pub parts : List ℕ → List Item → List (List ℕ)
parts text items = parts_from text 0 items

-- at most so many parts, the last of them all that is left
abbrev pub first_parts : ℕ → List ℕ → List Item → List (List ℕ)
first_parts zero text items = []
first_parts (suc n) text items = parts text (take n items)

-- parts one behind the other, with the texts between them, one for each gap in order
abbrev pub joined : List (List ℕ) → List (List ℕ) → List ℕ
joined [] between = []
joined (part ∷ more) [] = part ++ joined more []
joined (part ∷ more) (text ∷ between) = part ++ text ++ joined more between
