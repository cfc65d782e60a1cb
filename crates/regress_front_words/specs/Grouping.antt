-- Words in groups, each of one character.
use Rattle.std.specs.Prelude.{◌≡◌, ◌≢◌, ℕ, zero, suc, List, [], ◌∷◌, ◌++◌, slice_get, slice_index_or, slice_set, Option, Some, All}
use Rattle.std.specs.List.{flat_map}
use Rattle.regress_front_rules.specs.Words.{AreFoundAlike}
use Rattle.regress_front_words.specs.declared.grouping.Group.{Group}
use Rattle.regress_front_words.specs.Sharing.{spelled, size_apart, bulk_apart}

-- the words of all groups
abbrev pub joined : List Group → List (List ℕ)
joined gs = flat_map (λ g. spelled g.words.items) gs

-- each word has at this place the character of its group
abbrev pub AreGrouped : ℕ → List Group → Type 0
AreGrouped place gs = All (λ g. All (λ w. slice_get w place ≡ g.letter) (spelled g.words.items)) gs

-- the group is of another character
abbrev pub IsOfOther : ℕ → Group → Type 0
IsOfOther c g = (d : ℕ) × (g.letter ≡ Some d) × (d ≢ c)

-- the group at this place is of the character, and those behind it are of others
abbrev pub IsLast : ℕ → ℕ → List Group → Type 0
IsLast c k [] = ⊥
IsLast c zero (g ∷ gs) = (g.letter ≡ Some c) × All (IsOfOther c) gs
IsLast c (suc k) (g ∷ gs) = IsLast c k gs

-- the same, where there is a character
abbrev pub IsPlaceOf : Option ℕ → ℕ → List Group → Type 0
IsPlaceOf letter k gs = (c : ℕ) × (letter ≡ Some c) × IsLast c k gs

-- the second group has one word more
abbrev pub HasMore : List ℕ → Group → Group → Type 0
HasMore w g m = (m.letter ≡ g.letter) × (spelled m.words.items ≡ spelled g.words.items ++ w ∷ [])

-- the group at this place has one word more, and the others are as they were
abbrev pub HasMoreAt : ℕ → List ℕ → List Group → List Group → Type 0
HasMoreAt k w gs hs = (g : Group) × (m : Group) × (g ≡ slice_index_or gs k g) × (hs ≡ slice_set gs k m) × HasMore w g m

-- two words go on with different characters at a place
abbrev pub AreApart : ℕ → List ℕ → List ℕ → Type 0
AreApart place v w = (c : ℕ) × (d : ℕ) × (slice_get v place ≡ Some c) × (slice_get w place ≡ Some d) × (c ≢ d)

-- one word more stands in the list, and those behind it go on with other characters
abbrev pub IsAdded : ℕ → List ℕ → List (List ℕ) → List (List ℕ) → Type 0
IsAdded place w old more = (xs : List (List ℕ)) × (ys : List (List ℕ)) × (old ≡ xs ++ ys) × (more ≡ xs ++ w ∷ ys) × All (λ v. AreApart place v w) ys

-- The words of two lists are found alike, and apart they are as large and as heavy.
pub record IsRearranged (xs ys : List (List ℕ)) : Type 0 where
  pub found : AreFoundAlike xs ys
  pub small : size_apart xs ≡ size_apart ys
  pub light : bulk_apart xs ≡ bulk_apart ys
