-- What maps of case gather: the code points with one image, and closures.
use Rattle.std.specs.Prelude.{◌≡◌, ◌==◌, ◌+◌, ℕ, Bool, true, ◌&&◌, ◌⊎◌, nat_le, List, [], ◌∷◌, Option, Some, None, All, if◌then◌else◌}
use Rattle.std.specs.List.Sorted.{IsStrictlyIncreasing}
use denote.Struct.Props as logic
use Rattle.regress_meaning.specs.Text.{holds}
use Rattle.regress_meaning.specs.Table.{last_code_point}
use Rattle.regress_meaning.specs.TableParts.{PairsRise, is_code_point, IsIdempotentAt, HasSmallClass}
use Rattle.regress_front_sets.specs.Props.{PairsRise-prop}

-- from low to high, each once, the code points that pass
pub record Lists (test : ℕ → Bool) (cs : List ℕ) : Type 0 where
  pub rises : IsStrictlyIncreasing cs
  pub members : (c : ℕ) → holds cs c ≡ (nat_le c last_code_point && test c)

-- the pairs are what a lawful table has as a map of case
pub record IsCaseMap (pairs : List (ℕ × ℕ)) : Type 0 where
  pub range : All (λ p. is_code_point p.0 × is_code_point p.1) pairs
  pub order : PairsRise pairs
  pub idempotent : (c : ℕ) → IsIdempotentAt c pairs
  pub class_size : (d : ℕ) → HasSmallClass d pairs

-- The class of an image: the code points that have it, or none is told where nothing but the image itself has it.
abbrev pub IsClass : (ℕ → ℕ) → ℕ → Option (List ℕ) → Type 0
IsClass map_of to None = (c : ℕ) → map_of c ≡ to → c ≡ to
IsClass map_of to (Some members) = Lists (λ c. map_of c == to) members

-- a class is one in one way
pub IsClass-prop : (map_of : ℕ → ℕ) (to : ℕ) (told : Option (List ℕ)) → IsProp (IsClass map_of to told)
IsClass-prop map_of to None = Prim.hlevel logic.props
IsClass-prop map_of to (Some members) = Prim.hlevel logic.props

-- the place of a number in a list, counted from 1, and 0 where it is not there
unfoldable pub place_in : List ℕ → ℕ → ℕ
place_in [] c = 0
place_in (x ∷ xs) c = if x == c then 1 else if place_in xs c == 0 then 0 else place_in xs c + 1

-- pairs are a map of case in one way
pub IsCaseMap-prop : (pairs : List (ℕ × ℕ)) → IsProp (IsCaseMap pairs)
IsCaseMap-prop pairs = let order = PairsRise-prop pairs in Prim.hlevel (order, logic.props)

-- A set takes in what has the image of something that passes, all of it and nothing else.
pub record Unites (map_of : ℕ → ℕ) (test : ℕ → Bool) (old new : ℕ → Bool) : Type 0 where
  pub keeps : (c : ℕ) → old c ≡ true → new c ≡ true
  pub inside : (c : ℕ) → new c ≡ true → (old c ≡ true) ⊎ ((d : ℕ) × (test d ≡ true) × (map_of d ≡ map_of c))
  pub all : (d : ℕ) → test d ≡ true → (c : ℕ) → map_of c ≡ map_of d → new c ≡ true
