-- Groups by their names.
use Rattle.std.specs.Prelude.{◌≡◌, ◌≢◌, ℕ, zero, suc, ◌⊎◌, List, [], ◌∷◌, ◌++◌, length, Some, slice_get}

-- These are the numbers, in order, of those of the first k groups that have a name.
abbrev pub AreNumbers : (names : List (List ℕ)) → (name : List ℕ) → (k : ℕ) → List ℕ → Type 0
AreNumbers names name zero numbers = numbers ≡ []
AreNumbers names name (suc k) numbers =
    ((before : List ℕ) × AreNumbers names name k before × (slice_get names k ≡ Some name) × (numbers ≡ before ++ (suc k ∷ [])))
    ⊎ (AreNumbers names name k numbers × (slice_get names k ≢ Some name))

-- numbers written over the beginning of some memory, as far as it reaches
unfoldable pub written_over : List ℕ → List ℕ → List ℕ
written_over [] old = old
written_over (n ∷ ns) [] = []
written_over (n ∷ ns) (x ∷ xs) = n ∷ written_over ns xs

-- The numbers of the groups with a name are written, as far as there is room, and counted; no group has the empty name.
pub record AreWritten (names : List (List ℕ)) (name : List ℕ) (old : List ℕ) (count : ℕ) (new : List ℕ) : Type 0 where
  pub named : name ≢ [] → (numbers : List ℕ) × AreNumbers names name (length names) numbers × (count ≡ length numbers) × (new ≡ written_over numbers old)
  pub unnamed : name ≡ [] → (count ≡ 0) × (new ≡ old)

-- the group with a number, of which 1 is the first, has this name
abbrev pub IsNumbered : List (List ℕ) → ℕ → List ℕ → Type 0
IsNumbered names zero name = ⊥
IsNumbered names (suc k) name = slice_get names k ≡ Some name
