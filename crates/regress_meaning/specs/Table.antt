-- Case and properties of code points, as a table gives them.
use Rattle.std.specs.Prelude.{ℕ, zero, suc, ◌+◌, Bool, false, ◌&&◌, ◌||◌, ◌==◌, List, Option, if◌then◌else◌}

-- What Unicode tells of code points: simple case folding, simple upper case, identifiers, properties of code points and
-- of strings, each property by its key, the text between the braces of `\p{..}`.
-- "Canonicalize", "IdentifierStartChar", "UnicodeMatchProperty".
pub record Table : Type 0 where
  pub fold : ℕ → ℕ
  pub upper : ℕ → ℕ
  pub is_id_start : ℕ → Bool
  pub is_id_continue : ℕ → Bool
  pub property : List ℕ → Option (ℕ → Bool)
  pub sequences : List ℕ → Option (List (List ℕ))

-- what two code points have alike where case is ignored: the fold in Unicode mode, and else the upper case
-- ("Canonicalize")
unfoldable pub canon : Table → Bool → ℕ → ℕ
canon table unicode c = if unicode then table.fold c else table.upper c

-- the greatest code point
abbrev pub last_code_point : ℕ
last_code_point = 0x10_FFFF

-- how many code points there are
abbrev pub code_points : ℕ
code_points = 0x11_0000

-- some number below n passes
unfoldable pub some_below : ℕ → (ℕ → Bool) → Bool
some_below zero test = false
some_below (suc n) test = test n || some_below n test

-- how many numbers below n pass
unfoldable pub count_below : ℕ → (ℕ → Bool) → ℕ
count_below zero test = 0
count_below (suc n) test = (if test n then 1 else 0) + count_below n test

-- The closure of a set: c has the canon of some member ("CharacterSetMatcher", where case is ignored).
unfoldable pub closure : (ℕ → ℕ) → (ℕ → Bool) → ℕ → Bool
closure canon_of members c = some_below code_points (λ d. members d && (canon_of d == canon_of c))
