-- Units of a set.
use Rattle.std.specs.Prelude.{◌≡◌, ℕ, ◌+◌, ◌<◌, ◌&&◌, Bool, true, List, Option, slice_get}
use Rattle.memchr.specs.Find.{is_byte}
use Rattle.regress_meaning.specs.Meaning.{is_some_and}
use Rattle.regress_engine_scanning.specs.Least.{IsLeast}

-- the least index from one on at which a unit passes a test, or none
abbrev pub IsNextUnit : (ℕ → Bool) → List ℕ → ℕ → Option ℕ → Type 0
IsNextUnit test units from found = IsLeast (λ k. is_some_and (slice_get units k) test ≡ true) from found

-- each byte that passes a test is below 0x80
abbrev pub AreAscii : (ℕ → Bool) → Type 0
AreAscii test = (b : ℕ) → test b ≡ true → b < 0x80

-- a byte stands at an index of some units, and another so far behind it
abbrev pub has_ends : (first last apart : ℕ) → List ℕ → ℕ → Bool
has_ends first last apart units k = is_some_and (slice_get units k) (is_byte first) && is_some_and (slice_get units (k + apart)) (is_byte last)
