-- Bytes with which characters begin in UTF-8.
use Rattle.std.specs.Prelude.{◌≡◌, ℕ, ◌<◌, ◌≤◌, ◌↔◌, ◌⊎◌, Bool, true, ◌==◌, List, length, All, Some, slice_get, encode_utf8}
use Rattle.std.specs.List.{list_any}
use Rattle.regress_meaning.specs.TableParts.{is_code_point}
use Rattle.regress_meaning.specs.Meaning.{is_some_and}

-- a code point that passes begins with the byte
abbrev pub BeginsOneOf : (ℕ → Bool) → ℕ → Type 0
BeginsOneOf test b = (c : ℕ) × is_code_point c × (test c ≡ true) × (slice_get (encode_utf8 c) 0 ≡ Some b)

-- The bytes of a set are those with which the code points begin that pass.
pub record AreFirstOf (test set : ℕ → Bool) : Type 0 where
  pub each : (b : ℕ) → (set b ≡ true) ↔ BeginsOneOf test b

-- the byte may be the first of a character
abbrev pub MayLead : ℕ → Type 0
MayLead b = (b < 0x80) ⊎ ((0xC0 ≤ b) × (b < 0x100))

-- one of the strings begins with the code point
abbrev pub begins_one : List (List ℕ) → ℕ → Bool
begins_one strings c = list_any (λ cs. is_some_and (slice_get cs 0) (λ d. d == c)) strings

-- No string is empty, and the bytes of the set are those with which the strings begin.
pub record AreFirstOfStrings (strings : List (List ℕ)) (set : ℕ → Bool) : Type 0 where
  pub some : All (λ cs. 0 < length cs) strings
  pub first : AreFirstOf (begins_one strings) set

-- a code point has a second byte in UTF-8, and it passes
abbrev pub HasSecond : (ℕ → Bool) → ℕ → Type 0
HasSecond test c = is_code_point c → is_some_and (slice_get (encode_utf8 c) 1) test ≡ true
