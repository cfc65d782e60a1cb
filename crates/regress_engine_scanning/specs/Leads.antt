-- 16-bit units, told by the first bytes of their characters in UTF-8.
use Rattle.std.specs.Prelude.{ℕ, Bool, cond, get_or, encode_utf8}
use Rattle.regress_meaning.specs.TableParts.{is_surrogate}

-- the byte for a unit: the first of its character in UTF-8, and 0xFF for one half of a pair
abbrev pub byte_for : ℕ → ℕ
byte_for unit = cond (is_surrogate unit) 0xFF (get_or (encode_utf8 unit) 0 0)

-- the byte for a unit passes
abbrev pub has_byte_for : (ℕ → Bool) → ℕ → Bool
has_byte_for test unit = test (byte_for unit)
