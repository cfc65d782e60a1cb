-- The bytes of a code point in UTF-8. std's `encode_utf8` gives a surrogate three bytes.
use Rattle.std.specs.Prelude.{◌≡◌, ℕ, ◌≤◌, List, encode_utf8}

-- the bytes are the UTF-8 form of a code point
abbrev pub IsUtf8Form : List ℕ → Type 0
IsUtf8Form bytes = (c : ℕ) × (c ≤ 0x10_FFFF) × (encode_utf8 c ≡ bytes)
