-- The first bytes of UTF-8 forms. std's `encode_utf8` gives a surrogate three bytes.
use Rattle.std.specs.Prelude.{◌≡◌, ℕ, Bool, true, ◌||◌, ◌&&◌, nat_lt, nat_le, Some, slice_get, encode_utf8}
use Rattle.regress_meaning.specs.Text.{between}
use Rattle.regress_front_sets.specs.declared.interval.Interval.{Interval}
use Rattle.regress_front_sets.specs.Intervals.{in_interval}

-- the byte may begin a form
abbrev pub may_begin : ℕ → Bool
may_begin byte = nat_lt byte 0x80 || nat_le 0xC2 byte

-- the byte lies from one to another, and may begin a form
abbrev pub begins_between : ℕ → ℕ → ℕ → Bool
begins_between first last byte = between first last byte && may_begin byte

-- the UTF-8 form of some code point of the interval begins with the byte
abbrev pub BeginsSome : Interval → ℕ → Type 0
BeginsSome interval byte = (c : ℕ) × (in_interval interval c ≡ true) × (slice_get (encode_utf8 c) 0 ≡ Some byte)
