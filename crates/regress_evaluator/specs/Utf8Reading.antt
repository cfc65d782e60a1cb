-- Bytes of UTF-8, read one by one.
use Rattle.std.specs.Prelude.{◌≡◌, ℕ, zero, suc, ◌≤◌, List, chars}
use Rattle.std.specs.Str.{chars_after}

-- the characters that are still to come, where so many bytes of the next one are, and these are its bits so far
abbrev pub pending : ℕ → ℕ → List ℕ → List ℕ
pending zero bits bs = chars bs
pending (suc left) bits bs = chars_after (suc left) bits bs

-- the bits of a character of which so many bytes are still to come are few
pub record IsPending (left bits : ℕ) : Type 0 where
  pub few : left ≤ 3
  pub one : left ≡ 1 → bits ≤ 69695
  pub two : left ≡ 2 → bits ≤ 1087
  pub three : left ≡ 3 → bits ≤ 15
