-- The code point of a UTF-8 form, and the first byte of the form.
use Rattle.std.proofs.Common.{◌≡◌, ℕ, ◌+◌, ◌*◌, ◌/◌, ◌%◌, ◌<◌, ◌≤◌, [], ◌∷◌, Some, slice_get, arith}
use Rattle.std.proofs.Math.Utf8.{encode}
use Rattle.std.proofs.lemmas.Bool.Decides.{nat_tests}

-- what two, three and four bytes stand for
pub code_point_of_two : (c a b : ℕ) → c ≤ 0x10_FFFF → encode c ≡ a ∷ b ∷ [] → a % 32 * 64 + b % 64 ≡ c
unfolding encode
code_point_of_two c a b within form = grind (arith, nat_tests)

pub code_point_of_three : (c x y z : ℕ) → c ≤ 0x10_FFFF → encode c ≡ x ∷ y ∷ z ∷ [] → (x % 16 * 64 + y % 64) * 64 + z % 64 ≡ c
unfolding encode
code_point_of_three c x y z within form = grind (arith, nat_tests)

pub code_point_of_four : (c w x y z : ℕ) → c ≤ 0x10_FFFF → encode c ≡ w ∷ x ∷ y ∷ z ∷ [] → ((w % 8 * 64 + x % 64) * 64 + y % 64) * 64 + z % 64 ≡ c
unfolding encode
code_point_of_four c w x y z within form = grind (arith, nat_tests)

-- the first byte
pub first_of_two : (c : ℕ) → 128 ≤ c → c < 2048 → slice_get (encode c) 0 ≡ Some (192 + c / 64)
unfolding encode
first_of_two c low high = grind (arith, nat_tests)

pub first_of_three : (c : ℕ) → 2048 ≤ c → c < 65536 → slice_get (encode c) 0 ≡ Some (224 + c / 4096)
unfolding encode
first_of_three c low high = grind (arith, nat_tests)

pub first_of_four : (c : ℕ) → 65536 ≤ c → slice_get (encode c) 0 ≡ Some (240 + c / 262144)
unfolding encode
first_of_four c low = grind (arith, nat_tests)
