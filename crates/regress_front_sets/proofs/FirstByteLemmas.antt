-- The first byte of a UTF-8 form, as a number.
use Rattle.std.proofs.Common.{◌≡◌, ℕ, ◌+◌, ◌-◌, ◌*◌, ◌/◌, ◌≤◌, Bool, true, false, nat_lt, nat_le, ◌⊎◌, ◌||◌, inl, inr, Some, slice_get, if◌then◌else◌, refl, arith}
use Rattle.std.proofs.Math.Utf8.{encode}
use Rattle.std.proofs.lemmas.Bool.{false≢true}
use Rattle.std.proofs.lemmas.Bool.Decides.{nat_tests}
use Rattle.regress_meaning.specs.Text.{between}
use Rattle.regress_front_sets.specs.FirstBytes.{may_begin, begins_between}

-- the first byte
unfoldable pub lead : ℕ → ℕ
lead c = if nat_lt c 128 then c else if nat_lt c 2048 then 192 + c / 64 else if nat_lt c 65536 then 224 + c / 4096 else 240 + c / 262144

-- the least code point whose form begins with the byte
unfoldable least_of : ℕ → ℕ
least_of b = if nat_lt b 128 then b else if nat_lt b 224 then (b - 192) * 64 else if nat_le b 224 then 2048 else if nat_lt b 240 then (b - 224) * 4096 else if nat_le b 240 then 65536 else (b - 240) * 262144

pub lead-first : (c : ℕ) → slice_get (encode c) 0 ≡ Some (lead c)
unfolding encode lead
lead-first c = grind (arith, nat_tests)

pub lead-mono : (c d : ℕ) → c ≤ d → lead c ≤ lead d
unfolding lead
lead-mono c d below = grind (arith, nat_tests)

lead-may_begin : (c : ℕ) → may_begin (lead c) ≡ true
unfolding lead
lead-may_begin c = grind (arith, nat_tests)

lead-least_of : (b : ℕ) → may_begin b ≡ true → lead (least_of b) ≡ b
unfolding lead least_of
lead-least_of b begins = grind (arith, nat_tests)

least_of-below : (b c : ℕ) → may_begin b ≡ true → b ≤ lead c → least_of b ≤ c
unfolding lead least_of
least_of-below b c begins below = grind (arith, nat_tests)

-- c is one of the first bytes between those of two code points exactly where some code point between them begins with it
pub begins_between-lead : (first last c : ℕ) → between first last c ≡ true → begins_between (lead first) (lead last) (lead c) ≡ true
begins_between-lead first last c inside =
    let low = lead-mono first c (grind (arith, nat_tests)) in
    let high = lead-mono c last (grind (arith, nat_tests)) in
    let begins = lead-may_begin c in
    grind (arith, nat_tests)

pub begins_between-some : (first last b : ℕ) → first ≤ last → begins_between (lead first) (lead last) b ≡ true → (c : ℕ) × (between first last c ≡ true) × (lead c ≡ b)
begins_between-some first last b ordered inside = go (nat_le (least_of b) first) refl
  where
    begins : may_begin b ≡ true
    begins = grind (arith, nat_tests)

    low : lead first ≤ b
    low = grind (arith, nat_tests)

    high : b ≤ lead last
    high = grind (arith, nat_tests)

    go : (before : Bool) → nat_le (least_of b) first ≡ before → (c : ℕ) × (between first last c ≡ true) × (lead c ≡ b)
    go true e =
        let up = lead-mono (least_of b) first (grind (arith, nat_tests)) in
        let least = lead-least_of b begins in
        (first, grind (arith, nat_tests), grind (arith, nat_tests))
    go false e =
        let below = least_of-below b last begins high in
        (least_of b, grind (arith, nat_tests), lead-least_of b begins)

-- the first byte is that number
pub lead-unique : (c b : ℕ) → slice_get (encode c) 0 ≡ Some b → lead c ≡ b
lead-unique c b first = let own = lead-first c in grind arith

-- a test that passes one way or the other
pub from_either : (x y : Bool) → (x || y) ≡ true → {A : Type 0} → (y ≡ true → A) → (x ≡ true) ⊎ A
from_either true y e of = inl refl
from_either false y e of = inr (of e)

pub to_either : (x y : Bool) → {A : Type 0} → (A → y ≡ true) → (x ≡ true) ⊎ A → (x || y) ≡ true
to_either true y of held = refl
to_either false y of (inr a) = of a
to_either false y of (inl e) = absurd (false≢true e)
