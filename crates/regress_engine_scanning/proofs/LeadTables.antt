-- The bytes for sixteen units, and which of them are members of a set.
use Rattle.std.proofs.Common.{◌≡◌, ap₂, ℕ, ◌+◌, ◌/◌, ◌%◌, ◌^◌, ◌<◌, ◌≤◌, ◌⊎◌, inl, inr, Bool, true, false, List, [], ◌∷◌, length, map, replicate, cond, eqb, ltb, get_or, refl, sym, ap, ◌∙◌, subst, arith, w16, Fits}
use Rattle.std.proofs.Math.Utf8.{encode}
use Rattle.std.specs.Simd.Lanes.{Each1, mask_l, sel_l, top, zip2}
use Rattle.std.proofs.lemmas.Bool.Decides.{nat_tests}
use Rattle.std.proofs.lemmas.Simd.{map-map}
use Rattle.regress_front_bytes.specs.ByteSets.{has_bit}
use Rattle.regress_engine_scanning.specs.Halves.{halved}
use Rattle.regress_engine_scanning.specs.Leads.{byte_for, has_byte_for}
use Rattle.regress_engine_scanning.proofs.HalfTables.{rows-masked}

-- a lane where a test holds
abbrev on : Bool → ℕ
on test = cond test 65535 0

-- the byte for a unit, as the lanes have it
abbrev pub lane_for : ℕ → ℕ
lane_for unit =
    cond (top 15 (on (ltb unit 0x80))) unit (cond (top 15 (on (ltb unit 0x800))) ((unit / 2 ^ 6 + 0xC0) % 65536)
    (cond (top 15 (on (eqb (unit / 2 ^ 11) 0x1B))) 0xFF ((unit / 2 ^ 12 + 0xE0) % 65536)))

-- the lanes of so many units
abbrev pub lanes_for : ℕ → List ℕ → List ℕ
lanes_for lanes xs =
    sel_l (map (top 15) (zip2 (λ a b. on (ltb a b)) xs (replicate lanes 0x80))) xs
    (sel_l (map (top 15) (zip2 (λ a b. on (ltb a b)) xs (replicate lanes 0x800))) (zip2 (λ a b. (a + b) % 65536) (zip2 (λ a b. a / 2 ^ b) xs (replicate lanes 6)) (replicate lanes 0xC0))
    (sel_l (map (top 15) (zip2 (λ a b. on (eqb a b)) (zip2 (λ a b. a / 2 ^ b) xs (replicate lanes 11)) (replicate lanes 0x1B))) (replicate lanes 0xFF)
    (zip2 (λ a b. (a + b) % 65536) (zip2 (λ a b. a / 2 ^ b) xs (replicate lanes 12)) (replicate lanes 0xE0))))

lanes-are : (xs : List ℕ) → lanes_for (length xs) xs ≡ map lane_for xs
lanes-are [] = refl
lanes-are (x ∷ xs) = ap (λ bs. lane_for x ∷ bs) (lanes-are xs)

top-on : (test : Bool) → top 15 (on test) ≡ test
top-on true = refl
top-on false = refl

-- the byte for a unit, as it is told
abbrev told_for : ℕ → ℕ
told_for unit = cond (ltb unit 0x80) unit (cond (ltb unit 0x800) ((unit / 2 ^ 6 + 0xC0) % 65536) (cond (eqb (unit / 2 ^ 11) 0x1B) 0xFF ((unit / 2 ^ 12 + 0xE0) % 65536)))

lane-told : (unit : ℕ) → lane_for unit ≡ told_for unit
lane-told unit =
    ap (λ t. cond t unit (cond (top 15 (on (ltb unit 0x800))) ((unit / 2 ^ 6 + 0xC0) % 65536) (cond (top 15 (on (eqb (unit / 2 ^ 11) 0x1B))) 0xFF ((unit / 2 ^ 12 + 0xE0) % 65536)))) (top-on (ltb unit 0x80))
    ∙ ap (λ t. cond (ltb unit 0x80) unit (cond t ((unit / 2 ^ 6 + 0xC0) % 65536) (cond (top 15 (on (eqb (unit / 2 ^ 11) 0x1B))) 0xFF ((unit / 2 ^ 12 + 0xE0) % 65536)))) (top-on (ltb unit 0x800))
    ∙ ap (λ t. cond (ltb unit 0x80) unit (cond (ltb unit 0x800) ((unit / 2 ^ 6 + 0xC0) % 65536) (cond t 0xFF ((unit / 2 ^ 12 + 0xE0) % 65536)))) (top-on (eqb (unit / 2 ^ 11) 0x1B))

told-byte : (unit : ℕ) → unit < 65536 → told_for unit ≡ byte_for unit
unfolding encode
told-byte unit small = grind (arith, nat_tests)

pub lane-small : (unit : ℕ) → unit < 65536 → lane_for unit < 256
lane-small unit small = subst (λ n. n < 256) (sym (lane-told unit)) (grind (arith, nat_tests))

pub lanes-told : (xs : List ℕ) → length xs ≡ 16 → lanes_for 16 xs ≡ map lane_for xs
lanes-told xs long = subst (λ n. lanes_for n xs ≡ map lane_for xs) long (lanes-are xs)

pub lanes-bytes : (xs : List ℕ) → Each1 (Fits w16) xs → map lane_for xs ≡ map byte_for xs
lanes-bytes [] fit = refl
lanes-bytes (x ∷ xs) fit = ap₂ (λ b bs. b ∷ bs) (lane-told x ∙ told-byte x fit.0.fits) (lanes-bytes xs fit.1)

-- the marks of the bytes for units are those of the units
pub leads-masked : (test : ℕ → Bool) (rows lower upper : List ℕ) → ((b : ℕ) → test b ≡ has_bit 16 rows b) → lower ≡ map (λ row. row % 256) rows → upper ≡ map (λ row. row / 256) rows
    → (units bytes : List ℕ) (m : ℕ) → bytes ≡ map byte_for units → m ≡ mask_l (map (halved lower upper) bytes) → m ≡ mask_l (map (has_byte_for test) units)
leads-masked test rows lower upper same e f units bytes m are mask =
    rows-masked test rows lower upper same e f bytes bytes m refl mask ∙ ap mask_l (ap (map test) are ∙ map-map test byte_for units)
