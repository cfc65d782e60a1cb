-- Two tables of sixteen bytes that are looked up for sixteen bytes at once.
use Rattle.std.specs.Prelude.{nat_eq}
use Rattle.std.proofs.Common.{◌≡◌, ap₂, ℕ, zero, suc, ◌+◌, ◌-◌, ◌*◌, ◌/◌, ◌%◌, ◌^◌, ◌<◌, ◌≤◌, Bool, ◌||◌, not, cond, eqb, leb, ltb, T, List, [], ◌∷◌, ◌++◌, length, get_or, map, replicate, refl, sym, ap, subst, ◌∙◌, arith, w8, Fits, bit_and}
use Rattle.std.specs.Int.{bit_at}
use Rattle.std.specs.Simd.Lanes.{zip2, mask_l, top, Each1}
use Rattle.std.proofs.lemmas.Bool.{ne_eqb, lt-leb, lt-ltb}
use Rattle.std.proofs.lemmas.List.{length-map, get_or_append_left, get_or-append-add}
use Rattle.std.proofs.lemmas.Nat.{pow_pos}
use Rattle.std.proofs.lemmas.Nat.Bits.{and_pow, bit_at-lt}
use Rattle.std.proofs.lemmas.Simd.{SwzOk, SwzOk-from_Each1, swz_l, bitmask_splat, map-map, zip2_of_maps}

-- what a place of a table has, and nothing from 128 on
abbrev pub looked : List ℕ → ℕ → ℕ
looked table place = cond (leb 128 place) 0 (get_or table place 0)

-- a number is not 0
abbrev pub differs : ℕ → ℕ → Bool
differs a b = not (nat_eq a b)

-- tests that answer alike for all bytes answer alike along a list of them
pub map-alike : {X : Type 0} (f g : ℕ → X) → ((b : ℕ) → b < 256 → f b ≡ g b) → (v : List ℕ) → Each1 (Fits w8) v → map f v ≡ map g v
map-alike f g same [] fit = refl
map-alike f g same (b ∷ v) fit = ap₂ (λ x xs. x ∷ xs) (same b fit.0.fits) (map-alike f g same v fit.1)

-- a shuffle looks up each place
shuffled : (table : List ℕ) (place : ℕ → ℕ) (v : List ℕ) (i : ℕ) → i + length v ≤ 16 → swz_l w8 16 table i (map place v) ≡ map (λ b. looked table (place b)) v
shuffled table place [] i room = refl
shuffled table place (b ∷ v) i room =
    let here : 16 * (i / 16) + place b ≡ place b = omega (arith, room) in
    ap₂ (λ x xs. x ∷ xs) (ap (λ n. cond (leb 128 (place b)) 0 (get_or table n 0)) here) (shuffled table place v (suc i) (omega (arith, room)))

-- the places of bytes may be looked up in a table of sixteen
pub places-looked : (place : ℕ → ℕ) → ((b : ℕ) → b < 256 → T (leb 128 (place b) || ltb (place b) 16)) → (v js : List ℕ) → js ≡ map place v → length v ≡ 16 → Each1 (Fits w8) v → SwzOk w8 16 16 0 js
places-looked place small v js e long fit =
    subst (SwzOk w8 16 16 0) (sym e) (SwzOk-from_Each1 w8 16 1 16 0 (map place v) refl (omega (arith, long, length-map v place)) (each v fit))
  where
    each : (v : List ℕ) → Each1 (Fits w8) v → Each1 (λ j. T (leb 128 j || ltb j 16)) (map place v)
    each [] fit = tt
    each (b ∷ v) fit = (small b fit.0.fits, each v fit.1)

-- what two tables have at places, together
abbrev pub met : (near far : List ℕ) (at to : ℕ → ℕ) → ℕ → ℕ
met near far at to b = bit_and (looked near (at b)) (looked far (to b))

pub tables-met : (near far : List ℕ) (at to : ℕ → ℕ) (v js ks : List ℕ) → js ≡ map at v → ks ≡ map to v → length v ≡ 16 → zip2 bit_and (swz_l w8 16 near 0 js) (swz_l w8 16 far 0 ks) ≡ map (met near far at to) v
tables-met near far at to v js ks e f long =
    zip2_of_maps bit_and (λ b. looked near (at b)) (λ b. looked far (to b)) v
    (ap (swz_l w8 16 near 0) e ∙ shuffled near at v 0 (omega (arith, long)))
    (ap (swz_l w8 16 far 0) f ∙ shuffled far to v 0 (omega (arith, long)))

-- the mask of lanes that are not 0 tells which bytes pass
pub lanes-marked : (lane : ℕ → ℕ) (test : ℕ → Bool) (v z : List ℕ) → z ≡ map lane v → length v ≡ 16 → Each1 (Fits w8) v → ((b : ℕ) → b < 256 → differs (lane b) 0 ≡ test b)
    → mask_l (map (top 7) (zip2 (λ a b. cond (differs a b) 255 0) z (replicate 16 0))) % 2 ^ 64 ≡ mask_l (map test v)
lanes-marked lane test v z e long fit same =
    bitmask_splat w8 differs z 16 0 (ap length e ∙ length-map v lane ∙ long) (omega arith)
    ∙ ap mask_l (ap (map (λ x. differs x 0)) e ∙ map-map (λ x. differs x 0) lane v ∙ map-alike (λ b. differs (lane b) 0) test same v fit)

-- an `&` with a power of two tests a bit
pub bit-met : (row place : ℕ) → differs (bit_and row (2 ^ place)) 0 ≡ eqb (bit_at row place) 1
bit-met row place = by_bit (bit_at row place) (bit_at-lt row place) (and_pow row place)
  where
    by_bit : (bit : ℕ) → bit < 2 → bit_and row (2 ^ place) ≡ bit * 2 ^ place → differs (bit_and row (2 ^ place)) 0 ≡ eqb bit 1
    by_bit zero less e = let none : bit_and row (2 ^ place) ≡ 0 = omega (arith, e) in ap (λ n. differs n 0) none
    by_bit (suc zero) less e = ap not (ne_eqb _ 0 (λ none. let some = pow_pos place in absurd (omega (arith, e, none, some))))
    by_bit (suc (suc bit)) less e = absurd (omega (arith, less))

-- a table is looked up below 128
pub looked-below : (table : List ℕ) (n : ℕ) → n < 128 → looked table n ≡ get_or table n 0
looked-below table n low = ap (λ t. cond t 0 (get_or table n 0)) (lt-leb 128 n low)

pub low-looked : (n : ℕ) → n < 16 → T (leb 128 n || ltb n 16)
low-looked n low = subst T (sym (ap (λ t. t || ltb n 16) (lt-leb 128 n (omega (arith, low))) ∙ lt-ltb n 16 low)) tt

-- the bit of each of eight places
abbrev pub EIGHT : List ℕ
EIGHT = 1 ∷ 2 ∷ 4 ∷ 8 ∷ 16 ∷ 32 ∷ 64 ∷ 128 ∷ []

pub bit-of : (i : ℕ) → i < 8 → get_or EIGHT i 0 ≡ 2 ^ i
bit-of zero less = refl
bit-of (suc zero) less = refl
bit-of (suc (suc zero)) less = refl
bit-of (suc (suc (suc zero))) less = refl
bit-of (suc (suc (suc (suc zero)))) less = refl
bit-of (suc (suc (suc (suc (suc zero))))) less = refl
bit-of (suc (suc (suc (suc (suc (suc zero)))))) less = refl
bit-of (suc (suc (suc (suc (suc (suc (suc zero))))))) less = refl
bit-of (suc (suc (suc (suc (suc (suc (suc (suc i)))))))) less = absurd (omega (arith, less))

-- one table behind another
pub front-looked : (front back : List ℕ) (n : ℕ) → length front ≡ 8 → n < 8 → looked (front ++ back) n ≡ get_or front n 0
front-looked front back n long low = looked-below (front ++ back) n (omega (arith, low)) ∙ get_or_append_left front back 0 n (omega (arith, low, long))

pub back-looked : (front back : List ℕ) (n : ℕ) → length front ≡ 8 → 8 ≤ n → n < 16 → looked (front ++ back) n ≡ get_or back (n - 8) 0
back-looked front back n long high low =
    let e : n ≡ length front + (n - 8) = omega (arith, high, long) in
    looked-below (front ++ back) n (omega (arith, low)) ∙ ap (λ k. get_or (front ++ back) k 0) e ∙ get_or-append-add front back (n - 8) 0
