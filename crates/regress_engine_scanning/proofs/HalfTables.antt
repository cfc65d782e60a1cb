-- The tables by which sixteen bytes are looked up in any set of bytes.
use Rattle.std.proofs.Common.{◌≡◌, ap₂, ◌⊎◌, inl, inr, ℕ, zero, suc, ◌+◌, ◌*◌, ◌-◌, ◌/◌, ◌%◌, ◌^◌, ◌<◌, ◌≤◌, Bool, ◌||◌, cond, eqb, leb, ltb, T, List, [], ◌∷◌, ◌++◌, length, get_or, map, replicate, refl, sym, ap, ◌∙◌, arith, bit_and, bit_or, w16, Fits}
use Rattle.std.specs.Int.{bit_at}
use Rattle.std.specs.Int.Bits.{and_zero_r, or_zero_l, or_zero_r}
use Rattle.std.specs.Simd.Lanes.{mask_l, zip2, Each1}
use Rattle.std.proofs.lemmas.Bool.{cases_lt, le-ltb, lt-ltb}
use Rattle.std.proofs.lemmas.Nat.{and_mask}
use Rattle.std.proofs.lemmas.Nat.Bits.{bit_at_cat_high, bit_at_cat_low}
use Rattle.std.proofs.lemmas.Simd.{get_or-replicate, zip2_splat}
use Rattle.regress_front_bytes.specs.ByteSets.{has_bit}
use Rattle.regress_engine_scanning.specs.Halves.{halved}
use Rattle.regress_engine_scanning.proofs.AsciiRuns.{sixteen-masked}
use Rattle.regress_engine_scanning.proofs.ScanLemmas.{map-same}
use Rattle.regress_engine_scanning.proofs.TableLemmas.{EIGHT, looked, met, differs, bit-met, bit-of, back-looked, front-looked, looked-below, low-looked}

-- ---- halves of rows

-- the rows of sixteen bits as their halves
pub rows-lower : (rows : List ℕ) → length rows ≡ 16 → zip2 bit_and rows (replicate 16 255) ≡ map (λ row. row % 256) rows
rows-lower rows long = zip2_splat bit_and rows 16 255 long ∙ map-same (λ row. bit_and row 255) (λ row. row % 256) (λ row. and_mask row 8) rows

pub rows-upper : (rows : List ℕ) → length rows ≡ 16 → zip2 (λ a b. a / 2 ^ b) rows (replicate 16 8) ≡ map (λ row. row / 256) rows
rows-upper rows long = zip2_splat (λ a b. a / 2 ^ b) rows 16 8 long

-- what holds of the half of each row holds of each half
pub each-half : (P : ℕ → Type 0) (half : ℕ → ℕ) → ((row : ℕ) → row < 65536 → P (half row)) → (rows : List ℕ) → Each1 (Fits w16) rows → Each1 P (map half rows)
each-half P half small [] fit = tt
each-half P half small (row ∷ rows) fit = (small row fit.0.fits, each-half P half small rows fit.1)

-- a half of no row is none
half-at : (half : ℕ → ℕ) → half 0 ≡ 0 → (rows : List ℕ) (k : ℕ) → get_or (map half rows) k 0 ≡ half (get_or rows k 0)
half-at half none [] k = sym none
half-at half none (row ∷ rows) zero = refl
half-at half none (row ∷ rows) (suc k) = half-at half none rows k

-- a bit of a row is one of a half
low-bit : (row i : ℕ) → i < 8 → bit_at row i ≡ bit_at (row % 256) i
low-bit row i low = let e : row ≡ row / 256 * 2 ^ 8 + row % 256 = omega arith in ap (λ n. bit_at n i) e ∙ bit_at_cat_low (row / 256) 8 (row % 256) i low

high-bit : (row i : ℕ) → 8 ≤ i → bit_at row i ≡ bit_at (row / 256) (i - 8)
high-bit row i high = let e : row ≡ row / 256 * 2 ^ 8 + row % 256 = omega arith in ap (λ n. bit_at n i) e ∙ bit_at_cat_high (row / 256) 8 (row % 256) i (omega arith) high

-- the bit of one of the halves
abbrev chosen : (lower upper : List ℕ) → ℕ → Bool → Bool
chosen lower upper b is_low = cond is_low (eqb (bit_at (get_or lower (b / 16) 0) (b % 16)) 1) (eqb (bit_at (get_or upper (b / 16) 0) (b % 16 - 8)) 1)

-- the bits of rows are those of their halves
pub halves-hold : (rows : List ℕ) (b : ℕ) → has_bit 16 rows b ≡ halved (map (λ row. row % 256) rows) (map (λ row. row / 256) rows) b
unfolding has_bit
halves-hold rows b = by_half (cases_lt (b % 16) 8)
  where
    by_half : (b % 16 < 8) ⊎ (8 ≤ b % 16) → has_bit 16 rows b ≡ halved (map (λ row. row % 256) rows) (map (λ row. row / 256) rows) b
    by_half (inl low) =
        ap (λ n. eqb n 1) (low-bit (get_or rows (b / 16) 0) (b % 16) low ∙ ap (λ r. bit_at r (b % 16)) (sym (half-at (λ row. row % 256) refl rows (b / 16)))) ∙ ap (chosen (map (λ row. row % 256) rows) (map (λ row. row / 256) rows) b) (sym (lt-ltb (b % 16) 8 low))
    by_half (inr high) =
        ap (λ n. eqb n 1) (high-bit (get_or rows (b / 16) 0) (b % 16) high ∙ ap (λ r. bit_at r (b % 16 - 8)) (sym (half-at (λ row. row / 256) refl rows (b / 16)))) ∙ ap (chosen (map (λ row. row % 256) rows) (map (λ row. row / 256) rows) b) (sym (le-ltb (b % 16) 8 high))

-- ---- sixteen bytes at once

-- the marks of the halves are those of the set
pub rows-masked : (test : ℕ → Bool) (rows lower upper : List ℕ) → ((b : ℕ) → test b ≡ has_bit 16 rows b) → lower ≡ map (λ row. row % 256) rows → upper ≡ map (λ row. row / 256) rows
    → (bytes units : List ℕ) (m : ℕ) → map test bytes ≡ map test units → m ≡ mask_l (map (halved lower upper) bytes) → m ≡ mask_l (map test units)
rows-masked test rows lower upper same e f bytes units m narrowed mask =
    sixteen-masked test (halved lower upper) (λ b. same b ∙ halves-hold rows b ∙ sym (ap₂ (λ l u. halved l u b) e f)) bytes units m narrowed mask

-- the bit of each of eight places in the lower half, and in the upper half
abbrev pub LOWER : List ℕ
LOWER = EIGHT ++ replicate 8 0

abbrev pub UPPER : List ℕ
UPPER = replicate 8 0 ++ EIGHT

-- the row of a byte, and its place there
abbrev pub row : ℕ → ℕ
row b = b / 2 ^ 4

abbrev pub place : ℕ → ℕ
place b = bit_and b 15

pub row-looked : (b : ℕ) → b < 256 → T (leb 128 (row b) || ltb (row b) 16)
row-looked b small = low-looked (row b) (omega (arith, small))

pub place-looked : (b : ℕ) → b < 256 → T (leb 128 (place b) || ltb (place b) 16)
place-looked b small = let few = and_mask b 4 in low-looked (place b) (omega (arith, few))

pub rows-are : (v : List ℕ) → length v ≡ 16 → zip2 (λ a b. a / 2 ^ b) v (replicate 16 4) ≡ map row v
rows-are v long = zip2_splat (λ a b. a / 2 ^ b) v 16 4 long

pub places-are : (v : List ℕ) → length v ≡ 16 → zip2 bit_and v (replicate 16 15) ≡ map place v
places-are v long = zip2_splat bit_and v 16 15 long

-- what the four tables have for a byte
abbrev pub lane : (lower upper : List ℕ) → ℕ → ℕ
lane lower upper b = bit_or (met lower LOWER row place b) (met upper UPPER row place b)

-- that is not 0 for each member
pub halves-meet : (lower upper : List ℕ) (b : ℕ) → b < 256 → differs (lane lower upper b) 0 ≡ halved lower upper b
halves-meet lower upper b small = by_half (cases_lt (b % 16) 8)
  where
    near : looked lower (row b) ≡ get_or lower (b / 16) 0
    near = looked-below lower (b / 16) (omega (arith, small))

    far : looked upper (row b) ≡ get_or upper (b / 16) 0
    far = looked-below upper (b / 16) (omega (arith, small))

    by_half : (b % 16 < 8) ⊎ (8 ≤ b % 16) → differs (lane lower upper b) 0 ≡ halved lower upper b
    by_half (inl low) =
        let one : looked LOWER (place b) ≡ 2 ^ (b % 16) = ap (looked LOWER) (and_mask b 4) ∙ front-looked EIGHT (replicate 8 0) (b % 16) refl low ∙ bit-of (b % 16) low in
        let none : looked UPPER (place b) ≡ 0 = ap (looked UPPER) (and_mask b 4) ∙ front-looked (replicate 8 0) EIGHT (b % 16) refl low ∙ get_or-replicate 8 (b % 16) 0 0 low in
        let clear : met upper UPPER row place b ≡ 0 = ap (bit_and (looked upper (row b))) none ∙ and_zero_r (looked upper (row b)) in
        let set : met lower LOWER row place b ≡ bit_and (get_or lower (b / 16) 0) (2 ^ (b % 16)) = ap (λ n. bit_and n (looked LOWER (place b))) near ∙ ap (bit_and (get_or lower (b / 16) 0)) one in
        ap (λ n. differs (bit_or (met lower LOWER row place b) n) 0) clear ∙ ap (λ n. differs n 0) (or_zero_r (met lower LOWER row place b) ∙ set) ∙ bit-met (get_or lower (b / 16) 0) (b % 16)
        ∙ ap (chosen lower upper b) (sym (lt-ltb (b % 16) 8 low))
    by_half (inr high) =
        let few : b % 16 < 16 = omega arith in
        let none : looked LOWER (place b) ≡ 0 = ap (looked LOWER) (and_mask b 4) ∙ back-looked EIGHT (replicate 8 0) (b % 16) refl high few ∙ get_or-replicate 8 (b % 16 - 8) 0 0 (omega (arith, high)) in
        let one : looked UPPER (place b) ≡ 2 ^ (b % 16 - 8) = ap (looked UPPER) (and_mask b 4) ∙ back-looked (replicate 8 0) EIGHT (b % 16) refl high few ∙ bit-of (b % 16 - 8) (omega (arith, high)) in
        let clear : met lower LOWER row place b ≡ 0 = ap (bit_and (looked lower (row b))) none ∙ and_zero_r (looked lower (row b)) in
        let set : met upper UPPER row place b ≡ bit_and (get_or upper (b / 16) 0) (2 ^ (b % 16 - 8)) = ap (λ n. bit_and n (looked UPPER (place b))) far ∙ ap (bit_and (get_or upper (b / 16) 0)) one in
        ap (λ n. differs (bit_or n (met upper UPPER row place b)) 0) clear ∙ ap (λ n. differs n 0) (or_zero_l (met upper UPPER row place b) ∙ set) ∙ bit-met (get_or upper (b / 16) 0) (b % 16 - 8)
        ∙ ap (chosen lower upper b) (sym (le-ltb (b % 16) 8 high))
