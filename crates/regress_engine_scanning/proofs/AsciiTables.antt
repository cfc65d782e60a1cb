-- The two tables by which sixteen bytes are looked up in a set of ASCII.
use Rattle.std.proofs.Common.{◌≡◌, ◌⊎◌, inl, inr, ℕ, ◌/◌, ◌%◌, ◌^◌, ◌<◌, ◌≤◌, ◌||◌, cond, leb, ltb, T, List, ◌++◌, length, get_or, map, replicate, refl, sym, ap, subst, ◌∙◌, arith, bit_and, bit_or}
use Rattle.std.specs.Int.Bits.{and_zero_l, or_zero_r}
use Rattle.std.specs.Simd.Lanes.{zip2}
use Rattle.std.proofs.lemmas.Bool.{cases_lt, le-leb}
use Rattle.std.proofs.lemmas.Nat.{and_mask, le_or_r}
use Rattle.std.proofs.lemmas.Nat.Bits.{and_pow}
use Rattle.std.proofs.lemmas.Simd.{zip2_of_maps, zip2_splat}
use Rattle.regress_front_bytes.specs.ByteSets.{has_bit}
use Rattle.regress_front_bytes.proofs.BitRows.{has_bit_past}
use Rattle.regress_engine_scanning.proofs.TableLemmas.{EIGHT, looked, met, differs, bit-met, bit-of, front-looked, looked-below, low-looked}

-- the bit of each place in a row of eight, twice
abbrev pub PLACES : List ℕ
PLACES = EIGHT ++ EIGHT

-- the row of a byte, and from 0x80 on a number past all rows
abbrev pub row : ℕ → ℕ
row b = bit_or (b / 2 ^ 3) (bit_and b 128)

-- the place of a byte in its row
abbrev pub place : ℕ → ℕ
place b = bit_and b 7

row-low : (b : ℕ) → b < 128 → row b ≡ b / 8
row-low b low = ap (bit_or (b / 8)) (and_pow b 7 ∙ omega (arith, low)) ∙ or_zero_r (b / 8)

row-past : (b : ℕ) → 128 ≤ b → b < 256 → 128 ≤ row b
row-past b past small = let e = and_pow b 7 in let more = le_or_r (b / 2 ^ 3) (bit_and b 128) in omega (arith, e, more, past, small)

-- both may be looked up in a table of sixteen
pub row-looked : (b : ℕ) → b < 256 → T (leb 128 (row b) || ltb (row b) 16)
row-looked b small = by_order (cases_lt b 128)
  where
    by_order : (b < 128) ⊎ (128 ≤ b) → T (leb 128 (row b) || ltb (row b) 16)
    by_order (inl low) = let e = row-low b low in low-looked (row b) (omega (arith, e, low))
    by_order (inr past) = subst T (sym (ap (λ t. t || ltb (row b) 16) (le-leb 128 (row b) (row-past b past small)))) tt

pub place-looked : (b : ℕ) → b < 256 → T (leb 128 (place b) || ltb (place b) 16)
place-looked b small =
    let few = and_mask b 3 in low-looked (place b) (omega (arith, few))

-- the two share a bit for each member
pub members-meet : (rows : List ℕ) → length rows ≡ 16 → (b : ℕ) → b < 256 → differs (met rows PLACES row place b) 0 ≡ has_bit 8 rows b
unfolding has_bit
members-meet rows long b small = by_order (cases_lt b 128)
  where
    by_order : (b < 128) ⊎ (128 ≤ b) → differs (met rows PLACES row place b) 0 ≡ has_bit 8 rows b
    by_order (inl low) =
        let at : looked rows (row b) ≡ get_or rows (b / 8) 0 = ap (looked rows) (row-low b low) ∙ looked-below rows (b / 8) (omega (arith, low)) in
        let bit : looked PLACES (place b) ≡ 2 ^ (b % 8) = ap (looked PLACES) (and_mask b 3) ∙ front-looked EIGHT EIGHT (b % 8) refl (omega arith) ∙ bit-of (b % 8) (omega arith) in
        ap (λ n. differs (bit_and n (looked PLACES (place b))) 0) at ∙ ap (λ n. differs (bit_and (get_or rows (b / 8) 0) n) 0) bit ∙ bit-met (get_or rows (b / 8) 0) (b % 8)
    by_order (inr past) =
        let none : looked rows (row b) ≡ 0 = ap (λ t. cond t 0 (get_or rows (row b) 0)) (le-leb 128 (row b) (row-past b past small)) in
        ap (λ n. differs (bit_and n (looked PLACES (place b))) 0) none ∙ ap (λ n. differs n 0) (and_zero_l (looked PLACES (place b))) ∙ sym (has_bit_past 8 rows b (omega (arith, long, past)))

-- the rows and the places of sixteen bytes
pub rows-are : (v : List ℕ) → length v ≡ 16 → zip2 bit_or (zip2 (λ a b. a / 2 ^ b) v (replicate 16 3)) (zip2 bit_and v (replicate 16 128)) ≡ map row v
rows-are v long = zip2_of_maps bit_or (λ b. b / 2 ^ 3) (λ b. bit_and b 128) v (zip2_splat (λ a b. a / 2 ^ b) v 16 3 long) (zip2_splat bit_and v 16 128 long)

pub places-are : (v : List ℕ) → length v ≡ 16 → zip2 bit_and v (replicate 16 7) ≡ map place v
places-are v long = zip2_splat bit_and v 16 7 long
