-- Rows of bits: what a write to one row or to each of them does to the bits, and how many bits are on.
use Rattle.std.proofs.Common.{◌≡◌, ℕ, zero, suc, ◌+◌, ◌*◌, ◌/◌, ◌%◌, ◌^◌, ◌<◌, ◌≤◌, Bool, false, cond, not, ◌||◌, eqb, List, [], ◌∷◌, ◌++◌, length, get_or, set, count_by, bit_or, replicate, refl, sym, ap, ◌∙◌, inl, inr, add-zero, zero-add, add_assoc, suc-add, one-add, mul-zero, pow-suc, arith}
use mir.Val.{bits}
use Rattle.std.specs.Int.Count.{ones}
use lib.Count.{ones_step}
use Rattle.std.proofs.lemmas.Bool.{cases_eq, cases_lt, ne_eqb}
use Rattle.std.proofs.lemmas.Bool.Decides.{nat_tests}
use Rattle.std.proofs.Math.Bool.{or-false}
use Rattle.std.proofs.Math.Nat.{div-eq_of_lt, mod-eq_of_lt}
use Rattle.std.proofs.lemmas.List.{get_or-set_same, get_or-set_other, get_or_past}
use Rattle.std.proofs.lemmas.List.Sums.{sum_by-cons, sum_by-append}
use Rattle.std.proofs.lemmas.Nat.{div-add-mod', ones-le, same_from_place}
use Rattle.std.proofs.lemmas.Nat.Bits.{bit_at_or, bit_at_not, bit_at-lt, bit_at-zero, bit_at-pow_same, bit_at-pow_other, bit_at_lowest, bit_at-suc}
use Rattle.std.specs.Int.{Width, bit_at, bit_not}
use Rattle.std.specs.List.{range_with_len, sum_by}
use Rattle.regress_front_bytes.specs.ByteSets.{has_bit}

-- a bit of an `|` is on where it is on in one of the two
bit_at_or_on : (a b i : ℕ) → eqb (bit_at (bit_or a b) i) 1 ≡ eqb (bit_at a i) 1 || eqb (bit_at b i) 1
bit_at_or_on a b i = rw bit_at_or (grind (arith, nat_tests, bit_at-lt a i, bit_at-lt b i))

-- in a power of two the bit at the exponent is on, and no other
bit_at-pow_on : (k i : ℕ) → eqb (bit_at (2 ^ k) i) 1 ≡ eqb k i
bit_at-pow_on k i = grind (arith, nat_tests, bit_at-pow_same, bit_at-pow_other)

-- a bit of a complement is on where it was off
bit_at_not_on : (w : Width) (n i : ℕ) → n < 2 ^ bits w → i < bits w → eqb (bit_at (bit_not w n) i) 1 ≡ not (eqb (bit_at n i) 1)
bit_at_not_on w n i small within = rw bit_at_not (grind (arith, nat_tests, bit_at-lt n i))

-- two places are one where row and column are
eqb_by_row : (width a b : ℕ) → a / width ≡ b / width → eqb (a % width) (b % width) ≡ eqb a b
eqb_by_row width a b same = grind (arith, nat_tests, div-add-mod' a width, div-add-mod' b width)

-- one row takes up one more bit
pub has_bit-set : (width : ℕ) (rows : List ℕ) (v row on : ℕ) → row ≡ v / width → on ≡ 2 ^ (v % width) → row < length rows → (b : ℕ) → has_bit width (set rows row (bit_or (get_or rows row 0) on)) b ≡ has_bit width rows b || eqb v b
unfolding has_bit
has_bit-set width rows v row on is_row is_on within b = elim (cases_eq (b / width) row) [
  | inl same ↦
      let here = eqb_by_row width v b (sym (same ∙ is_row)) in rw (same, get_or-set_same, is_on, bit_at_or_on, bit_at-pow_on, here) refl
  | inr other ↦
      let elsewhere = ne_eqb v b (λ e. other (ap (λ n. n / width) (sym e) ∙ sym is_row)) in rw (get_or-set_other, elsewhere, or-false) refl
]

-- each row takes up the bits of another
pub has_bit-or : (width : ℕ) (rows others out : List ℕ) (n : ℕ) → length rows ≤ n → length others ≤ n → length out ≤ n → ((k : ℕ) → k < n → get_or out k 0 ≡ bit_or (get_or rows k 0) (get_or others k 0)) → (b : ℕ) → has_bit width out b ≡ has_bit width rows b || has_bit width others b
unfolding has_bit
has_bit-or width rows others out n r o u each b = elim (cases_lt (b / width) n) [
  | inl within ↦ rw each (bit_at_or_on (get_or rows (b / width) 0) (get_or others (b / width) 0) (b % width))
  | inr past ↦
      let no_row = get_or_past rows (b / width) 0 (omega arith) in
      let no_other = get_or_past others (b / width) 0 (omega arith) in
      let none = get_or_past out (b / width) 0 (omega arith) in rw (no_row, no_other, none, bit_at-zero) refl
]

-- each row is turned into its complement
pub has_bit-not : (w : Width) → 0 < bits w → (rows out : List ℕ) (b : ℕ) → get_or rows (b / bits w) 0 < 2 ^ bits w → get_or out (b / bits w) 0 ≡ bit_not w (get_or rows (b / bits w) 0) → has_bit (bits w) out b ≡ not (has_bit (bits w) rows b)
unfolding has_bit
has_bit-not w some rows out b small turned =
    rw turned (bit_at_not_on w (get_or rows (b / bits w) 0) (b % bits w) small (omega arith))

-- no bit is on past the rows
pub has_bit_past : (width : ℕ) (rows : List ℕ) (b : ℕ) → length rows ≤ b / width → has_bit width rows b ≡ false
unfolding has_bit
has_bit_past width rows b past = rw (get_or_past, bit_at-zero) refl

-- each of some zeros is 0, and what is read past them too
get_or-zeros : (n k : ℕ) → get_or {A = ℕ} (replicate n 0) k 0 ≡ 0
get_or-zeros zero k = refl
get_or-zeros (suc n) zero = refl
get_or-zeros (suc n) (suc k) = get_or-zeros n k

-- no bit of zeros is on
pub has_bit-zeros : (width n b : ℕ) → has_bit width (replicate n 0) b ≡ false
unfolding has_bit
has_bit-zeros width n b = rw (get_or-zeros, bit_at-zero) refl

-- tests that answer alike along two ranges count alike
count_by_alike : (p q : ℕ → Bool) (a c n : ℕ) → ((i : ℕ) → i < n → p (a + i) ≡ q (c + i)) → count_by p (range_with_len a n) ≡ count_by q (range_with_len c n)
count_by_alike p q a c zero alike = refl
count_by_alike p q a c (suc n) alike =
    let first : p a ≡ q c = ap p (sym (add-zero a)) ∙ alike 0 (omega arith) ∙ ap q (add-zero c) in
    let others = count_by_alike p q (a + 1) (c + 1) n (λ i h. ap p (add_assoc a 1 i) ∙ alike (1 + i) (omega arith) ∙ ap q (sym (add_assoc c 1 i))) in
    sum_by-cons (λ i. cond (p i) 1 0) a (range_with_len (a + 1) n) ∙ rw (first, others) (sym (sum_by-cons (λ i. cond (q i) 1 0) c (range_with_len (c + 1) n)))

-- a range in two parts
range_with_len-+ : (a m n : ℕ) → range_with_len a (m + n) ≡ range_with_len a m ++ range_with_len (a + m) n
range_with_len-+ a zero n = ap (range_with_len a) (zero-add n) ∙ ap (λ b. range_with_len b n) (sym (add-zero a))
range_with_len-+ a (suc m) n =
    let moved : a + 1 + m ≡ a + suc m = omega arith in
    ap (range_with_len a) (suc-add m n) ∙ ap (λ ns. a ∷ ns) (range_with_len-+ (a + 1) m n ∙ ap (λ b. range_with_len (a + 1) m ++ range_with_len b n) moved)

-- a count along a range in two parts
count_by-range-+ : (p : ℕ → Bool) (a m n : ℕ) → count_by p (range_with_len a (m + n)) ≡ count_by p (range_with_len a m) + count_by p (range_with_len (a + m) n)
count_by-range-+ p a m n =
    ap (count_by p) (range_with_len-+ a m n) ∙ sum_by-append (λ i. cond (p i) 1 0) (range_with_len a m) (range_with_len (a + m) n)

-- a bit counts as much as it is
bit_counts : (bit : ℕ) → bit < 2 → cond (eqb bit 1) 1 0 ≡ bit
bit_counts bit small = grind (arith, nat_tests)

-- the bits of a number are its ones
count_by-bit_at : (width n : ℕ) → n < 2 ^ width → count_by (λ i. eqb (bit_at n i) 1) (range_with_len 0 width) ≡ ones n
count_by-bit_at zero n small = omega (arith, ones-le 0 n small)
count_by-bit_at (suc width) n small =
    let bit : ℕ → Bool = λ i. eqb (bit_at n i) 1 in
    let lowest = bit_counts (bit_at n 0) (bit_at-lt n 0) ∙ bit_at_lowest n in
    let higher : (i : ℕ) → i < width → bit (1 + i) ≡ eqb (bit_at (n / 2) (0 + i)) 1 = λ i h. rw (one-add, zero-add) (ap (λ d. eqb d 1) (bit_at-suc n i)) in
    let half = count_by-bit_at width (n / 2) (omega (arith, pow-suc 2 width)) in
    sum_by-cons (λ i. cond (bit i) 1 0) 0 (range_with_len 1 width) ∙ rw (lowest, count_by_alike bit (λ i. eqb (bit_at (n / 2) i) 1) 1 0 width higher, half) (sym (ones_step n))

-- the bits of the first row, and of the others
has_bit-cons_first : (width row : ℕ) (rows : List ℕ) (i : ℕ) → i < width → has_bit width (row ∷ rows) i ≡ eqb (bit_at row i) 1
unfolding has_bit
has_bit-cons_first width row rows i small = rw (div-eq_of_lt small, mod-eq_of_lt small) refl

has_bit-cons_others : (width row : ℕ) (rows : List ℕ) (i : ℕ) → 0 < width → has_bit width (row ∷ rows) (width + i) ≡ has_bit width rows i
unfolding has_bit
has_bit-cons_others width row rows i some =
    let place = same_from_place ((width + i) / width) ((width + i) % width) (suc (i / width)) (i % width) width (omega arith) (omega arith) (omega (arith, div-add-mod' (width + i) width, div-add-mod' i width)) in
    rw (place.0, place.1) refl

-- in rows of `width` bits as many bits are on as the rows have ones
pub count_by-has_bit : (width : ℕ) → 0 < width → (rows : List ℕ) → ((k : ℕ) → k < length rows → get_or rows k 0 < 2 ^ width) → count_by (has_bit width rows) (range_with_len 0 (width * length rows)) ≡ sum_by ones rows
count_by-has_bit width some [] small = ap (λ n. count_by (has_bit width []) (range_with_len 0 n)) (mul-zero width)
count_by-has_bit width some (row ∷ rows) small =
    let all = has_bit width (row ∷ rows) in
    let rest = width * length rows in
    let parts : width * suc (length rows) ≡ width + rest = omega arith in
    let first = count_by_alike all (λ i. eqb (bit_at row i) 1) 0 0 width (λ i h. rw zero-add (has_bit-cons_first width row rows i h)) ∙ count_by-bit_at width row (small 0 (omega arith)) in
    let others = count_by_alike all (has_bit width rows) (0 + width) 0 rest (λ i h. simp zero-add (has_bit-cons_others width row rows i some)) ∙ count_by-has_bit width some rows (λ k h. small (suc k) (omega arith)) in
    ap (λ n. count_by all (range_with_len 0 n)) parts ∙ count_by-range-+ all 0 width rest ∙ rw (first, others) (sym (sum_by-cons ones row rows))
