-- What sixteen bytes are tested for at once.
use Rattle.std.specs.Prelude.{nat_eq}
use Rattle.std.proofs.Common.{◌≡◌, ℕ, ◌/◌, ◌%◌, ◌^◌, ◌<◌, ◌≤◌, ◌⊎◌, inl, inr, Bool, false, not, cond, List, length, take, get_or, map, replicate, refl, sym, ap, ◌∙◌, arith, w8, Fits, bit_and}
use Rattle.std.specs.Int.Bits.{and_zero_r}
use Rattle.std.specs.Simd.Lanes.{zip2, mask_l, top, Each1}
use Rattle.std.proofs.lemmas.Bool.{cases_lt, true≢false}
use Rattle.std.proofs.lemmas.Grind.{same_number_lists}
use Rattle.std.proofs.lemmas.List.{get_or-map, get_or_past, length-map}
use Rattle.std.proofs.lemmas.Nat.{and_mask}
use Rattle.std.proofs.lemmas.Simd.{SwzOk, SwzOk-from_below, Each1-from_get_or, Each1-get_or, length-zip2, get_or-zip2, get_or-replicate, get_or-chunk, length-swz_l, get_or-swz_l_below, swz_l, bitmask_splat, map-map}
use Rattle.regress_engine_scanning.specs.NibbleSets.{nibble_set_contains}
use Rattle.regress_engine_scanning.specs.Units.{AreAscii}
use Rattle.regress_engine_scanning.specs.declared.nibble_set.NibbleSet.{NibbleSet}

-- ---- halves of bytes

abbrev lows : List ℕ → List ℕ
lows v = zip2 bit_and v (replicate 16 15)

abbrev highs : List ℕ → List ℕ
highs v = zip2 (λ a b. a / 2 ^ b) v (replicate 16 4)

module _ (v : List ℕ) (long : length v ≡ 16) where
  length-lows : length (lows v) ≡ 16
  length-lows = omega (arith, long, length-zip2 bit_and v (replicate 16 15) long)

  length-highs : length (highs v) ≡ 16
  length-highs = omega (arith, long, length-zip2 (λ a b. a / 2 ^ b) v (replicate 16 4) long)

  low-at : (m : ℕ) → m < 16 → get_or (lows v) m 0 ≡ get_or v m 0 % 16
  low-at m l =
      get_or-zip2 bit_and v (replicate 16 15) m 0 0 0 (omega (arith, long)) l ∙ ap (bit_and (get_or v m 0)) (get_or-replicate 16 m 15 0 l) ∙ and_mask (get_or v m 0) 4

  high-at : (m : ℕ) → m < 16 → get_or (highs v) m 0 ≡ get_or v m 0 / 16
  high-at m l =
      get_or-zip2 (λ a b. a / 2 ^ b) v (replicate 16 4) m 0 0 0 (omega (arith, long)) l ∙ ap (λ b. get_or v m 0 / 2 ^ b) (get_or-replicate 16 m 4 0 l)

  low-small : (m : ℕ) → m < 16 → get_or (lows v) m 0 < 16
  low-small m l = let e = low-at m l in omega (arith, e)

  -- the halves may be looked up in tables of sixteen
  pub low-positions : SwzOk w8 16 16 0 (lows v)
  low-positions =
      SwzOk-from_below w8 16 1 16 0 (lows v) refl (omega (arith, length-lows)) (Each1-from_get_or (λ j. j < 16) (lows v) 0 (λ m l. low-small m (omega (arith, l, length-lows))))

  module _ (fit : Each1 (Fits w8) v) where
    high-small : (m : ℕ) → m < 16 → get_or (highs v) m 0 < 16
    high-small m l = let e = high-at m l in let f = (Each1-get_or (Fits w8) v m 0 (omega (arith, long, l)) fit).fits in omega (arith, e, f)

    pub high-positions : SwzOk w8 16 16 0 (highs v)
    high-positions =
        SwzOk-from_below w8 16 1 16 0 (highs v) refl (omega (arith, length-highs)) (Each1-from_get_or (λ j. j < 16) (highs v) 0 (λ m l. high-small m (omega (arith, l, length-highs))))

look-up : (table js : List ℕ) (m : ℕ) → length js ≡ 16 → m < 16 → get_or js m 0 < 16 → get_or (swz_l w8 16 (take 16 table) 0 js) m 0 ≡ get_or table (get_or js m 0) 0
look-up table js m long l small =
    get_or-swz_l_below w8 16 (take 16 table) 0 js m (omega (arith, long, l)) small ∙ ap (λ k. get_or (take 16 table) k 0) (omega (arith, l)) ∙ get_or-chunk 0 16 table (get_or js m 0) 0 small
    ∙ ap (λ k. get_or table k 0) (omega arith)

-- ---- marks of lanes

abbrev differs : ℕ → ℕ → Bool
differs a b = not (nat_eq a b)

abbrev tables_met : List ℕ → List ℕ → List ℕ → List ℕ
tables_met low high v = zip2 bit_and (swz_l w8 16 (take 16 low) 0 (lows v)) (swz_l w8 16 (take 16 high) 0 (highs v))

module _ (low high v : List ℕ) (long : length v ≡ 16) (fit : Each1 (Fits w8) v) where
  abbrev both : ℕ → ℕ
  both b = bit_and (get_or low (b % 16) 0) (get_or high (b / 16) 0)

  length-met : length (tables_met low high v) ≡ 16
  length-met =
      let a = length-swz_l w8 16 (take 16 low) 0 (lows v) ∙ length-lows v long in
      let b = length-swz_l w8 16 (take 16 high) 0 (highs v) ∙ length-highs v long in
      length-zip2 bit_and (swz_l w8 16 (take 16 low) 0 (lows v)) (swz_l w8 16 (take 16 high) 0 (highs v)) (a ∙ sym b) ∙ a

  met-at : (m : ℕ) → m < 16 → get_or (tables_met low high v) m 0 ≡ both (get_or v m 0)
  met-at m l =
      let a = length-swz_l w8 16 (take 16 low) 0 (lows v) ∙ length-lows v long in
      let b = length-swz_l w8 16 (take 16 high) 0 (highs v) ∙ length-highs v long in
      get_or-zip2 bit_and (swz_l w8 16 (take 16 low) 0 (lows v)) (swz_l w8 16 (take 16 high) 0 (highs v)) m 0 0 0 (omega (arith, a, l)) (omega (arith, b, l))
      ∙ ap (λ x. bit_and x (get_or (swz_l w8 16 (take 16 high) 0 (highs v)) m 0)) (look-up low (lows v) m (length-lows v long) l (low-small v long m l) ∙ ap (λ k. get_or low k 0) (low-at v long m l))
      ∙ ap (bit_and (get_or low (get_or v m 0 % 16) 0)) (look-up high (highs v) m (length-highs v long) l (high-small v long fit m l) ∙ ap (λ k. get_or high k 0) (high-at v long m l))

  met-is : tables_met low high v ≡ map both v
  met-is =
      same_number_lists (tables_met low high v) (map both v) (length-met ∙ sym (length-map v both ∙ long))
      (λ k l. met-at k (omega (arith, l, length-met)) ∙ sym (get_or-map both v k 0 0 (omega (arith, l, length-met, long))))

  -- the mask of lanes that are not 0 tells the members
  pub table-marks : mask_l (map (top 7) (zip2 (λ a b. cond (differs a b) 255 0) (tables_met low high v) (replicate 16 0))) % 2 ^ 64 ≡ mask_l (map (λ b. differs (both b) 0) v)
  table-marks =
      bitmask_splat w8 differs (tables_met low high v) 16 0 length-met (omega arith) ∙ ap mask_l (ap (map (λ x. differs x 0)) met-is ∙ map-map (λ x. differs x 0) both v)

-- the tables end at 256
pub tables-end : (low high : List ℕ) (b : ℕ) → length high ≡ 16 → ¬ (b < 256) → false ≡ differs (bit_and (get_or low (b % 16) 0) (get_or high (b / 16) 0)) 0
tables-end low high b size past =
    let none : get_or high (b / 16) 0 ≡ 0 = get_or_past high (b / 16) 0 (omega (arith, size, past)) in
    sym (ap (λ x. differs x 0) (ap (bit_and (get_or low (b % 16) 0)) none ∙ and_zero_r (get_or low (b % 16) 0)))

-- where no byte from 0x80 on is a member, all members are below it
pub low-members : (set : NibbleSet) → length set.high ≡ 16 → ((b : ℕ) → 0x80 ≤ b → b < 256 → nibble_set_contains set b ≡ false) → AreAscii (nibble_set_contains set)
low-members set size none b held = by_order (cases_lt b 0x80) (cases_lt b 256)
  where
    by_order : (b < 0x80) ⊎ (0x80 ≤ b) → (b < 256) ⊎ (256 ≤ b) → b < 0x80
    by_order (inl low) other = low
    by_order (inr past) (inl small) = absurd (true≢false (sym held ∙ none b past small))
    by_order (inr past) (inr beyond) = absurd (true≢false (sym held ∙ sym (tables-end set.low set.high b size (λ small. omega (arith, small, beyond)))))
