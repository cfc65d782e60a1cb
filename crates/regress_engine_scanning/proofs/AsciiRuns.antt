-- Runs of members of a set.
use Rattle.std.proofs.Common.{◌≡◌, ◌≢◌, ◌↔◌, ◌⊎◌, inl, inr, ℕ, ◌+◌, ◌^◌, ◌<◌, ◌≤◌, min, Bool, true, false, List, length, map, sym, ap, ◌∙◌, arith, slice_index, bit_xor, refl, w64}
use Rattle.std.specs.Int.{bit_at, trailing_zeros}
use Rattle.std.specs.Simd.Lanes.{mask_l, chunk}
use Rattle.std.proofs.lemmas.Bool.{cases_eq, cases_lt, true≢false}
use Rattle.std.proofs.lemmas.Nat.{xor_lt}
use Rattle.std.proofs.lemmas.Nat.Bits.{bit_at-lt, bit_at_ones, bit_at_ones_above, bit_at_xor}
use Rattle.regress_engine_scanning.specs.Runs.{IsRun}
use Rattle.regress_engine_scanning.specs.Units.{AreAscii}
use Rattle.regress_engine_scanning.proofs.MarkLemmas.{marked-inside, marked-least, unmarked}
use Rattle.regress_engine_scanning.proofs.ScanLemmas.{lane-marks, map-same, mask-small}

-- what has no member from 0x80 on has all below it
pub below-ascii : (contains : ℕ → Bool) → ((b : ℕ) → 0x80 ≤ b → contains b ≡ false) → AreAscii contains
below-ascii contains none b held = by_order (cases_lt b 0x80)
  where
    by_order : (b < 0x80) ⊎ (0x80 ≤ b) → b < 0x80
    by_order (inl low) = low
    by_order (inr past) = absurd (true≢false (sym held ∙ none b past))

-- one more member makes a run longer
pub one-more : (contains : ℕ → Bool) (units : List ℕ) (from at : ℕ) → ((k : ℕ) → from ≤ k → k < at → contains (slice_index units k) ≡ true) → contains (slice_index units at) ≡ true
    → (k : ℕ) → from ≤ k → k < at + 1 → contains (slice_index units k) ≡ true
one-more contains units from at before here k low high = by_order (cases_lt k at)
  where
    by_order : (k < at) ⊎ (at ≤ k) → contains (slice_index units k) ≡ true
    by_order (inl soon) = before k low soon
    by_order (inr late) = let e : k ≡ at = omega (arith, late, high) in ap (λ n. contains (slice_index units n)) e ∙ here

-- a unit that is no other is a member
no-other : (b : Bool) → ¬ (b ≡ false) → b ≡ true
no-other true never = refl
no-other false never = absurd (never refl)

-- the marks of some bytes are those of the units in their place
pub sixteen-masked : (test bits : ℕ → Bool) → ((b : ℕ) → test b ≡ bits b) → (bytes units : List ℕ) (m : ℕ) → map test bytes ≡ map test units → m ≡ mask_l (map bits bytes) → m ≡ mask_l (map test units)
sixteen-masked test bits same bytes units m narrowed mask = mask ∙ ap mask_l (map-same bits test (λ b. sym (same b)) bytes ∙ narrowed)

-- sixteen units at once: the marks of the members turned round
module _ (test : ℕ → Bool) (units : List ℕ) (at m : ℕ) (room : at + 16 ≤ length units) (mask : m ≡ mask_l (map test (chunk at 16 units))) where
  abbrev marks : (k : ℕ) → (bit_at m k ≡ 1) ↔ ((k < 16) × (test (slice_index units (at + k)) ≡ true))
  marks k = lane-marks test units at 16 m room (omega arith) mask k

  -- they tell the others
  others-told : (k : ℕ) → (bit_at (bit_xor m 65535) k ≡ 1) ↔ ((k < 16) × (test (slice_index units (at + k)) ≡ false))
  others-told k = (there (cases_lt k 16), λ h. back h (cases_eq (bit_at m k) 1))
    where
      one : test (slice_index units (at + k)) ≡ true → k < 16 → bit_at (bit_xor m 65535) k ≡ 1 → ⊥
      one e less h =
          let member = (marks k).1 (less, e) in let all = bit_at_ones 16 k less in let flipped = bit_at_xor m 65535 k in omega (arith, member, all, flipped, h)

      by_test : (b : Bool) → test (slice_index units (at + k)) ≡ b → k < 16 → bit_at (bit_xor m 65535) k ≡ 1 → b ≡ false
      by_test true e less h = absurd (one e less h)
      by_test false e less h = refl

      there : (k < 16) ⊎ (16 ≤ k) → bit_at (bit_xor m 65535) k ≡ 1 → (k < 16) × (test (slice_index units (at + k)) ≡ false)
      there (inl less) h = (less, by_test (test (slice_index units (at + k))) refl less h)
      there (inr past) h =
          let none = bit_at_ones_above 16 k past in
          let flipped = bit_at_xor m 65535 k in
          let few = bit_at-lt m k in
          let less = ((marks k).0 (omega (arith, none, flipped, few, h))).0 in absurd (omega (arith, less, past))

      back : (k < 16) × (test (slice_index units (at + k)) ≡ false) → (bit_at m k ≡ 1) ⊎ (bit_at m k ≢ 1) → bit_at (bit_xor m 65535) k ≡ 1
      back h (inl member) = absurd (true≢false (sym ((marks k).0 member).1 ∙ h.1))
      back h (inr other) =
          let all = bit_at_ones 16 k h.0 in let flipped = bit_at_xor m 65535 k in let few = bit_at-lt m k in omega (arith, all, flipped, few, other)

  module _ (from : ℕ) (low : from ≤ at) (before : (k : ℕ) → from ≤ k → k < at → test (slice_index units k) ≡ true) where
    abbrev is_other : ℕ → Type 0
    is_other k = test (slice_index units k) ≡ false

    abbrev small : bit_xor m 65535 < 2 ^ 64
    small = xor_lt 64 m 65535 (mask-small test units at 16 m room (omega arith) mask) (omega arith)

    abbrev members : (k : ℕ) → from ≤ k → k < at → ¬ is_other k
    members k least less other = true≢false (sym (before k least less) ∙ other)

    -- where none is other, all are members
    pub run-goes_on : bit_xor m 65535 ≡ 0 → (k : ℕ) → from ≤ k → k < at + 16 → test (slice_index units k) ≡ true
    run-goes_on none k least less =
        no-other _ (unmarked is_other 16 from at (bit_xor m 65535) low members others-told none k least less)

    -- where one is, it is one of the sixteen
    pub other-inside : 0 < bit_xor m 65535 → trailing_zeros w64 (bit_xor m 65535) < 16
    other-inside some = marked-inside is_other 16 from at (bit_xor m 65535) low members others-told some small

    -- and the run stops there or at its end
    pub run-stops : (end far : ℕ) → from ≤ end → 0 < bit_xor m 65535 → far ≡ min end (at + trailing_zeros w64 (bit_xor m 65535)) → IsRun test units from end far
    run-stops end far inside some e =
        let least = marked-least is_other 16 from at (bit_xor m 65535) low members others-told some small in
        let start = least.0 in
        record {
          low = omega (arith, inside, e, start);
          high = omega (arith, e);
          each = λ k low high. no-other _ (least.2 k low (omega (arith, high, e)));
          stops = λ less. let here : far ≡ at + trailing_zeros w64 (bit_xor m 65535) = omega (arith, e, less) in ap (λ n. test (slice_index units n)) here ∙ least.1;
        }
