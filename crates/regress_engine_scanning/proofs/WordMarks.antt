-- Where words begin, told by marks of sixteen offsets.
use Rattle.std.specs.Prelude.{slice_index}
use Rattle.std.proofs.Common.{◌≡◌, ◌↔◌, ℕ, zero, suc, ◌+◌, ◌-◌, ◌<◌, ◌≤◌, ◌^◌, ◌⊎◌, inl, inr, Bool, true, false, not, List, length, slice_get, refl, sym, ap, ◌∙◌, arith, w64, bit_and, min}
use Rattle.std.specs.Int.{bit_at, bit_not}
use Rattle.std.proofs.lemmas.Bool.{cases_lt}
use Rattle.std.proofs.lemmas.Nat.Bits.{bit_at_and, bit_at_not, bit_at-lt}
use Rattle.regress_meaning.specs.Meaning.{is_some_and}
use Rattle.regress_engine_scanning.specs.NibbleSets.{nibble_set_contains}
use Rattle.regress_engine_scanning.specs.WordStarts.{passes_before, begins_word}
use Rattle.regress_engine_scanning.specs.declared.word_start.WordStart.{WordStart}
use Rattle.regress_engine_scanning.proofs.LandmarkLemmas.{both-parts}
use Rattle.regress_engine_scanning.proofs.ByteLemmas.{passes-there}

-- ---- tests

not-true : (b : Bool) → (b ≡ true → ⊥) → not b ≡ true
not-true true h = absurd (h refl)
not-true false h = refl

not-both : (b : Bool) → not b ≡ true → b ≡ true → ⊥
not-both true e h = absurd (cc)
not-both false e h = absurd (cc)

pub before-at : (test : ℕ → Bool) (bytes : List ℕ) (at : ℕ) → 0 < at → passes_before test bytes at ≡ is_some_and (slice_get bytes (at - 1)) test
before-at test bytes zero some = absurd (omega arith)
before-at test bytes (suc at) some = let e : at ≡ suc at - 1 = omega arith in ap (λ i. is_some_and (slice_get bytes i) test) e

pub word-parts : (word : WordStart) (bytes : List ℕ) (at : ℕ) → begins_word word bytes at ≡ true
    → (is_some_and (slice_get bytes at) (nibble_set_contains word.first) ≡ true) × (passes_before (nibble_set_contains word.word) bytes at ≡ true → ⊥)
word-parts word bytes at h = let parts = both-parts _ _ h in (parts.0, not-both _ parts.1)

pub word-all : (word : WordStart) (bytes : List ℕ) (at : ℕ) → is_some_and (slice_get bytes at) (nibble_set_contains word.first) ≡ true
    → (passes_before (nibble_set_contains word.word) bytes at ≡ true → ⊥) → begins_word word bytes at ≡ true
word-all word bytes at one front =
    let no_word = not-true (passes_before (nibble_set_contains word.word) bytes at) front in rw (one, no_word) refl

-- ---- sixteen at once

module _ (word : WordStart) (bytes : List ℕ) (from one front : ℕ) (some : 0 < from) (room : from + 16 ≤ length bytes) (small : front < 2 ^ 64)
    (first : (k : ℕ) → (bit_at one k ≡ 1) ↔ ((k < 16) × (nibble_set_contains word.first (slice_index bytes (from + k)) ≡ true)))
    (words : (k : ℕ) → (bit_at front k ≡ 1) ↔ ((k < 16) × (nibble_set_contains word.word (slice_index bytes (from - 1 + k)) ≡ true))) where
  there-first : (k : ℕ) → k < 16 → is_some_and (slice_get bytes (from + k)) (nibble_set_contains word.first) ≡ nibble_set_contains word.first (slice_index bytes (from + k))
  there-first k l = passes-there (nibble_set_contains word.first) bytes (from + k) (omega (arith, room, l))

  there-front : (k : ℕ) → k < 16 → passes_before (nibble_set_contains word.word) bytes (from + k) ≡ nibble_set_contains word.word (slice_index bytes (from - 1 + k))
  there-front k l =
      let e : from + k - 1 ≡ from - 1 + k = omega (arith, some) in
      before-at (nibble_set_contains word.word) bytes (from + k) (omega (arith, some)) ∙ passes-there (nibble_set_contains word.word) bytes (from + k - 1) (omega (arith, room, l, some))
      ∙ ap (λ i. nibble_set_contains word.word (slice_index bytes i)) e

  -- the marks tell where words begin so
  pub word-marks : (k : ℕ) → (bit_at (bit_and one (bit_not w64 front)) k ≡ 1) ↔ ((k < 16) × (begins_word word bytes (from + k) ≡ true))
  word-marks k = (there, back)
    where
      both : bit_at (bit_and one (bit_not w64 front)) k ≡ min (bit_at one k) (bit_at (bit_not w64 front) k)
      both = bit_at_and one (bit_not w64 front) k

      there : bit_at (bit_and one (bit_not w64 front)) k ≡ 1 → (k < 16) × (begins_word word bytes (from + k) ≡ true)
      there h =
          let a = (first k).0 (omega (arith, h, both, bit_at-lt one k)) in
          let l = a.0 in
          let c = bit_at_not w64 front k small (omega (arith, l)) in (
            l,
            word-all word bytes (from + k) (there-first k l ∙ a.1) (λ e. let set = (words k).1 (l, sym (there-front k l) ∙ e) in absurd (omega (arith, h, both, c, set))),
          )

      clear : (bit_at front k ≡ 1 → ⊥) → bit_at front k ≡ 0
      clear never = by_bit (cases_lt (bit_at front k) 1)
        where
          by_bit : (bit_at front k < 1) ⊎ (1 ≤ bit_at front k) → bit_at front k ≡ 0
          by_bit (inl none) = omega (arith, none)
          by_bit (inr set) = absurd (never (omega (arith, set, bit_at-lt front k)))

      back : (k < 16) × (begins_word word bytes (from + k) ≡ true) → bit_at (bit_and one (bit_not w64 front)) k ≡ 1
      back h =
          let l = h.0 in
          let parts = word-parts word bytes (from + k) h.1 in
          let a = (first k).1 (l, sym (there-first k l) ∙ parts.0) in
          let c = bit_at_not w64 front k small (omega (arith, l)) in
          let none = clear (λ set. parts.1 (there-front k l ∙ ((words k).0 set).1)) in
          omega (arith, both, a, c, none)
