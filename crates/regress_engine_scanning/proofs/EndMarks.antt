-- Where a byte has another so far behind it, told by marks of many units, and what of a sequence its ends tell.
use Rattle.std.specs.Prelude.{slice_get}
use Rattle.std.specs.Int.{bit_at}
use Rattle.std.specs.Simd.Lanes.{mask_l, chunk}
use Rattle.std.proofs.Common.{◌≡◌, ◌↔◌, ℕ, zero, suc, ◌+◌, ◌-◌, ◌^◌, ◌<◌, ◌≤◌, true, List, [], ◌∷◌, length, map, take, drop, get_or, inl, inr, Option, Some, None, refl, sym, ap, ◌∙◌, arith, bit_and}
use Rattle.std.proofs.lemmas.Bool.{and_from, cases_lt, eq-eqb}
use Rattle.std.proofs.lemmas.Option.{slice_get-get_or}
use Rattle.std.proofs.lemmas.Nat.{and_le_l}
use Rattle.std.proofs.lemmas.Nat.Bits.{bit_at_and, bit_at-lt}
use Rattle.memchr.specs.Find.{is_byte}
use Rattle.regress_meaning.specs.Text.{holds}
use Rattle.regress_meaning.specs.Meaning.{is_some_and}
use Rattle.regress_engine_scanning.specs.Units.{has_ends}
use Rattle.regress_engine_scanning.proofs.ByteLemmas.{one-held, slice_get-behind}
use Rattle.regress_engine_scanning.proofs.LandmarkLemmas.{both-parts}
use Rattle.regress_engine_scanning.proofs.ScanLemmas.{mask-small, unit-marks}

-- a unit is the byte where it is of the set of that byte alone
held-one : (a : ℕ) (x : Option ℕ) → is_some_and x (holds (a ∷ [])) ≡ is_some_and x (is_byte a)
held-one a None = refl
held-one a (Some x) = sym (one-held (a ∷ []) refl x)

module _ (first last apart : ℕ) (units : List ℕ) (at one other : ℕ) (room : at + apart + 32 ≤ length units)
    (begun : one ≡ mask_l (map (holds (first ∷ [])) (chunk at 32 units))) (ended : other ≡ mask_l (map (holds (last ∷ [])) (chunk (at + apart) 32 units))) where
  next : (k : ℕ) → at + apart + k ≡ at + k + apart
  next k = omega arith

  -- the marks of both bytes, so far apart, tell where both stand
  pub end-marks : (k : ℕ) → (bit_at (bit_and one other) k ≡ 1) ↔ ((k < 32) × (has_ends first last apart units (at + k) ≡ true))
  end-marks k = (there, back)
    where
      begins : (bit_at one k ≡ 1) ↔ ((k < 32) × (is_some_and (slice_get units (at + k)) (holds (first ∷ [])) ≡ true))
      begins = unit-marks (holds (first ∷ [])) units at 32 one (omega (arith, room)) (omega arith) begun k

      ends : (bit_at other k ≡ 1) ↔ ((k < 32) × (is_some_and (slice_get units (at + apart + k)) (holds (last ∷ [])) ≡ true))
      ends = unit-marks (holds (last ∷ [])) units (at + apart) 32 other room (omega arith) ended k

      there : bit_at (bit_and one other) k ≡ 1 → (k < 32) × (has_ends first last apart units (at + k) ≡ true)
      there h =
          let both = bit_at_and one other k in
          let a = begins.0 (omega (arith, both, h, bit_at-lt one k, bit_at-lt other k)) in
          let b = ends.0 (omega (arith, both, h, bit_at-lt one k, bit_at-lt other k)) in (
            a.0,
            and_from _ _ (sym (held-one first (slice_get units (at + k))) ∙ a.1)
                (ap (λ i. is_some_and (slice_get units i) (is_byte last)) (sym (next k)) ∙ sym (held-one last (slice_get units (at + apart + k))) ∙ b.1),
          )

      back : (k < 32) × (has_ends first last apart units (at + k) ≡ true) → bit_at (bit_and one other) k ≡ 1
      back h =
          let parts = both-parts _ _ h.1 in
          let a = begins.1 (h.0, held-one first (slice_get units (at + k)) ∙ parts.0) in
          let b = ends.1 (h.0, held-one last (slice_get units (at + apart + k)) ∙ ap (λ i. is_some_and (slice_get units i) (is_byte last)) (next k) ∙ parts.1) in
          let both = bit_at_and one other k in omega (arith, both, a, b)

  pub ends-small : bit_and one other < 2 ^ 64
  ends-small = let small = mask-small (holds (first ∷ [])) units at 32 one (omega (arith, room)) (omega arith) begun in omega (arith, small, and_le_l one other)

-- what is taken is there
take-there : (xs : List ℕ) (n i : ℕ) → i < n → slice_get (take n xs) i ≡ slice_get xs i
take-there xs zero i less = absurd (omega (arith, less))
take-there [] (suc n) i less = refl
take-there (x ∷ xs) (suc n) zero less = refl
take-there (x ∷ xs) (suc n) (suc i) less = take-there xs n i (omega (arith, less))

-- where a sequence stands, two of its bytes do
pub sequence-ends : (bytes units : List ℕ) (k near far first last : ℕ) → near ≤ far → far < length bytes → first ≡ get_or bytes near 0 → last ≡ get_or bytes far 0
    → take (length bytes) (drop k units) ≡ bytes → has_ends first last (far - near) units (k + near) ≡ true
sequence-ends bytes units k near far first last order inside begins ends stands =
    let there : k + far ≡ k + near + (far - near) = omega (arith, order) in
    and_from _ _ (byte first near (omega (arith, order, inside)) begins)
    (ap (λ i. is_some_and (slice_get units i) (is_byte last)) (sym there) ∙ byte last far inside ends)
  where
    there : (i : ℕ) → i < length bytes → slice_get units (k + i) ≡ slice_get bytes i
    there i less = sym (slice_get-behind units k i) ∙ sym (take-there (drop k units) (length bytes) i less) ∙ ap (λ xs. slice_get xs i) stands

    byte : (b i : ℕ) → i < length bytes → b ≡ get_or bytes i 0 → is_some_and (slice_get units (k + i)) (is_byte b) ≡ true
    byte b i less e = ap (λ x. is_some_and x (is_byte b)) (there i less ∙ slice_get-get_or bytes i 0 less ∙ ap Some (sym e)) ∙ eq-eqb b b refl

-- a sequence and two of its bytes
module _ (bytes units : List ℕ) (near far first last : ℕ) (order : near ≤ far) (inside : far < length bytes) (begins : first ≡ get_or bytes near 0) (ends : last ≡ get_or bytes far 0) where
  abbrev stands_at : ℕ → Type 0
  stands_at k = take (length bytes) (drop k units) ≡ bytes

  abbrev meets : ℕ → Type 0
  meets k = has_ends first last (far - near) units k ≡ true

  -- where it stands nowhere up to an index, and the two nowhere behind before another, it stands nowhere before that
  pub none-before : (from at start : ℕ) → ((k : ℕ) → from ≤ k → k < at → ¬ stands_at k) → ((k : ℕ) → at + near ≤ k → k < start + near → ¬ meets k) → (k : ℕ) → from ≤ k → k < start → ¬ stands_at k
  none-before from at start before behind k low less stands =
      elim (cases_lt k at) [
        | inl soon ↦ before k low soon stands
        | inr late ↦ behind (k + near) (omega (arith, late)) (omega (arith, less)) (sequence-ends bytes units k near far first last order inside begins ends stands)
      ]
