-- What the marks of so many offsets tell, a bit for each.
use Rattle.std.proofs.Common.{◌≡◌, ◌↔◌, ℕ, ◌+◌, ◌-◌, ◌^◌, ◌<◌, ◌≤◌, ◌⊎◌, inl, inr, Some, ap, subst, ◌∙◌, arith, w64}
use Rattle.std.specs.Int.{bit_at, trailing_zeros}
use Rattle.std.proofs.lemmas.Bool.{cases_lt}
use Rattle.std.proofs.lemmas.Nat.Bits.{bit_at-zero, bit_at-trailing_zeros}
use Rattle.regress_engine_scanning.specs.Least.{IsLeast}

module _ (P : ℕ → Type 0) (width offset from marked : ℕ) (low : offset ≤ from) (before : (k : ℕ) → offset ≤ k → k < from → ¬ P k)
    (tells : (k : ℕ) → (bit_at marked k ≡ 1) ↔ ((k < width) × P (from + k))) where
  -- the lowest mark is the least offset
  pub marked-least : 0 < marked → marked < 2 ^ 64 → IsLeast P offset (Some (from + trailing_zeros w64 marked))
  marked-least some fits =
      let (below, set, clear) = bit_at-trailing_zeros w64 marked some fits in
      let at = trailing_zeros w64 marked in (
        omega (arith, low),
        ((tells at).0 set).1,
        λ k least under p. by_order at set clear k least under p (cases_lt k from),
      )
    where
      by_order : (at : ℕ) → bit_at marked at ≡ 1 → ((i : ℕ) → i < at → bit_at marked i ≡ 0) → (k : ℕ) → offset ≤ k → k < from + at → P k → (k < from) ⊎ (from ≤ k) → ⊥
      by_order at set clear k least under p (inl soon) = before k least soon p
      by_order at set clear k least under p (inr late) =
          let e : k ≡ from + (k - from) = omega (arith, late) in
          let inside = ((tells at).0 set).0 in
          let one = (tells (k - from)).1 (omega (arith, late, under, inside), subst P e p) in
          let none = clear (k - from) (omega (arith, late, under)) in
          absurd (omega (arith, one, none))

  -- and it is one of so many
  pub marked-inside : 0 < marked → marked < 2 ^ 64 → trailing_zeros w64 marked < width
  marked-inside some fits = let (below, set, clear) = bit_at-trailing_zeros w64 marked some fits in ((tells (trailing_zeros w64 marked)).0 set).0

  -- with no mark there is none of them
  pub unmarked : marked ≡ 0 → (k : ℕ) → offset ≤ k → k < from + width → ¬ P k
  unmarked none k least under p = by_order (cases_lt k from)
    where
      by_order : (k < from) ⊎ (from ≤ k) → ⊥
      by_order (inl soon) = before k least soon p
      by_order (inr late) =
          let e : k ≡ from + (k - from) = omega (arith, late) in
          let one = (tells (k - from)).1 (omega (arith, late, under), subst P e p) in
          let clear = ap (λ m. bit_at m (k - from)) none ∙ bit_at-zero (k - from) in
          absurd (omega (arith, one, clear))
