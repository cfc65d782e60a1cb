-- Where a search goes on behind a place.
use Rattle.std.proofs.Common.{◌≡◌, ◌∙◌, ◌+◌, ◌<◌, ◌≤◌, ◌==◌, ℕ, length, nat_lt, max, refl, sym, ap, inl, inr, arith}
use Rattle.std.specs.Prelude.{◌≢◌, Option, Some, None, option_map}
use Rattle.std.specs.declared.ops.Range.{Range}
use Rattle.std.proofs.lemmas.Bool.{cases_lt, cond_both, eqb-true, eqb-false}
use Rattle.std.proofs.lemmas.Str.{len_utf8_bounds}
use Rattle.regress_meaning.specs.Laws.{IsItemInside, OffsetsRise}
use Rattle.regress_meaning.specs.Matches.{Item, next_place}
use Rattle.regress_meaning.specs.Offsets.{Reading, Begins, offset, of_utf8, of_utf16, of_ucs2}
use Rattle.regress_meaning.proofs.OffsetLemmas.{rise}
use Rattle.regress_front_bytes.proofs.TextLemmas.{offset-le}
use Rattle.regress_calls.specs.declared.text.Text.{Text}
use Rattle.regress_calls.specs.declared.text.Text.TheVariants.{Utf8, Ascii, Utf16, Ucs2}
use Rattle.regress_match.specs.Views.{ends}
use Rattle.regress_calls.specs.Texts.{IsRangeOf, reading_of_text}

-- the offsets of a text rise
pub text-rises : (text : Text) → OffsetsRise (reading_of_text text)
text-rises (Utf8 text) = rise (of_utf8 text.now) (λ d. (len_utf8_bounds d).0)
text-rises (Ascii text) = rise (of_utf8 text.now) (λ d. (len_utf8_bounds d).0)
text-rises (Utf16 units) = rise (of_utf16 units.now) (λ d. cond_both (nat_lt d 0x1_0000) 1 2 (λ w. 1 ≤ w) (λ e. omega arith) (λ e. omega arith))
text-rises (Ucs2 units) = rise (of_ucs2 units.now) (λ d. omega arith)

-- no search may begin from one offset on and before another
abbrev pub NoStart : Reading → (from to : ℕ) → Type 0
NoStart r from to = (s place : ℕ) → from ≤ s → s < to → Begins r s place → ⊥

module _ (r : Reading) (rises : OffsetsRise r) where
  -- the first start behind a place is that of the next place
  pub next-found : (p next start place : ℕ) → p ≤ length r.points → offset r p < start → next ≤ offset r p + 1 → NoStart r next start
      → start < offset r (length r.points) → Begins r start place → Begins r start (p + 1)
  next-found p next start place within behind from none before (inr (past, end)) = absurd (omega (arith, before, end))
  next-found p next start place within behind from none before (inl (inside, here)) = elim (cases_lt p place) [
    | inr sooner ↦ let less = offset-le r place p sooner in absurd (omega (arith, less, here, behind))
    | inl later ↦ elim (cases_lt (p + 1) place) [
      | inl far ↦
          let one = rises p (p + 1) (omega arith) (omega (arith, far, inside)) in
          let two = rises (p + 1) place far inside in
          absurd (none (offset r (p + 1)) (p + 1) (omega (arith, one, from)) (omega (arith, two, here)) (inl (omega (arith, far, inside), refl)))
      | inr near ↦ let same : place ≡ p + 1 = omega (arith, near, later) in inl (omega (arith, same, inside), ap (offset r) (sym same) ∙ here)
    ]
  ]

  -- where there is none before the end, it is the end, or past it
  pub next-past : (p start : ℕ) → p ≤ length r.points → NoStart r (offset r p + 1) (offset r (length r.points))
      → start ≡ max (offset r p + 1) (offset r (length r.points)) → Begins r start (p + 1)
  next-past p start within none is = elim (cases_lt p (length r.points)) [
    | inr full ↦
        let same : p ≡ length r.points = omega (arith, within, full) in
        let here : offset r p ≡ offset r (length r.points) = ap (offset r) same in
        inr (omega (arith, same), omega (arith, is, here))
    | inl less ↦
        let one = rises p (p + 1) (omega arith) (omega (arith, less)) in
        let two = offset-le r (p + 1) (length r.points) (omega (arith, less)) in
        elim (cases_lt (offset r (p + 1)) (offset r (length r.points))) [
          | inl before ↦ absurd (none (offset r (p + 1)) (p + 1) (omega (arith, one)) before (inl (omega (arith, less), refl)))
          | inr end ↦ inl (omega (arith, less), omega (arith, is, one, two, end))
        ]
  ]

-- at the end, or past it, a search may begin
pub begins-past : (r : Reading) (next start : ℕ) → start ≡ max next (offset r (length r.points)) → (place : ℕ) × Begins r start place
begins-past r next start is = elim (cases_lt (offset r (length r.points)) next) [
  | inl past ↦ (length r.points + 1, inr (refl, omega (arith, is, past)))
  | inr end ↦ (length r.points, inl (omega arith, omega (arith, is, end)))
]

module _ (r : Reading) (rises : OffsetsRise r) (i : Item) (inside : IsItemInside r.points i) where
  -- behind an empty match a search goes on at the next place
  pub next-empty : offset r i.start ≡ offset r i.end → next_place i ≡ i.start + 1
  next-empty same =
      cond_both (i.start == i.end) (i.start + 1) i.end (λ n. n ≡ i.start + 1) (λ e. refl)
      (λ e. let other : i.start ≡ i.end → ⊥ = eqb-false _ _ e in let less = rises i.start i.end (omega (arith, other, inside.range.0)) inside.range.1 in absurd (omega (arith, less, same)))

  -- and behind another at its end
  pub next-other : offset r i.start ≢ offset r i.end → next_place i ≡ i.end
  next-other other =
      cond_both (i.start == i.end) (i.start + 1) i.end (λ n. n ≡ i.end)
      (λ e. let same : i.start ≡ i.end = eqb-true _ _ e in absurd (other (ap (offset r) same))) (λ e. refl)

-- both ends of an offset's pair, if there is one
abbrev start-of : Option (ℕ × ℕ) → ℕ
start-of None = 0
start-of (Some e) = e.0

abbrev end-of : Option (ℕ × ℕ) → ℕ
end-of None = 0
end-of (Some e) = e.1

-- the range of an item has the item's ends
pub ends-at : (r : Reading) (i : Item) (found : Option (Range ℕ)) (range : Range ℕ) → IsRangeOf r i found → found ≡ Some range
    → (range.start ≡ offset r i.start) × (range.end ≡ offset r i.end)
ends-at r i found range is some =
    let same : Some (ends range) ≡ Some (offset r i.start, offset r i.end) = ap (option_map ends) (sym some) ∙ is in (ap start-of same, ap end-of same)
