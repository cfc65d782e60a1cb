-- Where a search begins, and where it goes on.
use Rattle.std.proofs.Common.{◌≡◌, ℕ, ◌<◌, ◌≤◌, ◌⊎◌, inl, inr, leb, true, false, List, [], length, Option, Some, None, IfSome, refl, sym, ap, subst, ◌∙◌, arith}
use Rattle.std.proofs.lemmas.Bool.{cases_lt, le-leb, leb-true, false_from_ne_true}
use Rattle.std.proofs.lemmas.Str.{chars-encodes}
use Rattle.std.specs.Prelude.{IfNone, ◌≢◌}
use Rattle.std.specs.Str.{encode_utf8_all, all_scalars}
use Rattle.regress_meaning.specs.Matches.{Item}
use Rattle.regress_meaning.specs.Offsets.{offset, of_utf8, Begins}
use Rattle.regress_meaning.specs.Laws.{OffsetsRise}
use Rattle.regress_match.specs.TextRanges.{utf8_reading}
use Rattle.regress_match.specs.Iterating.{coming_on}
use Rattle.regress_front_bytes.proofs.TextLemmas.{offset-le}
use Rattle.regress_evaluator.specs.Searching.{place_within}

-- a test that fails on a greater number
lt-leb_false : (a b : ℕ) → b < a → leb a b ≡ false
lt-leb_false a b h = false_from_ne_true (leb a b) (λ yes. absurd (omega (arith, leb-true a b yes)))

-- a place of the text is within it
place_within-le : (n place : ℕ) → place ≤ n → place_within n place ≡ Some place
place_within-le n place h = rw (le-leb place n h) refl

place_within_past : (n place : ℕ) → n < place → place_within n place ≡ None
place_within_past n place h = rw (lt-leb_false place n h) refl

-- the place found at an offset is the one where a search begins that starts there
pub starts_at : (points : List ℕ) → all_scalars points ≡ true → ((bytes : List ℕ) → OffsetsRise (of_utf8 bytes)) → (at : ℕ) (n : ℕ) (found : Option ℕ)
    → n ≡ length points → IfSome found (λ p. (p ≤ n) × (offset (utf8_reading points) p ≡ at))
    → IfNone found ((p : ℕ) → p ≤ n → offset (utf8_reading points) p ≢ at)
    → (place : ℕ) → Begins (utf8_reading points) at place → found ≡ place_within (length points) place
starts_at points h rise at n found all there nowhere place begins = go found there nowhere begins
  where
    rises : OffsetsRise (utf8_reading points)
    rises = let P : List ℕ → Type 0 = λ ps. OffsetsRise (utf8_reading ps) in subst P (chars-encodes points h) (rise (encode_utf8_all points))

    same : (p : ℕ) → p ≤ length points → offset (utf8_reading points) p ≡ at → place ≤ length points → offset (utf8_reading points) place ≡ at → p ≡ place
    same p within here within' here' = order (cases_lt p place) (cases_lt place p)
      where
        order : (p < place) ⊎ (place ≤ p) → (place < p) ⊎ (p ≤ place) → p ≡ place
        order (inl below) b = absurd (omega (arith, rises p place below within'))
        order (inr a) (inl above) = absurd (omega (arith, rises place p above within))
        order (inr a) (inr b) = omega arith

    go : (o : Option ℕ) → IfSome o (λ p. (p ≤ n) × (offset (utf8_reading points) p ≡ at))
        → IfNone o ((p : ℕ) → p ≤ n → offset (utf8_reading points) p ≢ at)
        → Begins (utf8_reading points) at place → o ≡ place_within (length points) place
    go (Some p) there nowhere (inl (within, here)) =
        ap Some (same p (omega (arith, all, there.0)) there.1 within here) ∙ sym (place_within-le (length points) place within)
    go (Some p) there nowhere (inr (end, past)) =
        absurd (omega (arith, there.1, past, offset-le (utf8_reading points) p (length points) (omega (arith, all, there.0))))
    go None there nowhere (inl (within, here)) = absurd (nowhere place (omega (arith, all, within)) here)
    go None there nowhere (inr (end, past)) = sym (place_within_past (length points) place (omega arith))

-- what comes on from a place, if no item does past the end
pub coming_on_within : (items : ℕ → List Item) (n place : ℕ) → (n < place → items place ≡ []) → coming_on items (place_within n place) ≡ items place
coming_on_within items n place past = go (cases_lt n place)
  where
    go : (n < place) ⊎ (place ≤ n) → coming_on items (place_within n place) ≡ items place
    go (inl h) = ap (coming_on items) (place_within_past n place h) ∙ sym (past h)
    go (inr h) = ap (coming_on items) (place_within-le n place h)
