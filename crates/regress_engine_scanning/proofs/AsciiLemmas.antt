-- Bytes below 0x80.
use Rattle.std.proofs.Common.{◌≡◌, ◌⊎◌, inl, inr, ℕ, zero, suc, ◌<◌, ◌≤◌, ◌||◌, Bool, true, false, List, [], ◌∷◌, length, All, refl, ap, subst, arith}
use Rattle.std.specs.Prelude.{◌==◌, ◌↔◌, slice_index}
use Rattle.std.specs.Str.{IsAscii, IsNotAscii}
use Rattle.std.specs.Bool.{IsTrue, MatchBool}
use Rattle.std.proofs.lemmas.Bool.{cases_lt, eq-eqb, eqb-true}
use Rattle.std.proofs.lemmas.List.{get_or_past}
use Rattle.std.proofs.lemmas.List.Elements.{All-head, All-tail, All-from_get_or}
use Rattle.regress_meaning.specs.Text.{holds}
use Rattle.regress_engine_scanning.specs.Units.{AreAscii}

pub first-held : (f : ℕ) (front : List ℕ) → holds (f ∷ front) f ≡ true
first-held f front = ap (λ t. t || holds front f) (eq-eqb f f refl)

pub rest-held : (f : ℕ) (front : List ℕ) (b : ℕ) → holds front b ≡ true → holds (f ∷ front) b ≡ true
rest-held f front b e = by_first (f == b) e
  where
    by_first : (t : Bool) → holds front b ≡ true → (t || holds front b) ≡ true
    by_first true e = refl
    by_first false e = e

-- what holds of each of some bytes holds of one of them
pub All-holds : (P : ℕ → Type 0) (bs : List ℕ) (c : ℕ) → All P bs → holds bs c ≡ true → P c
All-holds P [] c h e = absurd (cc)
All-holds P (b ∷ bs) c h e = by_first (b == c) refl e (All-holds P bs c (All-tail P b bs h))
  where
    by_first : (t : Bool) → (b == c) ≡ t → (t || holds bs c) ≡ true → (holds bs c ≡ true → P c) → P c
    by_first true same e rest = subst P (eqb-true b c same) (All-head P b bs h)
    by_first false same e rest = rest e

-- all of some bytes are below 0x80
pub ascii-held : (bs : List ℕ) → IsAscii bs → AreAscii (holds bs)
ascii-held bs low b e = All-holds (λ c. c < 0x80) bs b (All-from_get_or (λ c. c < 0x80) bs 0 (λ i room. low i)) e

-- a test of some bytes tells so
pub ascii-known : (bs : List ℕ) (r : Bool) → MatchBool r (IsAscii bs) (IsNotAscii bs) → IsTrue r ↔ AreAscii (holds bs)
ascii-known bs true low = (λ is. ascii-held bs low, λ all. refl)
ascii-known bs false (i, high) = (
  λ is. absurd (cc),
  λ all. absurd (let room = past-zero bs i high in let low = all (slice_index bs i) (held-at bs i room) in omega (arith, low, high)),
)
  where
    past-zero : (bs : List ℕ) (i : ℕ) → 128 ≤ slice_index bs i → i < length bs
    past-zero bs i high = by_order (cases_lt i (length bs))
      where
        by_order : (i < length bs) ⊎ (length bs ≤ i) → i < length bs
        by_order (inl less) = less
        by_order (inr past) = absurd (let none = get_or_past bs i 0 past in omega (arith, none, high))

    held-at : (bs : List ℕ) (i : ℕ) → i < length bs → holds bs (slice_index bs i) ≡ true
    held-at [] i room = absurd (omega (arith, room))
    held-at (b ∷ bs) zero room = first-held b bs
    held-at (b ∷ bs) (suc i) room = rest-held b bs (slice_index bs i) (held-at bs i (omega (arith, room)))
