-- A text that takes at least one unit for each code point has a greater offset at a later place.
use Rattle.std.proofs.Common.{◌≡◌, ℕ, zero, suc, ◌+◌, ◌<◌, ◌≤◌, ◌⊎◌, length, get_or, inl, inr, ap, add-one, arith}
use Rattle.std.proofs.lemmas.Bool.{cases_lt}
use Rattle.std.proofs.lemmas.List.Sums.{sum_by_more}
use Rattle.regress_meaning.specs.Offsets.{Reading, offset}
use Rattle.regress_meaning.specs.Laws.{OffsetsRise}

-- one more place has a greater offset
offset_step : (r : Reading) → ((c : ℕ) → 1 ≤ r.width c) → (k : ℕ) → k < length r.points → offset r k < offset r (suc k)
offset_step r wide k inside =
    let e = rw add-one at (sum_by_more r.width r.points k 0 inside) in
    omega (arith, e, wide (get_or r.points k 0))

-- widths of at least one make offsets rise
pub rise : (r : Reading) → ((c : ℕ) → 1 ≤ r.width c) → OffsetsRise r
rise r wide p zero below inside = absurd (omega arith)
rise r wide p (suc q) below inside = go (cases_lt p q) (λ h. rise r wide p q h (omega arith)) (offset_step r wide q inside)
  where
    go : (p < q) ⊎ (q ≤ p) → (p < q → offset r p < offset r q) → offset r q < offset r (suc q)
        → offset r p < offset r (suc q)
    go (inl h) before here = omega (arith, before h)
    go (inr h) before here = let e : p ≡ q = omega arith in rw e here

-- offsets are at least as far apart as places
pub offsets-far : (reading : Reading) → OffsetsRise reading → (j a : ℕ) → a + j ≤ length reading.points → offset reading a + j ≤ offset reading (a + j)
offsets-far reading rise zero a room = let e : a + 0 ≡ a = omega arith in let f = ap (offset reading) e in omega (arith, f)
offsets-far reading rise (suc j) a room =
    let h = offsets-far reading rise j a (omega (arith, room)) in
    let k = rise (a + j) (a + suc j) (omega arith) room in
    omega (arith, h, k)
