-- Where the places of a text lie.
use Rattle.std.proofs.Common.{◌≡◌, ◌⊎◌, inl, inr, ℕ, ◌<◌, ◌≤◌, length, ap, arith}
use Rattle.std.proofs.lemmas.Bool.{cases_lt}
use Rattle.regress_meaning.specs.Laws.{OffsetsRise}
use Rattle.regress_meaning.specs.Offsets.{Reading, offset}

-- a place lies in the text
pub place-inside : (reading : Reading) → OffsetsRise reading → (n : ℕ) → offset reading (length reading.points) ≡ n → (p : ℕ) → p ≤ length reading.points → offset reading p ≤ n
place-inside reading rise n last p room = by_place (cases_lt p (length reading.points))
  where
    by_place : (p < length reading.points) ⊎ (length reading.points ≤ p) → offset reading p ≤ n
    by_place (inl less) = let h = rise p (length reading.points) less (omega arith) in omega (arith, h, last)
    by_place (inr full) = let same : p ≡ length reading.points = omega arith in let h = ap (offset reading) same in omega (arith, h, last)
