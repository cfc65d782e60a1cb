-- Elements of lists of which one is set.
use Rattle.std.specs.Prelude.{slice_get, slice_set}
use Rattle.std.proofs.Common.{◌≡◌, ℕ, zero, suc, ◌<◌, ◌≢◌, List, [], ◌∷◌, length, Some, refl, ap, arith}

pub get-set_same : {A : Type 0} (xs : List A) (k : ℕ) (x : A) → k < length xs → slice_get (slice_set xs k x) k ≡ Some x
get-set_same [] k x h = absurd (omega arith)
get-set_same (y ∷ xs) zero x h = refl
get-set_same (y ∷ xs) (suc k) x h = get-set_same xs k x (omega arith)

pub get-set_other : {A : Type 0} (xs : List A) (k j : ℕ) (x : A) → j ≢ k → slice_get (slice_set xs k x) j ≡ slice_get xs j
get-set_other [] k j x apart = refl
get-set_other (y ∷ xs) zero zero x apart = absurd (apart refl)
get-set_other (y ∷ xs) zero (suc j) x apart = refl
get-set_other (y ∷ xs) (suc k) zero x apart = refl
get-set_other (y ∷ xs) (suc k) (suc j) x apart = get-set_other xs k j x (λ e. apart (ap suc e))
