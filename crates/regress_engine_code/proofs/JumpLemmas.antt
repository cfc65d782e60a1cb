-- Jumps that are written when the end is known.
use Rattle.std.proofs.Common.{◌≡◌, ℕ, List, [], ◌∷◌, ◌++◌, All, refl, ap}
use Rattle.std.proofs.lemmas.List.Elements.{All-nil, All-cons, All-head, All-tail}
use Rattle.regress_engine_insn.specs.Instructions.{jump}
use Rattle.regress_engine_code.specs.Written.{Written, changed, closed}

-- the last jump is written first
pub closed-more : (js : List ℕ) (w : Written) (j to : ℕ) → closed w (js ++ j ∷ []) to ≡ closed (changed w j (jump to)) js to
closed-more [] w j to = refl
closed-more (k ∷ js) w j to = ap (λ (v : Written). changed v k (jump to)) (closed-more js w j to)

-- what holds of all holds of those in front
pub all-front : {A : Type 0} (P : A → Type 0) (xs ys : List A) → All P (xs ++ ys) → All P xs
all-front P [] ys all = All-nil P
all-front P (x ∷ xs) ys all = All-cons P x xs (All-head P x (xs ++ ys) all) (all-front P xs ys (All-tail P x (xs ++ ys) all))
