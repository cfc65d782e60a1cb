-- The characters of ASCII of classes, told by sets.
use Rattle.std.specs.List.{AllZip}
use Rattle.std.proofs.Common.{◌≡◌, ◌<◌, ℕ, zero, suc, Bool, List, [], ◌∷◌, length, get_or, sym, subst, arith}
use Rattle.std.proofs.lemmas.Slice.Zip.{AllZip-long}
use Rattle.regress_front_bytes.specs.declared.bitmaps.AsciiBitmap.{AsciiBitmap}
use Rattle.regress_engine_code.specs.Told.{HasAscii, AreToldAscii}

-- each set has those of its class
told-at : (classes : List (Bool × List (ℕ × ℕ))) (told : List AsciiBitmap) → AllZip HasAscii classes told → (k : ℕ) → k < length classes
    → (class : Bool × List (ℕ × ℕ)) (ascii : AsciiBitmap) → class ≡ get_or classes k class → ascii ≡ get_or told k ascii → HasAscii class ascii
told-at [] told all k inside class ascii is js = absurd (omega (arith, inside))
told-at (x ∷ xs) [] all k inside class ascii is js = absurd all
told-at (x ∷ xs) (b ∷ bs) all zero inside class ascii is js = subst (HasAscii class) (sym js) (subst (λ (y : Bool × List (ℕ × ℕ)). HasAscii y b) (sym is) all.0)
told-at (x ∷ xs) (b ∷ bs) all (suc k) inside class ascii is js = told-at xs bs all.1 k (omega (arith, inside)) class ascii is js

-- so they are told
pub told-each : (classes : List (Bool × List (ℕ × ℕ))) (told : List AsciiBitmap) → AllZip HasAscii classes told → AreToldAscii classes told
told-each classes told all = record { count = AllZip-long HasAscii classes told all; each = told-at classes told all }
