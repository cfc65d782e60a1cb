-- The characters of units of UTF-16, from the first on.
use Rattle.std.proofs.Common.{◌≡◌, ◌<◌, ◌≤◌, ℕ, zero, Bool, true, false, List, [], ◌∷◌, length, drop, Option, Some, None, refl, sym, ap, ◌∙◌, arith}
use Rattle.regress_meaning.specs.Meaning.{Forward}
use Rattle.regress_meaning.specs.Tokens.{joined}
use Rattle.regress_meaning.specs.Inputs.{utf16_next}
use Rattle.regress_meaning.specs.Offsets.{characters}
use Rattle.regress_engine_input.proofs.Utf16Texts.{are_pair, characters-pair, characters-alone}

-- two finds are the same where their parts are
parts-same : (a b c d : ℕ) → ◌≡◌ {A = Option (ℕ × ℕ)} (Some (a, b)) (Some (c, d)) → (a ≡ c) × (b ≡ d)
parts-same a b c d e = let same : ◌≡◌ {A = ℕ × ℕ} (a, b) (c, d) = cc in (ap (λ (x : ℕ × ℕ). x.0) same, ap (λ (x : ℕ × ℕ). x.1) same)

-- the character at the front is the first, and behind it stand the others
pub characters-front : (units : List ℕ) (c next : ℕ) → utf16_next units Forward 0 ≡ Some (c, next)
    → (characters units ≡ c ∷ characters (drop next units)) × (zero < next) × (next ≤ length units)
unfolding characters
characters-front [] c next e = absurd (cc)
characters-front (u ∷ []) c next e = let (here, there) = parts-same u 1 c next e in (rw (sym here, sym there) refl, omega (arith, there), omega (arith, there))
characters-front (u ∷ v ∷ us) c next e = by_pair (are_pair u v) refl
  where
    by_pair : (b : Bool) → are_pair u v ≡ b → (characters (u ∷ v ∷ us) ≡ c ∷ characters (drop next (u ∷ v ∷ us))) × (zero < next) × (next ≤ length (u ∷ v ∷ us))
    by_pair true pair =
        let (here, there) = parts-same (joined u v) 2 c next (rw pair at e) in
        (rw (sym there) (characters-pair u v us pair ∙ ap (λ x. x ∷ characters us) here), omega (arith, there), omega (arith, there))
    by_pair false single =
        let (here, there) = parts-same u 1 c next (rw single at e) in
        (rw (sym there) (characters-alone u v us single ∙ ap (λ x. x ∷ characters (v ∷ us)) here), omega (arith, there), omega (arith, there))

-- where there is none at the front there is none at all
pub characters-none : (units : List ℕ) → utf16_next units Forward 0 ≡ None → characters units ≡ []
unfolding characters
characters-none [] e = refl
characters-none (u ∷ []) e = absurd (cc)
characters-none (u ∷ v ∷ us) e = absurd (cc)
