-- Groups that are taken from what is matched by itself.
use Rattle.std.specs.Prelude.{nat_le, nat_lt}
use Rattle.std.proofs.Common.{◌≡◌, ℕ, zero, suc, ◌+◌, ◌<◌, ◌≤◌, ◌&&◌, Bool, true, false, List, [], ◌∷◌, length, get_or, if◌then◌else◌, refl, sym, ap, ap₂, arith}
use Rattle.std.proofs.lemmas.Bool.{leb-true, le-leb, lt-ltb, ltb-true}
use Rattle.regress_engine_runs.specs.States.{Marks, mixed, unset}

-- groups that are taken over are those inside
pub mixed-outside : (first last i k : ℕ) (new old : List Marks) → (first ≤ i + k → i + k < last → ⊥) → get_or (mixed i first last new old) k unset ≡ get_or old k unset
mixed-outside first last i k new [] out = refl
mixed-outside first last i zero [] (m ∷ old) out = refl
mixed-outside first last i (suc k) [] (m ∷ old) out = mixed-outside first last (i + 1) k [] old (λ low high. out (omega (arith, low)) (omega (arith, high)))
mixed-outside first last i zero (n ∷ new) (m ∷ old) out = by_first (nat_le first i) (nat_lt i last) (λ low high. out (omega (arith, leb-true first i low)) (omega (arith, ltb-true i last high)))
  where
    by_first : (b c : Bool) → (b ≡ true → c ≡ true → ⊥) → (if b && c then n else m) ≡ m
    by_first true true never = absurd (never refl refl)
    by_first true false never = refl
    by_first false c never = refl
mixed-outside first last i (suc k) (n ∷ new) (m ∷ old) out = mixed-outside first last (i + 1) k new old (λ low high. out (omega (arith, low)) (omega (arith, high)))

pub mixed-length : (first last i : ℕ) (new old : List Marks) → length (mixed i first last new old) ≡ length old
mixed-length first last i new [] = refl
mixed-length first last i [] (m ∷ old) = ap suc (mixed-length first last (i + 1) [] old)
mixed-length first last i (n ∷ new) (m ∷ old) = ap suc (mixed-length first last (i + 1) new old)

-- where the others are as they were, all are
pub mixed-same : (first last i : ℕ) (new old : List Marks) → length new ≡ length old
    → ((k : ℕ) → (first ≤ i + k → i + k < last → ⊥) → get_or new k unset ≡ get_or old k unset) → mixed i first last new old ≡ new
mixed-same first last i [] [] count kept = refl
mixed-same first last i (n ∷ new) [] count kept = absurd (omega (arith, count))
mixed-same first last i [] (m ∷ old) count kept = absurd (omega (arith, count))
mixed-same first last i (n ∷ new) (m ∷ old) count kept =
    ap₂ (λ (x : Marks) (xs : List Marks). x ∷ xs) (by_first (nat_le first i) (nat_lt i last) (λ never. kept 0 (λ low high. never (le-leb first i (omega (arith, low))) (lt-ltb i last (omega (arith, high))))))
    (mixed-same first last (i + 1) new old (omega (arith, count)) (λ k out. kept (suc k) (λ low high. out (omega (arith, low)) (omega (arith, high)))))
  where
    by_first : (b c : Bool) → ((b ≡ true → c ≡ true → ⊥) → n ≡ m) → (if b && c then n else m) ≡ n
    by_first true true is = refl
    by_first true false is = sym (is (λ e f. cc f))
    by_first false c is = sym (is (λ e f. cc e))
