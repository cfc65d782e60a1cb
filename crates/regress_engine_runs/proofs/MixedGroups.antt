-- Groups that are carried out of a lookaround, one by one.
use Rattle.std.specs.Prelude.{slice_set, get_or, nat_le, nat_lt}
use Rattle.std.proofs.Common.{◌≡◌, ℕ, zero, suc, ◌+◌, ◌<◌, ◌≤◌, ◌&&◌, true, false, List, [], ◌∷◌, length, if◌then◌else◌, refl, sym, ap, ap₂, ◌∙◌, arith}
use Rattle.std.proofs.lemmas.Bool.Decides.{nat_tests}
use Rattle.regress_engine_runs.specs.States.{Marks, mixed}

pub mixed-none : (i first last : ℕ) (new old : List Marks) → last ≤ first → mixed i first last new old ≡ old
mixed-none i first last new [] none = refl
mixed-none i first last [] (m ∷ old) none = ap (λ ms. m ∷ ms) (mixed-none (i + 1) first last [] old none)
mixed-none i first last (n ∷ new) (m ∷ old) none =
    let e : (nat_le first i && nat_lt i last) ≡ false = grind (arith, nat_tests) in
    ap₂ (λ b (ms : List Marks). (if b then n else m) ∷ ms) e (mixed-none (i + 1) first last new old none)

mixed-past : (i first last : ℕ) (new old : List Marks) → last ≤ i → mixed i first last new old ≡ old
mixed-past i first last new [] past = refl
mixed-past i first last [] (m ∷ old) past = ap (λ ms. m ∷ ms) (mixed-past (i + 1) first last [] old (omega (arith, past)))
mixed-past i first last (n ∷ new) (m ∷ old) past =
    let e : (nat_le first i && nat_lt i last) ≡ false = grind (arith, nat_tests) in
    ap₂ (λ b (ms : List Marks). (if b then n else m) ∷ ms) e (mixed-past (i + 1) first last new old (omega (arith, past)))

-- one more group
pub mixed-more : (i j g first : ℕ) (new old : List Marks) (d : Marks) → g ≡ i + j → first ≤ g → length new ≡ length old → j < length old
    → slice_set (mixed i first g new old) j (get_or new j d) ≡ mixed i first (g + 1) new old
mixed-more i j g first new [] d here from same room = absurd (omega (arith, room))
mixed-more i j g first [] (m ∷ old) d here from same room = absurd (omega (arith, same))
mixed-more i zero g first (n ∷ new) (m ∷ old) d here from same room =
    let e : (nat_le first i && nat_lt i (g + 1)) ≡ true = grind (arith, nat_tests) in
    ap₂ (λ b (ms : List Marks). (if b then n else m) ∷ ms) (sym e)
    (mixed-past (i + 1) first g new old (omega (arith, here)) ∙ sym (mixed-past (i + 1) first (g + 1) new old (omega (arith, here))))
mixed-more i (suc j) g first (n ∷ new) (m ∷ old) d here from same room =
    let e : nat_lt i g ≡ nat_lt i (g + 1) = grind (arith, nat_tests) in
    ap₂ (λ b (ms : List Marks). (if nat_le first i && b then n else m) ∷ ms) e
    (mixed-more (i + 1) j g first new old d (omega (arith, here)) from (omega (arith, same)) (omega (arith, room)))
