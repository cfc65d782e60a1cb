-- The longest front of a text that passes a test, by its length.
use Rattle.std.proofs.Common.{◌≡◌, ℕ, zero, suc, ◌+◌, ◌-◌, min, ◌≤◌, Bool, true, false, not, cond, List, [], ◌∷◌, ◌++◌, length, take, drop, refl, sym, ap, subst, ◌∙◌, arith}
use Rattle.std.specs.List.{prefix_len, position_or_len, list_all}
use Rattle.std.proofs.lemmas.List.{take-append-drop, take_min, take_rest, drop-drop}
use Rattle.std.proofs.Math.Numerals.{one-add}
use Rattle.std.proofs.lemmas.Bool.{cond_both}
use Rattle.std.specs.Cmp.Derive.{both_true}
use Rattle.regress_meaning.specs.Text.{span, span_up_to}

-- a test twice turned round is the test
not_not : (b : Bool) → not (not b) ≡ b
not_not true = refl
not_not false = refl

-- what stands before the first that fails is the front that passes
pub position_or_len-not : (test : ℕ → Bool) (t : List ℕ) → position_or_len (λ c. not (test c)) t ≡ prefix_len test t
position_or_len-not test [] = refl
position_or_len-not test (c ∷ t) = rw (not_not, position_or_len-not test t) refl

-- a text cut behind its first n code points
abbrev Cut : List ℕ → ℕ → List ℕ × List ℕ
Cut t n = (take n t, drop n t)

-- the cut behind one more, or before all
cut-cons : (b : Bool) (n c : ℕ) (t : List ℕ) → cond b (c ∷ take n t, drop n t) ([], c ∷ t) ≡ Cut (c ∷ t) (cond b (1 + n) 0)
cut-cons true n c t = rw one-add refl
cut-cons false n c t = refl

-- that front, and the rest
pub span-is : (test : ℕ → Bool) (t : List ℕ) → span test t ≡ Cut t (prefix_len test t)
unfolding span
span-is test [] = refl
span-is test (c ∷ t) = rw (span-is test t) (cut-cons (test c) (prefix_len test t) c t)

-- the same of the front of so many
pub span_up_to-is : (n : ℕ) (test : ℕ → Bool) (t : List ℕ) → span_up_to n test t ≡ Cut t (prefix_len test (take n t))
unfolding span_up_to
span_up_to-is zero test t = refl
span_up_to-is (suc n) test [] = refl
span_up_to-is (suc n) test (c ∷ t) = rw (span_up_to-is n test t) (cut-cons (test c) (prefix_len test (take n t)) c t)

-- of a text from i on, the front that passes, and the rest
pub span-unread : (test : ℕ → Bool) (xs : List ℕ) (i n : ℕ) → let rest = take (length xs - i) (drop i xs) in n ≡ prefix_len test rest → span test (drop i xs) ≡ (take n rest, drop (i + n) xs)
span-unread test xs i n e =
    let whole = take_rest xs i in
    let count : n ≡ prefix_len test (drop i xs) = e ∙ ap (prefix_len test) whole in
    rw (whole, count, span-is, ← (drop-drop (prefix_len test (drop i xs)) i xs)) refl

-- the same of the front of so many
pub span_up_to-unread : (most m : ℕ) (test : ℕ → Bool) (xs : List ℕ) (i n : ℕ) →
    let rest = take (length xs - i) (drop i xs) in
    m ≡ min most (length rest) → n ≡ prefix_len test (take m rest) → span_up_to most test (drop i xs) ≡ (take n rest, drop (i + n) xs)
span_up_to-unread most m test xs i n least e =
    let whole = take_rest xs i in
    let rest = drop i xs in
    let limit : m ≡ min most (length rest) = least ∙ ap (λ (t : List ℕ). min most (length t)) whole in
    let count : n ≡ prefix_len test (take most rest) = e ∙ ap (λ (t : List ℕ). prefix_len test (take m t)) whole ∙ ap (λ k. prefix_len test (take k rest)) limit ∙ ap (prefix_len test) (take_min most rest) in
    rw (whole, count, span_up_to-is, ← (drop-drop (prefix_len test (take most rest)) i xs)) refl

-- the front and the rest make up the text
pub cut-joined : (t ds rest : List ℕ) (n : ℕ) → Cut t n ≡ (ds, rest) → ds ++ rest ≡ t
cut-joined t ds rest n e = ap (λ (p : List ℕ × List ℕ). p.0 ++ p.1) (sym e) ∙ take-append-drop n t

pub span-joined : (test : ℕ → Bool) (t ds rest : List ℕ) → span test t ≡ (ds, rest) → ds ++ rest ≡ t
span-joined test t ds rest e = cut-joined t ds rest (prefix_len test t) (sym (span-is test t) ∙ e)

pub span_up_to-joined : (n : ℕ) (test : ℕ → Bool) (t ds rest : List ℕ) → span_up_to n test t ≡ (ds, rest) → ds ++ rest ≡ t
span_up_to-joined n test t ds rest e = cut-joined t ds rest (prefix_len test (take n t)) (sym (span_up_to-is n test t) ∙ e)

-- each of that front passes
span-all : (test : ℕ → Bool) (t : List ℕ) → list_all test (span test t).0 ≡ true
unfolding span
span-all test [] = refl
span-all test (c ∷ t) =
    let h = span-all test t in
    cond_both (test c) _ _ (λ (p : List ℕ × List ℕ). list_all test p.0 ≡ true) (λ e. both_true e h) (λ e. refl)

span_up_to-all : (n : ℕ) (test : ℕ → Bool) (t : List ℕ) → list_all test (span_up_to n test t).0 ≡ true
unfolding span_up_to
span_up_to-all zero test t = refl
span_up_to-all (suc n) test [] = refl
span_up_to-all (suc n) test (c ∷ t) =
    let h = span_up_to-all n test t in
    cond_both (test c) _ _ (λ (p : List ℕ × List ℕ). list_all test p.0 ≡ true) (λ e. both_true e h) (λ e. refl)

-- a fact of the front, where the front has a name
along : (P : List ℕ → Type 0) {cut : List ℕ × List ℕ} {ds rest : List ℕ} → cut ≡ (ds, rest) → P cut.0 → P ds
along P e h = subst P (ap (λ (p : List ℕ × List ℕ). p.0) e) h

pub span-passes : (test : ℕ → Bool) (t : List ℕ) {ds rest : List ℕ} → span test t ≡ (ds, rest) → list_all test ds ≡ true
span-passes test t e = along (λ ds. list_all test ds ≡ true) e (span-all test t)

pub span_up_to-passes : (n : ℕ) (test : ℕ → Bool) (t : List ℕ) {ds rest : List ℕ} → span_up_to n test t ≡ (ds, rest) → list_all test ds ≡ true
span_up_to-passes n test t e = along (λ ds. list_all test ds ≡ true) e (span_up_to-all n test t)

-- the front of so many is no longer
length-span_up_to-le : (n : ℕ) (test : ℕ → Bool) (t : List ℕ) → length (span_up_to n test t).0 ≤ n
unfolding span_up_to
length-span_up_to-le zero test t = omega arith
length-span_up_to-le (suc n) test [] = omega arith
length-span_up_to-le (suc n) test (c ∷ t) =
    let h = length-span_up_to-le n test t in
    cond_both (test c) _ _ (λ (p : List ℕ × List ℕ). length p.0 ≤ suc n) (λ e. omega arith) (λ e. omega arith)

pub span_up_to-short : (n : ℕ) (test : ℕ → Bool) (t : List ℕ) {ds rest : List ℕ} → span_up_to n test t ≡ (ds, rest) → length ds ≤ n
span_up_to-short n test t e = along (λ ds. length ds ≤ n) e (length-span_up_to-le n test t)
