-- What the words of a pattern are, where the parts that they are read by are known.
use Rattle.std.proofs.Common.{◌≡◌, ℕ, suc, ◌≤◌, ◌==◌, ◌&&◌, not, min, Bool, true, false, nat_lt, nat_le, nat_eq, List, [], ◌∷◌, ◌++◌, length, drop, Option, Some, None, refl, ◌∙◌, arith, eqb-true, eq-eqb}
use Rattle.std.specs.Prelude.{if◌then◌else◌, option_and_then, unwrap_or}
use Rattle.std.specs.List.{starts_with}
use Rattle.std.specs.Option.{option_or}
use Rattle.std.proofs.Math.Bool.{and-true}
use Rattle.std.proofs.lemmas.List.{drop-drop}
use Rattle.std.proofs.lemmas.Bool.{ne_eqb, cond_both}
use Rattle.std.proofs.lemmas.Bool.Decides.{nat_tests}
use Rattle.regress_meaning.specs.Text.{span, span_up_to, is_at, between}
use Rattle.regress_meaning.specs.Class.{is_digit}
use Rattle.regress_meaning.specs.Table.{last_code_point}
use Rattle.regress_meaning.specs.Tokens.{guard, is_octal, is_hex, is_low, joined, number_of, greatest, decimal_at, bounds, bounds_at, hex_at, low_half, pair_at, braces_at, unicode_escape, octal_at}
use Rattle.regress_front_tokens.specs.Readings.{IsReading}
use Rattle.regress_front_tokens.specs.Words.{count_at, braced_at}
use Rattle.regress_front_tokens.proofs.SpanLemmas.{span-joined, span_up_to-joined}

-- some are more than none
pub some_length : (n : ℕ) → nat_lt 0 n ≡ not (n == 0)
some_length n = grind (arith, nat_tests)

-- a front without members leaves the text
pub empty-front : (ds : List ℕ) {t rest : List ℕ} → ds ++ rest ≡ t → (length ds == 0) ≡ true → rest ≡ t
empty-front [] e h = e
empty-front (d ∷ ds) e h = let clash : suc (length ds) ≡ 0 = eqb-true _ _ h in absurd (omega arith)

pub count_at-none : (t : List ℕ) {ds rest : List ℕ} → span is_digit t ≡ (ds, rest) → (length ds == 0) ≡ true → (count_at t ≡ None) × (rest ≡ t)
unfolding decimal_at
count_at-none t {ds} {rest} e h = (rw (e, some_length, h) refl, empty-front ds (span-joined is_digit t ds rest e) h)

pub count_at-some : (t : List ℕ) {ds rest : List ℕ} → span is_digit t ≡ (ds, rest) → (length ds == 0) ≡ false → count_at t ≡ Some (min (number_of 10 ds) greatest, rest)
unfolding decimal_at
count_at-some t {ds} {rest} e h = rw (e, some_length, h) refl

-- exactly so many digits, or another number of them
pub hex_at-none : (n : ℕ) (t : List ℕ) {ds rest : List ℕ} → span_up_to n is_hex t ≡ (ds, rest) → (length ds ≡ n → ⊥) → hex_at n t ≡ None
unfolding hex_at
hex_at-none n t {ds} e other = rw (e, ne_eqb (length ds) n other) refl

pub hex_at-some : (n : ℕ) (t : List ℕ) {ds rest : List ℕ} → span_up_to n is_hex t ≡ (ds, rest) → length ds ≡ n → hex_at n t ≡ Some (number_of 16 ds, rest)
unfolding hex_at
hex_at-some n t {ds} e same = rw (e, eq-eqb (length ds) n same) refl

pub octal_at-none : (n : ℕ) (t : List ℕ) {ds rest : List ℕ} → (if is_at (between 0x30 0x33) t then 3 else 2) ≡ n → span_up_to n is_octal t ≡ (ds, rest) → (length ds == 0) ≡ true → (octal_at t ≡ None) × (rest ≡ t)
unfolding octal_at
octal_at-none n t {ds} {rest} m e none = (rw (m, e, some_length, none) refl, empty-front ds (span_up_to-joined n is_octal t ds rest e) none)

pub octal_at-some : (n : ℕ) (t : List ℕ) {ds rest : List ℕ} → (if is_at (between 0x30 0x33) t then 3 else 2) ≡ n → span_up_to n is_octal t ≡ (ds, rest) → (length ds == 0) ≡ false → octal_at t ≡ Some (number_of 8 ds, rest)
unfolding octal_at
octal_at-some n t {ds} {rest} m e some = rw (m, e, some_length, some) refl

-- the words, by whether the next code point is the one that they begin with
pub bounds_at-is : (t : List ℕ) → bounds_at t ≡ (
    if is_at (λ c. c == 0x2A) t then Some (bounds 0 greatest, drop 1 t)
    else if is_at (λ c. c == 0x2B) t then Some (bounds 1 greatest, drop 1 t)
    else if is_at (λ c. c == 0x3F) t then Some (bounds 0 1, drop 1 t)
    else if is_at (λ c. c == 0x7B) t then braced_at (drop 1 t)
    else None)
unfolding bounds_at
bounds_at-is [] = refl
bounds_at-is (c ∷ t) = refl

-- the first of four tests on its own
guard_first : {A : Type 0} (a b c d : Bool) (o : Option A) → guard (a && b && c && d) o ≡ guard a (guard (b && c && d) o)
guard_first true b c d o = refl
guard_first false b c d o = refl

pub braces_at-is : (t : List ℕ) → braces_at t ≡ guard (is_at (λ c. c == 0x7B) t) (
    let (ds, rest) = span is_hex (drop 1 t) in
    guard (nat_lt 0 (length ds) && is_at (λ d. d == 0x7D) rest && nat_le (number_of 16 ds) last_code_point) (Some (number_of 16 ds, drop 1 rest)))
unfolding braces_at
braces_at-is [] = refl
braces_at-is (c ∷ t) = guard_first (c == 0x7B) _ _ _ _

-- a test for equality, either way round
pub same_either_way : (a b : ℕ) → nat_eq a b ≡ (b == a)
same_either_way a b = grind (arith, nat_tests)

-- two characters, one behind the other
pub starts_with_two : (a b : ℕ) (t : List ℕ) → starts_with nat_eq t (a ∷ b ∷ []) ≡ (is_at (λ c. c == a) t && is_at (λ c. c == b) (drop 1 t))
starts_with_two a b [] = refl
starts_with_two a b (c ∷ []) = rw (same_either_way a c) refl
starts_with_two a b (c ∷ d ∷ t) = rw (same_either_way a c, same_either_way b d, and-true) refl

pub low_half-is : (high : ℕ) (t : List ℕ) → low_half high t ≡ guard (is_at (λ c. c == 0x5C) t && is_at (λ c. c == 0x75) (drop 1 t))
    (option_and_then (λ (low, r). guard (is_low low) (Some (joined high low, r))) (hex_at 4 (drop 1 (drop 1 t))))
unfolding low_half
low_half-is high t = rw (starts_with_two, drop-drop) refl

-- a half, and what was read behind it of another
pub pair-from_half : (high : ℕ) (t : List ℕ) (o : Option ℕ) (rest : List ℕ) → IsReading (λ c. c) (low_half high) t o rest → option_or (low_half high t) (Some (high, t)) ≡ Some (unwrap_or o high, rest)
pair-from_half high t None rest e = rw (e.0, e.1) refl
pair-from_half high t (Some c) rest e = rw e refl

-- a code point in braces, or else one by four digits
pub unicode_escape-else : (t u : List ℕ) (o : Option ℕ) (rest : List ℕ) → braces_at t ≡ None → u ≡ t → IsReading (λ c. c) pair_at u o rest → IsReading (λ c. c) unicode_escape t o rest
unfolding unicode_escape
unicode_escape-else t u None rest none same h = (rw (none, ← same) h.0, h.1 ∙ same)
unicode_escape-else t u (Some c) rest none same h = rw (none, ← same) h

pub unicode_escape-braced : (t : List ℕ) (o : Option ℕ) (rest : List ℕ) → (o ≡ None → ⊥) → IsReading (λ c. c) braces_at t o rest → IsReading (λ c. c) unicode_escape t o rest
unfolding unicode_escape
unicode_escape-braced t None rest some h = absurd (some refl)
unicode_escape-braced t (Some c) rest some h = rw h refl

-- an octal escape has at most three digits
pub octal_length-le : (t : List ℕ) (n : ℕ) → n ≡ (if is_at (between 0x30 0x33) t then 3 else 2) → n ≤ 3
octal_length-le t n e = rw e (cond_both (is_at (between 0x30 0x33) t) 3 2 (λ k. k ≤ 3) (λ _. omega arith) (λ _. omega arith))
