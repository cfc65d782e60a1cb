-- The words of a pattern, read at the front of a text of code points, give code points, and leave a text of code points.
use Rattle.std.specs.Prelude.{if◌then◌else◌}
use Rattle.std.proofs.Common.{◌≡◌, ℕ, zero, suc, ◌+◌, ◌*◌, ◌^◌, ◌<◌, ◌≤◌, Bool, true, ◌==◌, ◌||◌, ◌&&◌, not, nat_eq, nat_lt, nat_le, List, [], ◌∷◌, length, drop, Option, is_some, All, fold, arith, leb-true}
use Rattle.std.specs.List.{starts_with, AllByRecursion}
use Rattle.std.proofs.Math.Nat.{pow-zero, pow-suc, one-mul, mul_assoc, mod-le, pow-le-pow_right}
use Rattle.std.proofs.lemmas.Nat.{mul-add-lt}
use Rattle.std.proofs.lemmas.Bool.{cond_both, and_parts}
use Rattle.std.proofs.lemmas.Bool.Decides.{nat_tests}
use Rattle.std.proofs.lemmas.List.Elements.{All-nil, All-cons, All-append, All-from_recursion}
use lib.Chars.{codes}
use Rattle.regress_meaning.proofs.Inversion.{Gives, gives-none, gives-some, gives-if, gives-guard, gives-or, gives-map, gives-then}
use Rattle.regress_meaning.specs.Text.{between, ◌∈◌, is_at, span, span_up_to}
use Rattle.regress_meaning.specs.Table.{Table, last_code_point}
use Rattle.regress_meaning.specs.TableParts.{is_code_point}
use Rattle.regress_meaning.specs.Class.{is_digit, is_letter, is_ascii_word}
use Rattle.regress_meaning.specs.Points.{ClassIsOfPoints, IsOfPoints}
use Rattle.regress_meaning.specs.Tokens.{Mode, guard, is_octal, is_hex, digit_value, number_of, is_high, is_low, joined, begins_name, continues_name, numbers_from, as_point, class_letter, control, property_of, bounds_at, braced_end, decimal_at, hex_at, low_half, pair_at, braces_at, unicode_escape, octal_at, name_point, name_rest, name_at, key_at, Escape, property_at, named_reference, octal_or_digit, decimal_escape, control_letter, identity, escape_at, class_escape_at}
use Rattle.regress_meaning.specs.Grammar.{tree_of}

-- a text of code points
abbrev pub ArePoints : List ℕ → Type 0
ArePoints t = AllByRecursion is_code_point t

-- Q holds of what was read, and what is left is a text of code points
abbrev pub GivesPoints : {A : Type 0} → (A → Type 0) → Option (A × List ℕ) → Type 0
GivesPoints Q o = Gives (λ p. Q p.0 × ArePoints p.1) o

-- what is left is a text of code points
abbrev pub LeavesPoints : {A : Type 0} → Option (A × List ℕ) → Type 0
LeavesPoints o = GivesPoints (λ x. Unit {0}) o

pub drop-points : (n : ℕ) (t : List ℕ) → ArePoints t → ArePoints (drop n t)
drop-points zero t h = h
drop-points (suc n) [] h = tt
drop-points (suc n) (c ∷ t) h = drop-points n t h.1

pub span-points : (test : ℕ → Bool) (t : List ℕ) → ArePoints t → ArePoints (span test t).0 × ArePoints (span test t).1
unfolding span
span-points test [] h = (tt, tt)
span-points test (c ∷ t) h =
    let rest = span-points test t h.1 in
    cond_both (test c) _ _ (λ (p : List ℕ × List ℕ). ArePoints p.0 × ArePoints p.1)
    (λ _. ((h.0, rest.0), rest.1)) (λ _. (tt, h))

span_up_to-points : (n : ℕ) (test : ℕ → Bool) (t : List ℕ) → ArePoints t → ArePoints (span_up_to n test t).1
unfolding span_up_to
span_up_to-points zero test t h = h
span_up_to-points (suc n) test [] h = tt
span_up_to-points (suc n) test (c ∷ t) h =
    let rest = span_up_to-points n test t h.1 in
    cond_both (test c) _ _ (λ (p : List ℕ × List ℕ). ArePoints p.1) (λ _. rest) (λ _. h)

-- digits of a radix
abbrev Digits : ℕ → List ℕ → Type 0
Digits radix cs = AllByRecursion (λ c. digit_value c < radix) cs

-- a test that digits of the radix alone pass
abbrev OnlyDigits : ℕ → (ℕ → Bool) → Type 0
OnlyDigits radix test = (c : ℕ) → test c ≡ true → digit_value c < radix

span_up_to-digits : (radix n : ℕ) (test : ℕ → Bool) → OnlyDigits radix test → (t : List ℕ)
    → Digits radix (span_up_to n test t).0 × (length (span_up_to n test t).0 ≤ n)
unfolding span_up_to
span_up_to-digits radix zero test h t = (tt, omega arith)
span_up_to-digits radix (suc n) test h [] = (tt, omega arith)
span_up_to-digits radix (suc n) test h (c ∷ t) =
    let rest = span_up_to-digits radix n test h t in
    cond_both (test c) _ _ (λ (p : List ℕ × List ℕ). Digits radix p.0 × (length p.0 ≤ suc n))
    (λ e. ((h c e, rest.0), omega (arith, rest.1))) (λ _. (tt, omega arith))

-- digits behind a number below m write a number below m times a power of the radix
digits-below : (radix n m : ℕ) (cs : List ℕ) → n < m → Digits radix cs
    → fold (λ k c. k * radix + digit_value c) n cs < radix ^ length cs * m
digits-below radix n m [] h d = rw (pow-zero radix, one-mul m) h
digits-below radix n m (c ∷ cs) h d =
    let more = digits-below radix (n * radix + digit_value c) (radix * m) cs (mul-add-lt n radix (digit_value c) m h d.0) d.1 in
    rw (pow-suc radix (length cs), mul_assoc (radix ^ length cs) radix m) more

-- a number of at most k digits
number_of-below : (radix k : ℕ) (cs : List ℕ) → 0 < radix → length cs ≤ k → Digits radix cs → number_of radix cs < radix ^ k
number_of-below radix k cs pos short d =
    omega (arith, digits-below radix 0 1 cs (omega arith) d, pow-le-pow_right pos short)

hex-digits : OnlyDigits 16 is_hex
hex-digits c e = grind (arith, nat_tests)

octal-digits : OnlyDigits 8 is_octal
octal-digits c e = grind (arith, nat_tests)

hex-points : (n : ℕ) (t : List ℕ) → n ≤ 4 → ArePoints t → GivesPoints is_code_point (hex_at n t)
unfolding hex_at
hex-points n t few h =
    let d = span_up_to-digits 16 n is_hex hex-digits t in
    gives-guard (length (span_up_to n is_hex t).0 == n) (λ _. gives-some (
      omega (arith, number_of-below 16 4 (span_up_to n is_hex t).0 (omega arith) (omega (arith, d.1)) d.0),
      span_up_to-points n is_hex t h,
    ))

joined-point : (high low : ℕ) → is_high high ≡ true → is_low low ≡ true → is_code_point (joined high low)
joined-point high low e f =
    let a = leb-true high 0xDBFF (and_parts (nat_le 0xD800 high) _ e).1 in
    let b = leb-true low 0xDFFF (and_parts (nat_le 0xDC00 low) _ f).1 in
    omega (arith, a, b)

low_half-points : (high : ℕ) (t : List ℕ) → is_high high ≡ true → ArePoints t → GivesPoints is_code_point (low_half high t)
unfolding low_half
low_half-points high t e h = gives-guard (starts_with nat_eq t (codes "\\u")) (λ _.
    gives-then _ (hex_at 4 (drop 2 t)) (hex-points 4 (drop 2 t) (omega arith) (drop-points 2 t h))
    (λ p k. gives-guard (is_low p.0) (λ f. gives-some (joined-point high p.0 e f, k.1))))

pair-points : (t : List ℕ) → ArePoints t → GivesPoints is_code_point (pair_at t)
unfolding pair_at
pair-points t h = gives-then _ (hex_at 4 t) (hex-points 4 t (omega arith) h)
    (λ p k. gives-or (guard (is_high p.0) (low_half p.0 p.1))
    (gives-guard (is_high p.0) (λ e. low_half-points p.0 p.1 e k.1))
    (gives-some k))

braces-points : (t : List ℕ) → ArePoints t → GivesPoints is_code_point (braces_at t)
unfolding braces_at
braces-points [] h = gives-none
braces-points (c ∷ t) h =
    let ds = (span is_hex t).0 in let rest = (span is_hex t).1 in
    let before = c == 0x7B && nat_lt 0 (length ds) && is_at (λ d. d == 0x7D) rest in
    gives-guard (before && nat_le (number_of 16 ds) last_code_point) (λ e. gives-some (
      leb-true _ _ (and_parts before _ e).1,
      drop-points 1 rest (span-points is_hex t h.1).1,
    ))

unicode_escape-points : (t : List ℕ) → ArePoints t → GivesPoints is_code_point (unicode_escape t)
unfolding unicode_escape
unicode_escape-points t h = gives-or (braces_at t) (braces-points t h) (pair-points t h)

octal-points : (t : List ℕ) → ArePoints t → GivesPoints is_code_point (octal_at t)
unfolding octal_at
octal-points t h =
    let n : ℕ = if is_at (between 0x30 0x33) t then 3 else 2 in
    let d = span_up_to-digits 8 n is_octal octal-digits t in
    let few : n ≤ 3 = cond_both (is_at (between 0x30 0x33) t) 3 2 (λ k. k ≤ 3) (λ _. omega arith) (λ _. omega arith) in
    gives-guard (nat_lt 0 (length (span_up_to n is_octal t).0)) (λ _. gives-some (
      omega (arith, number_of-below 8 3 (span_up_to n is_octal t).0 (omega arith) (omega (arith, few, d.1)) d.0),
      span_up_to-points n is_octal t h,
    ))

decimal-points : (t : List ℕ) → ArePoints t → LeavesPoints (decimal_at t)
unfolding decimal_at
decimal-points t h = gives-guard (nat_lt 0 (length (span is_digit t).0)) (λ _. gives-some (tt, (span-points is_digit t h).1))

braced_end-points : (n : ℕ) (t : List ℕ) → ArePoints t → LeavesPoints (braced_end n t)
braced_end-points n [] h = gives-none
braced_end-points n (c ∷ t) h =
    gives-if (c == 0x7D) (λ _. gives-some (tt, h.1)) (λ _.
    gives-if (not (c == 0x2C)) (λ _. gives-none) (λ _.
    gives-if (is_at (λ d. d == 0x7D) t) (λ _. gives-some (tt, drop-points 1 t h.1)) (λ _.
    gives-then _ (decimal_at t) (decimal-points t h.1)
    (λ p k. gives-guard (is_at (λ d. d == 0x7D) p.1) (λ _. gives-some (tt, drop-points 1 p.1 k.1))))))

pub bounds-points : (t : List ℕ) → ArePoints t → LeavesPoints (bounds_at t)
unfolding bounds_at
bounds-points [] h = gives-none
bounds-points (c ∷ t) h =
    gives-if (c == 0x2A) (λ _. gives-some (tt, h.1)) (λ _.
    gives-if (c == 0x2B) (λ _. gives-some (tt, h.1)) (λ _.
    gives-if (c == 0x3F) (λ _. gives-some (tt, h.1)) (λ _.
    gives-if (c == 0x7B) (λ _. gives-then _ (decimal_at t) (decimal-points t h.1) (λ p k. braced_end-points p.0 p.1 k.1))
    (λ _. gives-none))))

name_point-points : (t : List ℕ) → ArePoints t → GivesPoints is_code_point (name_point t)
unfolding name_point
name_point-points [] h = gives-none
name_point-points (c ∷ t) h = gives-if (c == 0x5C)
    (λ _. gives-guard (is_at (λ d. d == 0x75) t) (λ _. unicode_escape-points (drop 1 t) (drop-points 1 t h.1)))
    (λ _. gives-some h)

name_rest-points : (table : Table) (n : ℕ) (t : List ℕ) → ArePoints t → GivesPoints (All is_code_point) (name_rest table n t)
unfolding name_rest
name_rest-points table zero t h = gives-none
name_rest-points table (suc n) t h =
    gives-if (is_at (λ d. d == 0x3E) t) (λ _. gives-some (All-nil is_code_point, drop-points 1 t h))
    (λ _. gives-then _ (name_point t) (name_point-points t h) (λ p k. gives-guard (continues_name table p.0)
    (λ _. gives-map _ (name_rest table n p.1) (name_rest-points table n p.1 k.1)
    (λ q l. (All-cons is_code_point p.0 q.0 k.0 l.0, l.1)))))

pub name-points : (table : Table) (t : List ℕ) → ArePoints t → GivesPoints (All is_code_point) (name_at table t)
unfolding name_at
name-points table t h = gives-then _ (name_point t) (name_point-points t h) (λ p k. gives-guard (begins_name table p.0)
    (λ _. gives-map _ (name_rest table (length p.1) p.1) (name_rest-points table (length p.1) p.1 k.1)
    (λ q l. (All-cons is_code_point p.0 q.0 k.0 l.0, l.1))))

key-points : (t : List ℕ) → ArePoints t → GivesPoints (All is_code_point) (key_at t)
unfolding key_at
key-points [] h = gives-none
key-points (c ∷ t) h =
    let name = span is_ascii_word t in
    let value = span is_ascii_word (drop 1 name.1) in
    let a = span-points is_ascii_word t h.1 in
    let b = span-points is_ascii_word (drop 1 name.1) (drop-points 1 name.1 a.1) in
    let named = All-from_recursion is_code_point name.0 a.0 in
    let valued = All-cons is_code_point 0x3D value.0 (omega arith) (All-from_recursion is_code_point value.0 b.0) in
    gives-guard (c == 0x7B && nat_lt 0 (length name.0)) (λ _.
    gives-if (is_at (λ d. d == 0x7D) name.1) (λ _. gives-some (named, drop-points 1 name.1 a.1)) (λ _.
    gives-guard (is_at (λ d. d == 0x3D) name.1 && nat_lt 0 (length value.0) && is_at (λ d. d == 0x7D) value.1)
    (λ _. gives-some (All-append is_code_point name.0 (0x3D ∷ value.0) named valued, drop-points 1 value.1 b.1))))

-- what an escape stands for is of code points
abbrev pub EscapeIsOfPoints : Escape → Type 0
EscapeIsOfPoints e = IsOfPoints (tree_of e)

as_point-points : (o : Option (ℕ × List ℕ)) → GivesPoints is_code_point o → GivesPoints EscapeIsOfPoints (as_point o)
as_point-points o h = gives-map _ o h (λ p k. k)

class_letter-points : (c : ℕ) → Gives ClassIsOfPoints (class_letter c)
class_letter-points c =
    gives-if (c == 0x64) (λ _. gives-some tt) (λ _.
    gives-if (c == 0x44) (λ _. gives-some tt) (λ _.
    gives-if (c == 0x73) (λ _. gives-some tt) (λ _.
    gives-if (c == 0x53) (λ _. gives-some tt) (λ _.
    gives-if (c == 0x77) (λ _. gives-some tt) (λ _.
    gives-if (c == 0x57) (λ _. gives-some tt) (λ _. gives-none))))))

control-points : (c : ℕ) → Gives is_code_point (control c)
control-points c =
    gives-if (c == 0x66) (λ _. gives-some (omega arith)) (λ _.
    gives-if (c == 0x6E) (λ _. gives-some (omega arith)) (λ _.
    gives-if (c == 0x72) (λ _. gives-some (omega arith)) (λ _.
    gives-if (c == 0x74) (λ _. gives-some (omega arith)) (λ _.
    gives-if (c == 0x76) (λ _. gives-some (omega arith)) (λ _. gives-none)))))

control_letter-points : (test : ℕ → Bool) (t : List ℕ) → ArePoints t → GivesPoints EscapeIsOfPoints (control_letter test t)
control_letter-points test [] h = gives-none
control_letter-points test (c ∷ t) h = gives-guard (test c) (λ _. gives-some (omega (arith, mod-le c 32, h.0), h.1))

module _ (m : Mode) where
  property_of-points : (key : List ℕ) → All is_code_point key → Gives ClassIsOfPoints (property_of m key)
  property_of-points key h = gives-if (is_some (m.table.property key)) (λ _. gives-some h)
      (λ _. gives-guard (m.sets && is_some (m.table.sequences key)) (λ _. gives-some h))

  property-points : (c : ℕ) (t : List ℕ) → ArePoints t → GivesPoints ClassIsOfPoints (property_at m c t)
  unfolding property_at
  property-points c t h = gives-then _ (key_at t) (key-points t h) (λ p k. gives-if (c == 0x70)
      (λ _. gives-map _ (property_of m p.0) (property_of-points p.0 k.0) (λ s l. (l, k.1)))
      (λ _. gives-guard (is_some (m.table.property p.0)) (λ _. gives-some k)))

  named_reference-points : (t : List ℕ) → ArePoints t → GivesPoints EscapeIsOfPoints (named_reference m t)
  unfolding named_reference
  named_reference-points t h =
      gives-then _ (guard (is_at (λ d. d == 0x3C) t) (name_at m.table (drop 1 t)))
      (gives-guard (is_at (λ d. d == 0x3C) t) (λ _. name-points m.table (drop 1 t) (drop-points 1 t h)))
      (λ p k. gives-guard (nat_lt 0 (length (numbers_from 0 p.0 m.names))) (λ _. gives-some (tt, k.1)))

  octal_or_digit-points : (c : ℕ) (t : List ℕ) → ArePoints (c ∷ t) → GivesPoints EscapeIsOfPoints (octal_or_digit m c t)
  unfolding octal_or_digit
  octal_or_digit-points c t h = gives-guard (not m.unicode) (λ _. gives-if (is_octal c)
      (λ _. as_point-points (octal_at (c ∷ t)) (octal-points (c ∷ t) h)) (λ _. gives-some h))

  decimal_escape-points : (c : ℕ) (t : List ℕ) → ArePoints (c ∷ t) → GivesPoints EscapeIsOfPoints (decimal_escape m c t)
  unfolding decimal_escape
  decimal_escape-points c t h = gives-then _ (decimal_at (c ∷ t)) (decimal-points (c ∷ t) h)
      (λ p k. gives-if (nat_le p.0 (length m.names)) (λ _. gives-some k) (λ _. octal_or_digit-points c t h))

  identity-points : (c : ℕ) (t : List ℕ) → ArePoints (c ∷ t) → GivesPoints EscapeIsOfPoints (identity m c t)
  identity-points c t h = gives-guard (not m.unicode || c ∈ "^$\\.*+?()[]{}|/") (λ _. gives-some h)

  pub escape_at-points : (t : List ℕ) → ArePoints t → GivesPoints EscapeIsOfPoints (escape_at m t)
  unfolding escape_at
  escape_at-points [] h = gives-none
  escape_at-points (c ∷ t) h =
      gives-if (is_some (class_letter c))
      (λ _. gives-map _ (class_letter c) (class_letter-points c) (λ s k. (k, h.1))) (λ _.
      gives-if (is_some (control c)) (λ _. gives-map _ (control c) (control-points c) (λ d k. (k, h.1))) (λ _.
      gives-if (c == 0x63) (λ _. gives-or (control_letter is_letter t) (control_letter-points is_letter t h.1)
      (gives-guard (not m.unicode) (λ _. gives-some (omega arith, h)))) (λ _.
      gives-if (c == 0x30) (λ _. gives-if (is_at is_digit t)
      (λ _. octal_or_digit-points c t h) (λ _. gives-some (omega arith, h.1))) (λ _.
      gives-if (is_digit c) (λ _. decimal_escape-points c t h) (λ _.
      gives-if (c == 0x78) (λ _. gives-or (as_point (hex_at 2 t))
      (as_point-points (hex_at 2 t) (hex-points 2 t (omega arith) h.1)) (identity-points c t h)) (λ _.
      gives-if (c == 0x75) (λ _. gives-or (as_point (if m.unicode then unicode_escape t else hex_at 4 t))
      (as_point-points (if m.unicode then unicode_escape t else hex_at 4 t)
      (gives-if m.unicode (λ _. unicode_escape-points t h.1) (λ _. hex-points 4 t (omega arith) h.1)))
      (identity-points c t h)) (λ _.
      gives-if (c == 0x6B) (λ _. gives-if m.named (λ _. named_reference-points t h.1) (λ _. gives-some h)) (λ _.
      gives-if ((c == 0x70 || c == 0x50) && m.unicode)
      (λ _. gives-map _ (property_at m c t) (property-points c t h.1) (λ p k. k)) (λ _.
      identity-points c t h)))))))))

  pub class_escape_at-points : (t : List ℕ) → ArePoints t → GivesPoints EscapeIsOfPoints (class_escape_at m t)
  unfolding class_escape_at
  class_escape_at-points [] h = gives-none
  class_escape_at-points (c ∷ t) h =
      gives-if (c == 0x62) (λ _. gives-some (omega arith, h.1)) (λ _.
      gives-if (c == 0x2D) (λ _. gives-some (omega arith, h.1)) (λ _.
      gives-if (c == 0x63 && not m.unicode && is_at is_ascii_word t) (λ _. control_letter-points is_ascii_word t h.1) (λ _.
      gives-if (is_digit c && not (c == 0x30)) (λ _. octal_or_digit-points c t h) (λ _.
      gives-if (c == 0x6B) (λ _. gives-guard (not m.named) (λ _. gives-some h)) (λ _.
      escape_at-points (c ∷ t) h)))))
