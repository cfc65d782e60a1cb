-- Each word of a pattern leaves a text that is shorter than the one that it was read at, or at least no longer.
use Rattle.std.specs.Prelude.{if◌then◌else◌}
use Rattle.std.proofs.Common.{◌≡◌, ℕ, zero, suc, ◌+◌, ◌<◌, ◌≤◌, Bool, ◌==◌, ◌||◌, ◌&&◌, not, nat_eq, nat_lt, nat_le, List, [], ◌∷◌, length, drop, Option, Some, is_some, option_map, subst, arith, eqb-true, ltb-true, length-drop}
use Rattle.std.proofs.lemmas.Bool.{cond_both}
use Rattle.std.specs.List.{starts_with}
use lib.Chars.{codes}
use Rattle.regress_meaning.proofs.Inversion.{Gives, gives-none, gives-some, gives-weaker, gives-if, gives-guard, gives-or, gives-map, gives-then, gives-any}
use Rattle.regress_meaning.specs.Text.{between, ◌∈◌, is_at, span, span_up_to}
use Rattle.regress_meaning.specs.Tokens.{Mode, guard, is_high, is_low, number_of, begins_name, continues_name, as_point, class_letter, control, property_of, numbers_from, is_octal, is_hex, Bounds, bounds_at, braced_end, decimal_at, hex_at, low_half, pair_at, braces_at, unicode_escape, octal_at, name_point, name_rest, name_at, key_at, Escape, point, set, property_at, named_reference, octal_or_digit, decimal_escape, control_letter, identity, escape_at, class_escape_at}
use Rattle.regress_meaning.specs.Pattern.{Pattern}
use Rattle.regress_meaning.specs.Grammar.{greedy_at, after_mark, is_flag, Member, as_itself, escaped, Members, no_member, single, from_to, loose, SetCharacter, bare, backspace, punctuator, of_escape, SetString, no_more, and_then, SetStrings, last_string, more_strings, Operand, one_character, of_class, of_strings, inner, inner_negated, Contents, of_union, of_intersection, of_difference, Union, union_end, union_range, union_operand, Intersection, last_and, more_and, Difference, last_minus, more_minus, ClassBody, of_members, of_contents, Disjunction, one, more, Alternative, done, next, Term, start, end, boundary, no_boundary, behind, not_behind, ahead, repeated_ahead, once, quantified, Lookahead, positive, negative, Atom, dot, plain, escape, a_class, a_negated_class, group, named_group, uncaptured, atomic_group, modifiers, modifiers_off}
use Rattle.regress_meaning.specs.Table.{Table, last_code_point}
use Rattle.regress_meaning.specs.Class.{Class, is_digit, is_letter, is_ascii_word}

-- the front and the rest of a text make it up
pub length-span : (test : ℕ → Bool) (t : List ℕ) → length (span test t).0 + length (span test t).1 ≡ length t
unfolding span
length-span test [] = omega arith
length-span test (c ∷ t) =
    let h = length-span test t in
    cond_both (test c) _ _ (λ (p : List ℕ × List ℕ). length p.0 + length p.1 ≡ suc (length t))
    (λ _. omega arith) (λ _. omega arith)

pub length-span_up_to : (n : ℕ) (test : ℕ → Bool) (t : List ℕ) → length (span_up_to n test t).0 + length (span_up_to n test t).1 ≡ length t
unfolding span_up_to
length-span_up_to zero test t = omega arith
length-span_up_to (suc n) test [] = omega arith
length-span_up_to (suc n) test (c ∷ t) =
    let h = length-span_up_to n test t in
    cond_both (test c) _ _ (λ (p : List ℕ × List ℕ). length p.0 + length p.1 ≡ suc (length t))
    (λ _. omega arith) (λ _. omega arith)

pub span-shorter : (test : ℕ → Bool) (t : List ℕ) → length (span test t).1 ≤ length t
span-shorter test t = omega (arith, length-span test t)

-- what was read leaves a text of fewer than n code points
abbrev LeavesBelow : {A : Type 0} → ℕ → Option (A × List ℕ) → Type 0
LeavesBelow n o = Gives (λ p. length p.1 < n) o

weaker-below : {A : Type 0} {m n : ℕ} {o : Option (A × List ℕ)} → m ≤ n → LeavesBelow m o → LeavesBelow n o
weaker-below h k = gives-weaker (λ p l. omega arith) k

if-below : {A : Type 0} {n : ℕ} (b : Bool) {o p : Option (A × List ℕ)} → LeavesBelow n o → LeavesBelow n p → LeavesBelow n (if b then o else p)
if-below b h k = gives-if b (λ _. h) (λ _. k)

-- a value is put in the place of what was read
option-below : {A B : Type 0} {n : ℕ} (f : A → B) (r : List ℕ) (o : Option A) → length r < n → LeavesBelow n (option_map (λ x. (f x, r)) o)
option-below f r o h = gives-map _ o (gives-any o) (λ x k. h)

drop-below : {A : Type 0} {n : ℕ} {x : A} (t : List ℕ) → length t < n → LeavesBelow n (Some (x, drop 1 t))
drop-below t h = gives-some (omega (arith, length-drop 1 t))

decimal_at-below : (t : List ℕ) → LeavesBelow (length t) (decimal_at t)
unfolding decimal_at
decimal_at-below t = gives-guard (nat_lt 0 (length (span is_digit t).0))
    (λ e. gives-some (omega (arith, length-span is_digit t, ltb-true 0 _ e)))

braced_end-below : (n : ℕ) (t : List ℕ) → LeavesBelow (length t) (braced_end n t)
braced_end-below n [] = gives-none
braced_end-below n (c ∷ t) =
    if-below (c == 0x7D) (gives-some (omega arith)) (
    if-below (not (c == 0x2C)) gives-none (
    if-below (is_at (λ d. d == 0x7D) t) (drop-below t (omega arith))
    (gives-then _ (decimal_at t) (decimal_at-below t)
    (λ p h. gives-guard (is_at (λ d. d == 0x7D) p.1) (λ _. drop-below p.1 (omega arith))))))

bounds_at-below : (t : List ℕ) → LeavesBelow (length t) (bounds_at t)
unfolding bounds_at
bounds_at-below [] = gives-none
bounds_at-below (c ∷ t) =
    if-below (c == 0x2A) (gives-some (omega arith)) (
    if-below (c == 0x2B) (gives-some (omega arith)) (
    if-below (c == 0x3F) (gives-some (omega arith)) (
    if-below (c == 0x7B) (gives-then _ (decimal_at t) (decimal_at-below t)
    (λ p h. weaker-below (omega arith) (braced_end-below p.0 p.1)))
    gives-none)))

hex_at-below : (n : ℕ) (t : List ℕ) → LeavesBelow (suc (length t)) (hex_at n t)
unfolding hex_at
hex_at-below n t = gives-guard (length (span_up_to n is_hex t).0 == n)
    (λ _. gives-some (omega (arith, length-span_up_to n is_hex t)))

-- some digits leave less
hex_at-some-below : (n : ℕ) (t : List ℕ) → LeavesBelow (length t) (hex_at (suc n) t)
unfolding hex_at
hex_at-some-below n t =
    gives-guard (length (span_up_to (suc n) is_hex t).0 == suc n)
    (λ e. gives-some (omega (arith, length-span_up_to (suc n) is_hex t, eqb-true _ _ e)))

low_half-below : (high : ℕ) (t : List ℕ) → LeavesBelow (suc (length t)) (low_half high t)
unfolding low_half
low_half-below high t = gives-guard (starts_with nat_eq t (codes "\\u")) (λ _.
    gives-then _ (hex_at 4 (drop 2 t)) (hex_at-below 4 (drop 2 t))
    (λ p h. gives-guard (is_low p.0) (λ _. gives-some (omega (arith, length-drop 2 t)))))

pair_at-below : (t : List ℕ) → LeavesBelow (length t) (pair_at t)
unfolding pair_at
pair_at-below t = gives-then _ (hex_at 4 t) (hex_at-some-below 3 t)
    (λ p h. gives-or (guard (is_high p.0) (low_half p.0 p.1))
    (gives-guard (is_high p.0) (λ _. weaker-below (omega arith) (low_half-below p.0 p.1)))
    (gives-some h))

braces_at-below : (t : List ℕ) → LeavesBelow (length t) (braces_at t)
unfolding braces_at
braces_at-below [] = gives-none
braces_at-below (c ∷ t) =
    let d = span is_hex t in
    gives-guard (c == 0x7B && nat_lt 0 (length d.0) && is_at (λ d. d == 0x7D) d.1 && nat_le (number_of 16 d.0) last_code_point)
    (λ _. drop-below (span is_hex t).1 (omega (arith, length-span is_hex t)))

unicode_escape-below : (t : List ℕ) → LeavesBelow (length t) (unicode_escape t)
unfolding unicode_escape
unicode_escape-below t = gives-or (braces_at t) (braces_at-below t) (pair_at-below t)

octal_at-below : (t : List ℕ) → LeavesBelow (length t) (octal_at t)
unfolding octal_at
octal_at-below t =
    let n = if is_at (between 0x30 0x33) t then 3 else 2 in
    gives-guard (nat_lt 0 (length (span_up_to n is_octal t).0))
    (λ e. gives-some (omega (arith, length-span_up_to n is_octal t, ltb-true 0 _ e)))

name_point-below : (t : List ℕ) → LeavesBelow (length t) (name_point t)
unfolding name_point
name_point-below [] = gives-none
name_point-below (c ∷ t) =
    if-below (c == 0x5C) (gives-guard (is_at (λ d. d == 0x75) t)
    (λ _. weaker-below (omega (arith, length-drop 1 t)) (unicode_escape-below (drop 1 t))))
    (gives-some (omega arith))

name_rest-below : (table : Table) (n : ℕ) (t : List ℕ) → LeavesBelow (suc (length t)) (name_rest table n t)
unfolding name_rest
name_rest-below table zero t = gives-none
name_rest-below table (suc n) t = if-below (is_at (λ d. d == 0x3E) t) (drop-below t (omega arith))
    (gives-then _ (name_point t) (name_point-below t) (λ p h. gives-guard (continues_name table p.0)
    (λ _. gives-map _ (name_rest table n p.1) (name_rest-below table n p.1) (λ q k. omega arith))))

name_at-below : (table : Table) (t : List ℕ) → LeavesBelow (length t) (name_at table t)
unfolding name_at
name_at-below table t = gives-then _ (name_point t) (name_point-below t) (λ p h. gives-guard (begins_name table p.0)
    (λ _. gives-map _ (name_rest table (length p.1) p.1) (name_rest-below table (length p.1) p.1) (λ q k. omega arith)))

key_at-below : (t : List ℕ) → LeavesBelow (length t) (key_at t)
unfolding key_at
key_at-below [] = gives-none
key_at-below (c ∷ t) =
    let name = span is_ascii_word t in
    let value = span is_ascii_word (drop 1 name.1) in
    let h : length name.1 ≤ length t = span-shorter is_ascii_word t in
    let k : length value.1 ≤ length t = omega (arith, span-shorter is_ascii_word (drop 1 name.1), length-drop 1 name.1) in
    gives-guard (c == 0x7B && nat_lt 0 (length name.0))
    (λ _. if-below (is_at (λ d. d == 0x7D) name.1) (drop-below name.1 (omega arith))
    (gives-guard (is_at (λ d. d == 0x3D) name.1 && nat_lt 0 (length value.0) && is_at (λ d. d == 0x7D) value.1)
    (λ _. drop-below value.1 (omega arith))))

as_point-below : {n : ℕ} (o : Option (ℕ × List ℕ)) → LeavesBelow n o → LeavesBelow n (as_point o)
as_point-below o h = gives-map _ o h (λ p k. k)

control_letter-below : (test : ℕ → Bool) (t : List ℕ) → LeavesBelow (length t) (control_letter test t)
control_letter-below test [] = gives-none
control_letter-below test (c ∷ t) = gives-guard (test c) (λ _. gives-some (omega arith))

property_at-below : (m : Mode) (c : ℕ) (t : List ℕ) → LeavesBelow (length t) (property_at m c t)
unfolding property_at
property_at-below m c t = gives-then _ (key_at t) (key_at-below t)
    (λ p h. if-below (c == 0x70) (option-below (λ x. x) p.1 (property_of m p.0) h)
    (gives-guard (is_some (m.table.property p.0)) (λ _. gives-some h)))

named_reference-below : (m : Mode) (t : List ℕ) → LeavesBelow (length t) (named_reference m t)
unfolding named_reference
named_reference-below m t =
    gives-then _ (guard (is_at (λ d. d == 0x3C) t) (name_at m.table (drop 1 t)))
    (gives-guard (is_at (λ d. d == 0x3C) t)
    (λ _. weaker-below (omega (arith, length-drop 1 t)) (name_at-below m.table (drop 1 t))))
    (λ p h. gives-guard (nat_lt 0 (length (numbers_from 0 p.0 m.names))) (λ _. gives-some h))

octal_or_digit-below : (m : Mode) (c : ℕ) (t : List ℕ) → LeavesBelow (suc (length t)) (octal_or_digit m c t)
unfolding octal_or_digit
octal_or_digit-below m c t = gives-guard (not m.unicode)
    (λ _. if-below (is_octal c) (as_point-below (octal_at (c ∷ t)) (octal_at-below (c ∷ t))) (gives-some (omega arith)))

decimal_escape-below : (m : Mode) (c : ℕ) (t : List ℕ) → LeavesBelow (suc (length t)) (decimal_escape m c t)
unfolding decimal_escape
decimal_escape-below m c t = gives-then _ (decimal_at (c ∷ t)) (decimal_at-below (c ∷ t))
    (λ p h. if-below (nat_le p.0 (length m.names)) (gives-some h) (octal_or_digit-below m c t))

identity-below : (m : Mode) (c : ℕ) (t : List ℕ) → LeavesBelow (suc (length t)) (identity m c t)
identity-below m c t = gives-guard (not m.unicode || c ∈ "^$\\.*+?()[]{}|/") (λ _. gives-some (omega arith))

-- `\c` before no letter leaves the `c`
escape_at-below : (m : Mode) (t : List ℕ) → LeavesBelow (suc (length t)) (escape_at m t)
unfolding escape_at
escape_at-below m [] = gives-none
escape_at-below m (c ∷ t) =
    let same : LeavesBelow (suc (suc (length t))) (identity m c t) = weaker-below (omega arith) (identity-below m c t) in
    if-below (is_some (class_letter c)) (option-below set t (class_letter c) (omega arith)) (
    if-below (is_some (control c)) (option-below point t (control c) (omega arith)) (
    if-below (c == 0x63) (gives-or (control_letter is_letter t)
    (weaker-below (omega arith) (control_letter-below is_letter t)) (gives-guard (not m.unicode) (λ _. gives-some (omega arith)))) (
    if-below (c == 0x30) (if-below (is_at is_digit t)
    (weaker-below (omega arith) (octal_or_digit-below m c t)) (gives-some (omega arith))) (
    if-below (is_digit c) (weaker-below (omega arith) (decimal_escape-below m c t)) (
    if-below (c == 0x78) (gives-or (as_point (hex_at 2 t))
    (as_point-below (hex_at 2 t) (weaker-below (omega arith) (hex_at-below 2 t))) same) (
    if-below (c == 0x75) (gives-or (as_point (if m.unicode then unicode_escape t else hex_at 4 t))
    (as_point-below (if m.unicode then unicode_escape t else hex_at 4 t)
    (if-below m.unicode (weaker-below (omega arith) (unicode_escape-below t))
    (weaker-below (omega arith) (hex_at-below 4 t)))) same) (
    if-below (c == 0x6B) (if-below m.named
    (weaker-below (omega arith) (named_reference-below m t)) (gives-some (omega arith))) (
    if-below ((c == 0x70 || c == 0x50) && m.unicode)
    (gives-map _ (property_at m c t) (property_at-below m c t) (λ p h. omega arith))
    same))))))))

class_escape_at-below : (m : Mode) (t : List ℕ) → LeavesBelow (suc (length t)) (class_escape_at m t)
unfolding class_escape_at
class_escape_at-below m [] = gives-none
class_escape_at-below m (c ∷ t) =
    if-below (c == 0x62) (gives-some (omega arith)) (
    if-below (c == 0x2D) (gives-some (omega arith)) (
    if-below (c == 0x63 && not m.unicode && is_at is_ascii_word t)
    (weaker-below (omega arith) (control_letter-below is_ascii_word t)) (
    if-below (is_digit c && not (c == 0x30)) (weaker-below (omega arith) (octal_or_digit-below m c t)) (
    if-below (c == 0x6B) (gives-guard (not m.named) (λ _. gives-some (omega arith)))
    (escape_at-below m (c ∷ t))))))

pub bounds_at-shorter : (t : List ℕ) {b : Bounds} {r : List ℕ} → bounds_at t ≡ Some (b, r) → length r < length t
bounds_at-shorter t e = (bounds_at-below t).holds e

pub name_point-shorter : (t : List ℕ) {c : ℕ} {r : List ℕ} → name_point t ≡ Some (c, r) → length r < length t
name_point-shorter t e = (name_point-below t).holds e

pub name_at-shorter : (table : Table) (t : List ℕ) {name : List ℕ} {r : List ℕ} → name_at table t ≡ Some (name, r) → length r < length t
name_at-shorter table t e = (name_at-below table t).holds e

-- not strict, for `\c` before no letter
pub escape_at-shorter : (m : Mode) (t : List ℕ) {e : Escape} {r : List ℕ} → escape_at m t ≡ Some (e, r) → length r ≤ length t
escape_at-shorter m t e = omega (arith, (escape_at-below m t).holds e)

pub class_escape_at-shorter : (m : Mode) (t : List ℕ) {e : Escape} {r : List ℕ} → class_escape_at m t ≡ Some (e, r) → length r ≤ length t
class_escape_at-shorter m t e = omega (arith, (class_escape_at-below m t).holds e)

pub after_mark-shorter : (t : List ℕ) → length (after_mark t) ≤ length t
after_mark-shorter t = cond_both (greedy_at t) _ _ (λ (r : List ℕ). length r ≤ length t)
    (λ _. omega arith) (λ _. omega (arith, length-drop 1 t))

pub Member-shorter : (m : Mode) {t r : List ℕ} {e : Escape} → Member m t e r → length r < length t
Member-shorter m (as_itself h) = omega arith
Member-shorter m (escaped {t = t} h) = omega (arith, class_escape_at-shorter m t h)

pub Members-shorter : (m : Mode) {t r : List ℕ} {s : Class} → Members m t s r → length r < length t
Members-shorter m no_member = omega arith
Members-shorter m (single h n k) = omega (arith, Member-shorter m h, Members-shorter m k)
Members-shorter m (from_to h n i le k) = omega (arith, Member-shorter m h, Member-shorter m i, Members-shorter m k)
Members-shorter m (loose un h n i p k) = omega (arith, Member-shorter m h, Member-shorter m i, Members-shorter m k)

pub SetCharacter-shorter : (m : Mode) {t r : List ℕ} {c : ℕ} → SetCharacter m t c r → length r < length t
SetCharacter-shorter m (bare h k) = omega arith
SetCharacter-shorter m backspace = omega arith
SetCharacter-shorter m (punctuator h) = omega arith
SetCharacter-shorter m (of_escape {t = t} h) = omega (arith, escape_at-shorter m t h)

pub SetString-shorter : (m : Mode) {t r cs : List ℕ} → SetString m t cs r → length r ≤ length t
SetString-shorter m (no_more h) = omega arith
SetString-shorter m (and_then h k) = omega (arith, SetCharacter-shorter m h, SetString-shorter m k)

pub SetStrings-shorter : (m : Mode) {t r : List ℕ} {ss : List (List ℕ)} → SetStrings m t ss r → length r < length t
SetStrings-shorter m (last_string h) = omega (arith, SetString-shorter m h)
SetStrings-shorter m (more_strings h k) = omega (arith, SetString-shorter m h, SetStrings-shorter m k)

mutual
  pub Operand-shorter : (m : Mode) {t r : List ℕ} {s : Class} → Operand m t s r → length r < length t
  Operand-shorter m (one_character h) = SetCharacter-shorter m h
  Operand-shorter m (of_class {t = t} h) = omega (arith, escape_at-shorter m t h)
  Operand-shorter m (of_strings h) = omega (arith, SetStrings-shorter m h)
  Operand-shorter m (inner n h) = omega (arith, Contents-shorter m h)
  Operand-shorter m (inner_negated h n) = omega (arith, Contents-shorter m h)

  pub Contents-shorter : (m : Mode) {t r : List ℕ} {s : Class} → Contents m t s r → length r ≤ length t
  Contents-shorter m (of_union h) = Union-shorter m h
  Contents-shorter m (of_intersection h k) = omega (arith, Operand-shorter m h, Intersection-shorter m k)
  Contents-shorter m (of_difference h k) = omega (arith, Operand-shorter m h, Difference-shorter m k)

  pub Union-shorter : (m : Mode) {t r : List ℕ} {s : Class} → Union m t s r → length r ≤ length t
  Union-shorter m union_end = omega arith
  Union-shorter m (union_range h i le k) =
      omega (arith, SetCharacter-shorter m h, SetCharacter-shorter m i, Union-shorter m k)
  Union-shorter m (union_operand h n k) = omega (arith, Operand-shorter m h, Union-shorter m k)

  pub Intersection-shorter : (m : Mode) {a : Class} {t r : List ℕ} {s : Class} → Intersection m a t s r → length r < length t
  Intersection-shorter m (last_and n h) = omega (arith, Operand-shorter m h)
  Intersection-shorter m (more_and n h k) = omega (arith, Operand-shorter m h, Intersection-shorter m k)

  pub Difference-shorter : (m : Mode) {a : Class} {t r : List ℕ} {s : Class} → Difference m a t s r → length r < length t
  Difference-shorter m (last_minus h) = omega (arith, Operand-shorter m h)
  Difference-shorter m (more_minus h k) = omega (arith, Operand-shorter m h, Difference-shorter m k)

pub ClassBody-shorter : (m : Mode) {t r : List ℕ} {s : Class} → ClassBody m t s r → length r < length t
ClassBody-shorter m (of_members n h) = Members-shorter m h
ClassBody-shorter m (of_contents n h) = omega (arith, Contents-shorter m h)

-- what a span leaves, given by an equation
pub span-rest : (test : ℕ → Bool) (t : List ℕ) {front r : List ℕ} → span test t ≡ (front, r) → length r ≤ length t
span-rest test t e = subst (λ p. length p.1 ≤ length t) e (span-shorter test t)

mutual
  pub Disjunction-shorter : (m : Mode) {t r : List ℕ} {k l : ℕ} {p : Pattern} → Disjunction m t k p l r → length r ≤ length t
  Disjunction-shorter m (one h e) = Alternative-shorter m h
  Disjunction-shorter m (more h i) = omega (arith, Alternative-shorter m h, Disjunction-shorter m i)

  pub Alternative-shorter : (m : Mode) {t r : List ℕ} {k l : ℕ} {p : Pattern} → Alternative m t k p l r → length r ≤ length t
  Alternative-shorter m (done e) = omega arith
  Alternative-shorter m (next h i) = omega (arith, Term-shorter m h, Alternative-shorter m i)

  pub Term-shorter : (m : Mode) {t r : List ℕ} {k l : ℕ} {p : Pattern} → Term m t k p l r → length r < length t
  Term-shorter m start = omega arith
  Term-shorter m end = omega arith
  Term-shorter m boundary = omega arith
  Term-shorter m no_boundary = omega arith
  Term-shorter m (behind h) = omega (arith, Disjunction-shorter m h)
  Term-shorter m (not_behind h) = omega (arith, Disjunction-shorter m h)
  Term-shorter m (ahead h n) = Lookahead-shorter m h
  Term-shorter m (repeated_ahead {u = u} {v = v} un h b le) =
      omega (arith, Lookahead-shorter m h, bounds_at-shorter u b, after_mark-shorter v)
  Term-shorter m (once h n) = Atom-shorter m h
  Term-shorter m (quantified {u = u} {v = v} h b le) =
      omega (arith, Atom-shorter m h, bounds_at-shorter u b, after_mark-shorter v)

  pub Lookahead-shorter : (m : Mode) {t r : List ℕ} {k l : ℕ} {p : Pattern} → Lookahead m t k p l r → length r < length t
  Lookahead-shorter m (positive h) = omega (arith, Disjunction-shorter m h)
  Lookahead-shorter m (negative h) = omega (arith, Disjunction-shorter m h)

  pub Atom-shorter : (m : Mode) {t r : List ℕ} {k l : ℕ} {p : Pattern} → Atom m t k p l r → length r < length t
  Atom-shorter m dot = omega arith
  Atom-shorter m (plain e) = omega arith
  Atom-shorter m (escape {t = t} n h) = omega (arith, escape_at-shorter m t h)
  Atom-shorter m (a_class n h) = omega (arith, ClassBody-shorter m h)
  Atom-shorter m (a_negated_class h n) = omega (arith, ClassBody-shorter m h)
  Atom-shorter m (group n h) = omega (arith, Disjunction-shorter m h)
  Atom-shorter m (named_group {t = t} n e h) = omega (arith, name_at-shorter m.table t e, Disjunction-shorter m h)
  Atom-shorter m (uncaptured h) = omega (arith, Disjunction-shorter m h)
  Atom-shorter m (atomic_group h) = omega (arith, Disjunction-shorter m h)
  Atom-shorter m (modifiers {t = t} e n d h) = omega (arith, span-rest is_flag t e, Disjunction-shorter m h)
  Atom-shorter m (modifiers_off {t = t} {u = u} e f n d h) =
      omega (arith, span-rest is_flag t e, span-rest is_flag u f, Disjunction-shorter m h)
