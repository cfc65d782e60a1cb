-- What holds no brackets: the class of an escape, and the members of a class without `v`.
use Rattle.std.specs.Prelude.{if◌then◌else◌}
use Rattle.std.proofs.Common.{◌≡◌, ℕ, suc, zero, Bool, not, ◌&&◌, ◌||◌, ◌==◌, nat_le, nat_lt, List, [], ◌∷◌, length, drop, Option, is_some, refl}
use Rattle.regress_meaning.specs.Text.{◌∈◌, is_at}
use Rattle.regress_meaning.specs.Class.{Class, range, union, is_digit, is_letter, is_ascii_word}
use Rattle.regress_meaning.specs.Limits.{class_depth}
use Rattle.regress_meaning.specs.Tokens.{Mode, Escape, point, set, groups, guard, is_octal, class_letter, control, as_point, control_letter, property_of, property_at, named_reference, numbers_from, octal_or_digit, octal_at, decimal_at, decimal_escape, hex_at, unicode_escape, name_at, key_at, identity, escape_at, class_escape_at}
use Rattle.regress_meaning.specs.Grammar.{class_of, member_class, dash_before_member, reserved_pair}
use Rattle.regress_meaning.specs.ReadingClass.{closes_class, is_set_syntax, is_set_mark, item_class, item_of, read_set_escape, read_set_atom, read_member, dashed, read_members}
use Rattle.regress_meaning.proofs.Inversion.{Gives, gives-none, gives-some, gives-if, gives-guard, gives-or, gives-map, gives-then, gives-any}
use Rattle.regress_meaning.proofs.ReadSteps.{gives-test}

-- the class holds no brackets
abbrev IsFlat : Class → Type 0
IsFlat s = class_depth s ≡ 0

-- the class of what was read does not
abbrev pub FlatEscape : Option (Escape × List ℕ) → Type 0
FlatEscape o = Gives (λ x. IsFlat (member_class x.0)) o

if-flat : (b : Bool) {o p : Option (Escape × List ℕ)} → FlatEscape o → FlatEscape p → FlatEscape (if b then o else p)
if-flat b h k = gives-if b (λ _. h) (λ _. k)

if-class : (b : Bool) {o p : Option Class} → Gives IsFlat o → Gives IsFlat p → Gives IsFlat (if b then o else p)
if-class b h k = gives-if b (λ _. h) (λ _. k)

class_letter-flat : (c : ℕ) → Gives IsFlat (class_letter c)
class_letter-flat c =
    if-class (c == 0x64) (gives-some refl) (if-class (c == 0x44) (gives-some refl) (if-class (c == 0x73) (gives-some refl)
    (if-class (c == 0x53) (gives-some refl) (if-class (c == 0x77) (gives-some refl) (if-class (c == 0x57) (gives-some refl) gives-none)))))

as_point-flat : (o : Option (ℕ × List ℕ)) → FlatEscape (as_point o)
as_point-flat o = gives-map _ o (gives-any o) (λ x k. refl)

control_letter-flat : (test : ℕ → Bool) (t : List ℕ) → FlatEscape (control_letter test t)
control_letter-flat test [] = gives-none
control_letter-flat test (c ∷ t) = gives-guard (test c) (λ _. gives-some refl)

property_of-flat : (m : Mode) (key : List ℕ) → Gives IsFlat (property_of m key)
property_of-flat m key = if-class (is_some (m.table.property key)) (gives-some refl)
    (gives-guard (m.sets && is_some (m.table.sequences key)) (λ _. gives-some refl))

property_at-flat : (m : Mode) (c : ℕ) (t : List ℕ) → Gives (λ x. IsFlat x.0) (property_at m c t)
unfolding property_at
property_at-flat m c t = gives-then _ (key_at t) (gives-any (key_at t))
    (λ p h. gives-if (c == 0x70) (λ _. gives-map _ (property_of m p.0) (property_of-flat m p.0) (λ x k. k))
    (λ _. gives-guard (is_some (m.table.property p.0)) (λ _. gives-some refl)))

named_reference-flat : (m : Mode) (t : List ℕ) → FlatEscape (named_reference m t)
unfolding named_reference
named_reference-flat m t = gives-then _ (guard (is_at (λ d. d == 0x3C) t) (name_at m.table (drop 1 t))) (gives-any _)
    (λ p h. gives-guard (nat_lt 0 (length (numbers_from 0 p.0 m.names))) (λ _. gives-some refl))

octal_or_digit-flat : (m : Mode) (c : ℕ) (t : List ℕ) → FlatEscape (octal_or_digit m c t)
unfolding octal_or_digit
octal_or_digit-flat m c t = gives-guard (not m.unicode) (λ _. if-flat (is_octal c) (as_point-flat (octal_at (c ∷ t))) (gives-some refl))

decimal_escape-flat : (m : Mode) (c : ℕ) (t : List ℕ) → FlatEscape (decimal_escape m c t)
unfolding decimal_escape
decimal_escape-flat m c t = gives-then _ (decimal_at (c ∷ t)) (gives-any _)
    (λ p h. if-flat (nat_le p.0 (length m.names)) (gives-some refl) (octal_or_digit-flat m c t))

identity-flat : (m : Mode) (c : ℕ) (t : List ℕ) → FlatEscape (identity m c t)
identity-flat m c t = gives-guard (not m.unicode || c ∈ "^$\\.*+?()[]{}|/") (λ _. gives-some refl)

pub escape_at-flat : (m : Mode) (t : List ℕ) → FlatEscape (escape_at m t)
unfolding escape_at
escape_at-flat m [] = gives-none
escape_at-flat m (c ∷ t) =
    let same : FlatEscape (identity m c t) = identity-flat m c t in
    if-flat (is_some (class_letter c)) (gives-map _ (class_letter c) (class_letter-flat c) (λ x k. k)) (
    if-flat (is_some (control c)) (gives-map _ (control c) (gives-any (control c)) (λ x k. refl)) (
    if-flat (c == 0x63) (gives-or (control_letter is_letter t) (control_letter-flat is_letter t) (gives-guard (not m.unicode) (λ _. gives-some refl))) (
    if-flat (c == 0x30) (if-flat (is_at is_digit t) (octal_or_digit-flat m c t) (gives-some refl)) (
    if-flat (is_digit c) (decimal_escape-flat m c t) (
    if-flat (c == 0x78) (gives-or (as_point (hex_at 2 t)) (as_point-flat (hex_at 2 t)) same) (
    if-flat (c == 0x75) (gives-or (as_point (if m.unicode then unicode_escape t else hex_at 4 t)) (as_point-flat (if m.unicode then unicode_escape t else hex_at 4 t)) same) (
    if-flat (c == 0x6B) (if-flat m.named (named_reference-flat m t) (gives-some refl)) (
    if-flat ((c == 0x70 || c == 0x50) && m.unicode) (gives-map _ (property_at m c t) (property_at-flat m c t) (λ p h. h))
    same))))))))

class_escape_at-flat : (m : Mode) (t : List ℕ) → FlatEscape (class_escape_at m t)
unfolding class_escape_at
class_escape_at-flat m [] = gives-none
class_escape_at-flat m (c ∷ t) =
    if-flat (c == 0x62) (gives-some refl) (
    if-flat (c == 0x2D) (gives-some refl) (
    if-flat (c == 0x63 && not m.unicode && is_at is_ascii_word t) (control_letter-flat is_ascii_word t) (
    if-flat (is_digit c && not (c == 0x30)) (octal_or_digit-flat m c t) (
    if-flat (c == 0x6B) (gives-guard (not m.named) (λ _. gives-some refl))
    (escape_at-flat m (c ∷ t))))))

-- classes with `v`

item_of-flat : (e : Escape) (r : List ℕ) → IsFlat (member_class e) → Gives (λ x. IsFlat (item_class x.0)) (item_of e r)
item_of-flat (point c) r h = gives-some refl
item_of-flat (set s) r h = gives-some h
item_of-flat (groups ks) r h = gives-none

read_set_escape-flat : (m : Mode) (t : List ℕ) → Gives (λ x. IsFlat (item_class x.0)) (read_set_escape m t)
unfolding read_set_escape
read_set_escape-flat m [] = gives-none
read_set_escape-flat m (c ∷ t) = gives-test (c == 0x62) (λ _. gives-some refl) (λ _. gives-test (is_set_mark c) (λ _. gives-some refl)
    (λ _. gives-then _ _ (escape_at-flat m (c ∷ t)) (λ x h. item_of-flat x.0 x.1 h)))

pub read_set_atom-flat : (m : Mode) (t : List ℕ) → Gives (λ x. IsFlat (item_class x.0)) (read_set_atom m t)
unfolding read_set_atom
read_set_atom-flat m [] = gives-none
read_set_atom-flat m (c ∷ t) = gives-test (c == 0x5C) (λ _. read_set_escape-flat m t)
    (λ _. gives-guard (not (is_set_syntax c) && not (reserved_pair (c ∷ t))) (λ _. gives-some refl))

-- classes without it

read_member-flat : (m : Mode) (t : List ℕ) → FlatEscape (read_member m t)
unfolding read_member
read_member-flat m [] = gives-none
read_member-flat m (c ∷ t) = gives-test (c == 0x5C) (λ _. class_escape_at-flat m t)
    (λ _. gives-test (c == 0x5D) (λ _. gives-none) (λ _. gives-some refl))

union-flat : (a s : Class) → IsFlat a → IsFlat s → IsFlat (union a s)
union-flat a s h k = rw (h, k) refl

dashed-flat : (m : Mode) (d e : Escape) (s : Class) → IsFlat (member_class d) → IsFlat (member_class e) → IsFlat s → Gives IsFlat (dashed m d e s)
dashed-flat m (point a) (point b) s h k l = gives-guard (nat_le a b) (λ _. gives-some (union-flat (range a b) s refl l))
dashed-flat m d e s h k l = gives-guard (not m.unicode)
    (λ _. gives-some (union-flat (member_class d) (union (class_of 0x2D) (union (member_class e) s)) h (union-flat (class_of 0x2D) (union (member_class e) s) refl (union-flat (member_class e) s k l))))

pub read_members-flat : (m : Mode) (n : ℕ) (t : List ℕ) → Gives (λ x. IsFlat x.0) (read_members m n t)
unfolding read_members
read_members-flat m zero t = gives-none
read_members-flat m (suc n) t = gives-test (closes_class t) (λ _. gives-some refl)
    (λ _. gives-then _ _ (read_member-flat m t) (λ x h. gives-test (dash_before_member x.1)
    (λ _. gives-then _ _ (read_member-flat m (drop 1 x.1)) (λ y k. gives-then _ _ (read_members-flat m n y.1)
    (λ z l. gives-map _ _ (dashed-flat m x.0 y.0 z.0 h k l) (λ s j. j))))
    (λ _. gives-map _ _ (read_members-flat m n x.1) (λ y k. union-flat (member_class x.0) y.0 h k))))
