-- The groups of a spelled tree are numbered in order of opening, and its references are to groups that it has.
use Rattle.std.specs.Prelude.{if◌then◌else◌}
use Rattle.std.proofs.Common.{◌≡◌, ℕ, zero, suc, ◌+◌, ◌-◌, ◌*◌, ◌<◌, ◌≤◌, Bool, true, false, ◌==◌, ◌||◌, ◌&&◌, not, nat_lt, nat_le, List, [], ◌∷◌, ◌++◌, length, drop, Option, Some, None, is_some, refl, ap, ap₂, ◌∙◌, sym, subst, arith, length-append, leb-true, All, fold}
use Rattle.std.proofs.lemmas.Bool.{cond_both, cond-true, eqb-false, and_parts}
use Rattle.std.proofs.lemmas.List.Elements.{All-nil, All-cons}
use Rattle.regress_meaning.proofs.Inversion.{Gives, gives-none, gives-some, gives-if, gives-guard, gives-or, gives-map, gives-then, gives-any}
use Rattle.regress_meaning.specs.Text.{count_up, ◌∈◌, same_text, is_at, span}
use Rattle.regress_meaning.specs.Class.{is_digit, is_letter}
use Rattle.regress_meaning.specs.Flags.{Options, settings_of}
use Rattle.regress_meaning.specs.Table.{Table}
use Rattle.regress_meaning.specs.Pattern.{Pattern, names_of, nothing, character, any, class, class_escape, sequence, choice, capture, grouped, atomic, modified, repeated, look, reference, line_start, line_end, word_boundary}
use Rattle.regress_meaning.specs.Tokens.{Mode, guard, is_octal, digit_value, number_of, decimal_at, Escape, point, set, groups, class_letter, control, control_letter, as_point, hex_at, octal_at, unicode_escape, name_at, numbers_from, property_at, named_reference, octal_or_digit, decimal_escape, identity, escape_at}
use Rattle.regress_meaning.specs.Grammar.{greedy_at, tree_of, Disjunction, one, more, Alternative, done, next, Term, start, end, boundary, no_boundary, behind, not_behind, ahead, repeated_ahead, once, quantified, Lookahead, positive, negative, Atom, dot, plain, escape, a_class, a_negated_class, group, named_group, uncaptured, atomic_group, modifiers, modifiers_off, mode_of, Spells}
use Rattle.regress_meaning.specs.Numbering.{group_numbers, FitsGroups, IsNumbered}

-- the numbers of a name's groups are below a bound that all groups are below
numbers_from-below : (n k : ℕ) (name : List ℕ) (names : List (List ℕ)) → k + length names ≤ n → All (λ i. i < n) (numbers_from k name names)
numbers_from-below n k name [] h = All-nil (λ i. i < n)
numbers_from-below n k name (other ∷ names) h =
    let rest : All (λ i. i < n) (numbers_from (k + 1) name names) = numbers_from-below n (k + 1) name names (omega arith) in
    cond_both (same_text name other) _ _ (All (λ i. i < n)) (λ _. All-cons (λ i. i < n) k _ (omega arith) rest) (λ _. rest)

-- a number's value is at least that of what its first digits write
number_of-least : (n : ℕ) (cs : List ℕ) → n ≤ fold (λ n c. n * 10 + digit_value c) n cs
number_of-least n [] = omega arith
number_of-least n (c ∷ cs) = omega (arith, number_of-least (n * 10 + digit_value c) cs)

-- a front's first code point
span-cons : (test : ℕ → Bool) (c : ℕ) (t : List ℕ) → test c ≡ true → span test (c ∷ t) ≡ (c ∷ (span test t).0, (span test t).1)
unfolding span
span-cons test c t h = cond-true (test c) _ _ h

digit_value-positive : (c : ℕ) → is_digit c ≡ true → (c == 0x30) ≡ false → 0 < digit_value c
digit_value-positive c d n =
    let low : 0x30 ≤ c = leb-true _ _ (and_parts _ _ d).0 in
    let other : c ≡ 0x30 → ⊥ = eqb-false c 0x30 n in
    omega (arith, cond-true (is_digit c) (c - 0x30) (if nat_lt c 0x60 then c - 0x37 else c - 0x57) d)

-- a number that begins with 1 to 9 is not 0
decimal_at-positive : (c : ℕ) (t : List ℕ) → is_digit c ≡ true → (c == 0x30) ≡ false → Gives (λ (p : ℕ × List ℕ). 0 < p.0) (decimal_at (c ∷ t))
unfolding decimal_at
decimal_at-positive c t d n = gives-guard (nat_lt 0 (length (span is_digit (c ∷ t)).0)) (λ _. gives-some
    (subst (λ (p : List ℕ × List ℕ). 0 < number_of 10 p.0) (sym (span-cons is_digit c t d))
    (omega (arith, digit_value-positive c d n, number_of-least (0 * 10 + digit_value c) (span is_digit t).0))))

module _ (m : Mode) where
  -- an escape's groups are groups of the pattern
  abbrev Fits : Escape × List ℕ → Type 0
  Fits p = FitsGroups (length m.names) (tree_of p.0)

  as_point-fits : (o : Option (ℕ × List ℕ)) → Gives Fits (as_point o)
  as_point-fits o = gives-map _ o (gives-any o) (λ p h. tt)

  identity-fits : (c : ℕ) (t : List ℕ) → Gives Fits (identity m c t)
  identity-fits c t = gives-guard (not m.unicode || c ∈ "^$\\.*+?()[]{}|/") (λ _. gives-some tt)

  octal_or_digit-fits : (c : ℕ) (t : List ℕ) → Gives Fits (octal_or_digit m c t)
  unfolding octal_or_digit
  octal_or_digit-fits c t = gives-guard (not m.unicode)
      (λ _. gives-if (is_octal c) (λ _. as_point-fits (octal_at (c ∷ t))) (λ _. gives-some tt))

  decimal_escape-fits : (c : ℕ) (t : List ℕ) → is_digit c ≡ true → (c == 0x30) ≡ false → Gives Fits (decimal_escape m c t)
  unfolding decimal_escape
  decimal_escape-fits c t d n = gives-then _ (decimal_at (c ∷ t)) (decimal_at-positive c t d n)
      (λ p h. gives-if (nat_le p.0 (length m.names))
      (λ e. gives-some (All-cons (λ i. i < length m.names) (p.0 - 1) [] (omega (arith, leb-true _ _ e))
      (All-nil (λ i. i < length m.names))))
      (λ _. octal_or_digit-fits c t))

  named_reference-fits : (t : List ℕ) → Gives Fits (named_reference m t)
  unfolding named_reference
  named_reference-fits t =
      let o = guard (is_at (λ d. d == 0x3C) t) (name_at m.table (drop 1 t)) in
      gives-then _ o (gives-any o) (λ p h. gives-guard (nat_lt 0 (length (numbers_from 0 p.0 m.names)))
      (λ _. gives-some (numbers_from-below (length m.names) 0 p.0 m.names (omega arith))))

  control_letter-fits : (test : ℕ → Bool) (t : List ℕ) → Gives Fits (control_letter test t)
  control_letter-fits test [] = gives-none
  control_letter-fits test (c ∷ t) = gives-guard (test c) (λ _. gives-some tt)

  escape_at-fits : (t : List ℕ) → Gives Fits (escape_at m t)
  unfolding escape_at
  escape_at-fits [] = gives-none
  escape_at-fits (c ∷ t) =
      gives-if (is_some (class_letter c)) (λ _. gives-map _ (class_letter c) (gives-any (class_letter c)) (λ s h. tt)) (λ _.
      gives-if (is_some (control c)) (λ _. gives-map _ (control c) (gives-any (control c)) (λ s h. tt)) (λ _.
      gives-if (c == 0x63) (λ _. gives-or (control_letter is_letter t) (control_letter-fits is_letter t)
      (gives-guard (not m.unicode) (λ _. gives-some tt))) (λ _.
      gives-if (c == 0x30) (λ _. gives-if (is_at is_digit t) (λ _. octal_or_digit-fits c t) (λ _. gives-some tt)) (λ n.
      gives-if (is_digit c) (λ d. decimal_escape-fits c t d n) (λ _.
      gives-if (c == 0x78) (λ _. gives-or (as_point (hex_at 2 t)) (as_point-fits (hex_at 2 t)) (identity-fits c t)) (λ _.
      gives-if (c == 0x75) (λ _. gives-or (as_point (if m.unicode then unicode_escape t else hex_at 4 t))
      (as_point-fits (if m.unicode then unicode_escape t else hex_at 4 t)) (identity-fits c t)) (λ _.
      gives-if (c == 0x6B) (λ _. gives-if m.named (λ _. named_reference-fits t) (λ _. gives-some tt)) (λ _.
      gives-if ((c == 0x70 || c == 0x50) && m.unicode)
      (λ _. gives-map _ (property_at m c t) (gives-any (property_at m c t)) (λ p h. tt)) (λ _.
      identity-fits c t)))))))))

count_up-append : (k a b : ℕ) → count_up k (a + b) ≡ count_up k a ++ count_up (k + a) b
count_up-append k zero b = ap₂ count_up (omega arith) (omega arith)
count_up-append k (suc a) b =
    let h : suc a + b ≡ suc (a + b) = omega arith in
    let i : suc k + a ≡ k + suc a = omega arith in
    ap (count_up k) h ∙ ap (λ u. k ∷ u) (count_up-append (suc k) a b ∙ ap (λ j. count_up (suc k) a ++ count_up j b) i)

-- A tree's groups are numbered from k up to l, and what refers to groups fits n groups.
record NumbersFrom (n k : ℕ) (p : Pattern) (l : ℕ) : Type 0 where
  counted : l ≡ k + length (names_of p)
  in_order : group_numbers p ≡ count_up k (length (names_of p))
  fitting : FitsGroups n p

-- a tree with no groups
no_groups : {n k : ℕ} (p : Pattern) → names_of p ≡ [] → group_numbers p ≡ [] → FitsGroups n p → NumbersFrom n k p k
no_groups {k = k} p e f h = record {
  counted = omega (arith, ap length e);
  in_order = rw (e, f) refl;
  fitting = h;
}

-- two lists of groups side by side
in_order-append : {n k l o : ℕ} {p q : Pattern} → NumbersFrom n k p l → NumbersFrom n l q o
    → (o ≡ k + length (names_of p ++ names_of q)) × (group_numbers p ++ group_numbers q ≡ count_up k (length (names_of p ++ names_of q)))
in_order-append {k = k} {p = p} {q = q} a b =
    let e = length-append (names_of p) (names_of q) in (
      omega (arith, a.counted, b.counted, e),
      ap₂ (λ u v. u ++ v) a.in_order (b.in_order ∙ ap (λ j. count_up j (length (names_of q))) a.counted)
          ∙ (sym (count_up-append k (length (names_of p)) (length (names_of q))) ∙ ap (count_up k) (sym e)),
    )

sequence-numbers : {n k l o : ℕ} {p q : Pattern} → NumbersFrom n k p l → NumbersFrom n l q o → NumbersFrom n k (sequence p q) o
sequence-numbers a b =
    let h = in_order-append a b in
    record { counted = h.0; in_order = h.1; fitting = (a.fitting, b.fitting) }

choice-numbers : {n k l o : ℕ} {p q : Pattern} → NumbersFrom n k p l → NumbersFrom n l q o → NumbersFrom n k (choice p q) o
choice-numbers a b =
    let h = in_order-append a b in
    record { counted = h.0; in_order = h.1; fitting = (a.fitting, b.fitting) }

capture-numbers : {n k l : ℕ} {p : Pattern} (name : Option (List ℕ)) → NumbersFrom n (suc k) p l → NumbersFrom n k (capture k name p) l
capture-numbers {k = k} None a =
    record { counted = omega (arith, a.counted); in_order = ap (λ u. k ∷ u) a.in_order; fitting = a.fitting }
capture-numbers {k = k} (Some name) a =
    record { counted = omega (arith, a.counted); in_order = ap (λ u. k ∷ u) a.in_order; fitting = a.fitting }

repeated-numbers : {n k l : ℕ} {p : Pattern} (least most : ℕ) (greedy : Bool) → NumbersFrom n k p l → least ≤ most → NumbersFrom n k (repeated p k l least most greedy) l
repeated-numbers {k = k} {l = l} {p = p} least most greedy a h =
    let e : length (names_of p) ≡ l - k = omega (arith, a.counted) in
    record {
      counted = a.counted;
      in_order = a.in_order;
      fitting = (omega (arith, a.counted), a.in_order ∙ ap (count_up k) e, h, a.fitting);
    }

escape-numbers : {n k : ℕ} (e : Escape) → FitsGroups n (tree_of e) → NumbersFrom n k (tree_of e) k
escape-numbers (point c) h = no_groups (character c) refl refl tt
escape-numbers (set s) h = no_groups (class_escape s) refl refl tt
escape-numbers (groups ks) h = no_groups (reference ks) refl refl h

-- a tree around another that adds no group
wrapped-numbers : {n k l : ℕ} {p : Pattern} (q : Pattern) → names_of q ≡ names_of p → group_numbers q ≡ group_numbers p → (FitsGroups n p → FitsGroups n q)
    → NumbersFrom n k p l → NumbersFrom n k q l
wrapped-numbers {k = k} q e f g a = record {
  counted = omega (arith, a.counted, ap length e);
  in_order = f ∙ (a.in_order ∙ ap (λ u. count_up k (length u)) (sym e));
  fitting = g a.fitting;
}

mutual
  Disjunction-numbers : (m : Mode) {t r : List ℕ} {k l : ℕ} {p : Pattern} → Disjunction m t k p l r → NumbersFrom (length m.names) k p l
  Disjunction-numbers m (one h e) = Alternative-numbers m h
  Disjunction-numbers m (more h i) = choice-numbers (Alternative-numbers m h) (Disjunction-numbers m i)

  Alternative-numbers : (m : Mode) {t r : List ℕ} {k l : ℕ} {p : Pattern} → Alternative m t k p l r → NumbersFrom (length m.names) k p l
  Alternative-numbers m (done e) = no_groups nothing refl refl tt
  Alternative-numbers m (next h i) = sequence-numbers (Term-numbers m h) (Alternative-numbers m i)

  Term-numbers : (m : Mode) {t r : List ℕ} {k l : ℕ} {p : Pattern} → Term m t k p l r → NumbersFrom (length m.names) k p l
  Term-numbers m start = no_groups line_start refl refl tt
  Term-numbers m end = no_groups line_end refl refl tt
  Term-numbers m boundary = no_groups (word_boundary false) refl refl tt
  Term-numbers m no_boundary = no_groups (word_boundary true) refl refl tt
  Term-numbers m (behind {p = p} h) =
      wrapped-numbers {p = p} (look false true p) refl refl (λ f. f) (Disjunction-numbers m h)
  Term-numbers m (not_behind {p = p} h) =
      wrapped-numbers {p = p} (look true true p) refl refl (λ f. f) (Disjunction-numbers m h)
  Term-numbers m (ahead h n) = Lookahead-numbers m h
  Term-numbers m (repeated_ahead {v = v} {b = b} un h e le) =
      repeated-numbers b.least b.most (greedy_at v) (Lookahead-numbers m h) le
  Term-numbers m (once h n) = Atom-numbers m h
  Term-numbers m (quantified {v = v} {b = b} h e le) = repeated-numbers b.least b.most (greedy_at v) (Atom-numbers m h) le

  Lookahead-numbers : (m : Mode) {t r : List ℕ} {k l : ℕ} {p : Pattern} → Lookahead m t k p l r → NumbersFrom (length m.names) k p l
  Lookahead-numbers m (positive {p = p} h) =
      wrapped-numbers {p = p} (look false false p) refl refl (λ f. f) (Disjunction-numbers m h)
  Lookahead-numbers m (negative {p = p} h) =
      wrapped-numbers {p = p} (look true false p) refl refl (λ f. f) (Disjunction-numbers m h)

  Atom-numbers : (m : Mode) {t r : List ℕ} {k l : ℕ} {p : Pattern} → Atom m t k p l r → NumbersFrom (length m.names) k p l
  Atom-numbers m dot = no_groups any refl refl tt
  Atom-numbers m (plain {c = c} e) = no_groups (character c) refl refl tt
  Atom-numbers m (escape {t = t} {e = e} n h) = escape-numbers e ((escape_at-fits m t).holds h)
  Atom-numbers m (a_class {s = s} n h) = no_groups (class false s) refl refl tt
  Atom-numbers m (a_negated_class {s = s} h n) = no_groups (class true s) refl refl tt
  Atom-numbers m (group n h) = capture-numbers None (Disjunction-numbers m h)
  Atom-numbers m (named_group {name = name} n e h) = capture-numbers (Some name) (Disjunction-numbers m h)
  Atom-numbers m (uncaptured {p = p} h) = wrapped-numbers {p = p} (grouped p) refl refl (λ f. f) (Disjunction-numbers m h)
  Atom-numbers m (atomic_group {p = p} h) = wrapped-numbers {p = p} (atomic p) refl refl (λ f. f) (Disjunction-numbers m h)
  Atom-numbers m (modifiers {on = on} {p = p} e n d h) =
      wrapped-numbers {p = p} (modified (settings_of on) (settings_of []) p) refl refl (λ f. f) (Disjunction-numbers m h)
  Atom-numbers m (modifiers_off {on = on} {off = off} {p = p} e f n d h) =
      wrapped-numbers {p = p} (modified (settings_of on) (settings_of off) p) refl refl (λ f. f) (Disjunction-numbers m h)

-- so many groups are opened as the tree has names
pub Alternative-counts : (m : Mode) {t r : List ℕ} {k l : ℕ} {p : Pattern} → Alternative m t k p l r → l ≡ k + length (names_of p)
Alternative-counts m h = (Alternative-numbers m h).counted

pub Term-counts : (m : Mode) {t r : List ℕ} {k l : ℕ} {p : Pattern} → Term m t k p l r → l ≡ k + length (names_of p)
Term-counts m h = (Term-numbers m h).counted

pub Disjunction-counts : (m : Mode) {t r : List ℕ} {k l : ℕ} {p : Pattern} → Disjunction m t k p l r → l ≡ k + length (names_of p)
Disjunction-counts m h = (Disjunction-numbers m h).counted

pub Spells-numbers : (table : Table) (o : Options) (text : List ℕ) (p : Pattern) → Spells table o text p → IsNumbered p
Spells-numbers table o text p h =
    let a = Disjunction-numbers (mode_of table o text (names_of p)) h.whole in
    record { in_order = a.in_order; fitting = a.fitting }
