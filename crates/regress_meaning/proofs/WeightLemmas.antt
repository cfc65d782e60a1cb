-- A spelled tree is small: it takes few nodes for each code point that it is read from, and has no more groups and no more
-- quantifiers than there are.
use Rattle.std.proofs.Common.{◌≡◌, ℕ, suc, ◌+◌, ◌*◌, ◌<◌, ◌≤◌, Bool, List, [], ◌∷◌, length, Some, None, true, false, refl, arith, length-append}
use Rattle.std.proofs.lemmas.Bool.{cond_both}
use Rattle.std.proofs.Math.Nat.{mul-le-mul_left}
use Rattle.regress_meaning.proofs.Inversion.{gives-weaker, gives-any}
use Rattle.regress_meaning.proofs.EscapeKinds.{HoldsOfEach, escape_at-each}
use Rattle.regress_meaning.proofs.Shorter.{bounds_at-shorter, escape_at-shorter, name_at-shorter, span-rest, after_mark-shorter, ClassBody-shorter}
use Rattle.regress_meaning.specs.Text.{same_text}
use Rattle.regress_meaning.specs.Table.{Table}
use Rattle.regress_meaning.specs.Pattern.{Pattern, names_of, character, any, class, class_escape, sequence, choice, capture, grouped, atomic, modified, repeated, look, reference, line_start, line_end, word_boundary}
use Rattle.regress_meaning.specs.Flags.{Options, settings_of}
use Rattle.regress_meaning.specs.Tokens.{Mode, numbers_from, class_letter, property_at, Escape, point, set, groups}
use Rattle.regress_meaning.specs.Grammar.{greedy_at, is_flag, tree_of, Disjunction, one, more, Alternative, done, next, Term, start, end, boundary, no_boundary, behind, not_behind, ahead, repeated_ahead, once, quantified, Lookahead, positive, negative, Atom, dot, plain, escape, a_class, a_negated_class, group, named_group, uncaptured, atomic_group, modifiers, modifiers_off, mode_of, Spells}
use Rattle.regress_meaning.specs.Limits.{quantifiers}
use Rattle.regress_meaning.specs.Weights.{weight}

-- a shorter text takes less, by one share at least
less : (g : ℕ) (t r : List ℕ) → length r < length t → g * length r + g ≤ g * length t
less g t r h =
    let step : g * (length r + 1) ≤ g * length t = mul-le-mul_left g (omega (arith, h)) in
    omega (arith, step)

-- A tree takes at most g nodes for each code point that it is read from, and so many besides; it has at most as many groups
-- and as many quantifiers as there are.
record Fits (g besides : ℕ) (t : List ℕ) (p : Pattern) (r : List ℕ) : Type 0 where
  nodes : weight p + g * length r ≤ g * length t + besides
  groups : length (names_of p) + length r ≤ length t
  loops : quantifiers p + length r ≤ length t

-- a tree with no parts
leaf-fits : {g : ℕ} {t r : List ℕ} (p : Pattern) → weight p ≤ g → length (names_of p) ≡ 0 → quantifiers p ≡ 0
    → length r < length t → Fits g 0 t p r
leaf-fits {g = g} {t = t} {r = r} p w e f h = record {
  nodes = omega (arith, w, less g t r h);
  groups = omega (arith, e, h);
  loops = omega (arith, f, h);
}

-- a tree around another, whose end is a mark
around-fits : {g : ℕ} {t u r : List ℕ} {c : ℕ} (p q : Pattern) → 2 ≤ g → weight q ≤ weight p + 1
    → length (names_of q) ≤ length (names_of p) + 1 → quantifiers q ≤ quantifiers p
    → length u < length t → Fits g 1 u p (c ∷ r) → Fits g 0 t q r
around-fits {g = g} {t = t} {u = u} {r = r} {c = c} p q two w n l h a = record {
  nodes = omega (arith, two, w, less g t u h, less g (c ∷ r) r (omega arith), a.nodes);
  groups = omega (arith, n, h, a.groups);
  loops = omega (arith, l, h, a.loops);
}

-- a tree with a quantifier
repeated-fits : {g : ℕ} {t u r : List ℕ} (p : Pattern) (k l least most : ℕ) (greedy : Bool) → 2 ≤ g → length r < length u
    → Fits g 0 t p u → Fits g 0 t (repeated p k l least most greedy) r
repeated-fits {g = g} {u = u} {r = r} p k l least most greedy two h a = record {
  nodes = omega (arith, two, less g u r h, a.nodes);
  groups = omega (arith, h, a.groups);
  loops = omega (arith, h, a.loops);
}

sequence-fits : {g : ℕ} {t u r : List ℕ} (p q : Pattern) → Fits g 0 t p u → Fits g 1 u q r → Fits g 1 t (sequence p q) r
sequence-fits p q a b = record {
  nodes = omega (arith, a.nodes, b.nodes);
  groups = omega (arith, a.groups, b.groups, length-append (names_of p) (names_of q));
  loops = omega (arith, a.loops, b.loops);
}

choice-fits : {g : ℕ} {t u r : List ℕ} {c : ℕ} (p q : Pattern) → 2 ≤ g → Fits g 1 t p (c ∷ u) → Fits g 1 u q r
    → Fits g 1 t (choice p q) r
choice-fits {g = g} {u = u} {c = c} p q two a b = record {
  nodes = omega (arith, two, less g (c ∷ u) u (omega arith), a.nodes, b.nodes);
  groups = omega (arith, a.groups, b.groups, length-append (names_of p) (names_of q));
  loops = omega (arith, a.loops, b.loops);
}

-- a name has at most as many groups as there are
numbers_from-few : (k : ℕ) (name : List ℕ) (names : List (List ℕ)) → length (numbers_from k name names) ≤ length names
numbers_from-few k name [] = omega arith
numbers_from-few k name (other ∷ names) =
    let rest = numbers_from-few (k + 1) name names in
    cond_both (same_text name other) _ _ (λ (ks : List ℕ). length ks ≤ suc (length names)) (λ _. omega arith) (λ _. omega arith)

module _ (m : Mode) where
  -- how many nodes a code point stands for at most
  abbrev share : ℕ
  share = length m.names + 2

  two : 2 ≤ share
  two = omega arith

  abbrev IsSmall : Escape → Type 0
  IsSmall e = weight (tree_of e) ≤ share

  each-small : HoldsOfEach m IsSmall
  each-small = record {
    of_point = λ c. omega arith;
    of_letter = λ c. gives-weaker (λ s h. omega arith) (gives-any (class_letter c));
    of_key = λ c t. gives-weaker (λ p h. omega arith) (gives-any (property_at m c t));
    of_number = λ k. omega arith;
    of_name = λ name. omega (arith, numbers_from-few 0 name m.names);
  }

  escape-fits : {t r : List ℕ} (e : Escape) → IsSmall e → length r < length t → Fits share 0 t (tree_of e) r
  escape-fits (point c) h shorter = leaf-fits (character c) h refl refl shorter
  escape-fits (set s) h shorter = leaf-fits (class_escape s) h refl refl shorter
  escape-fits (groups ks) h shorter = leaf-fits (reference ks) h refl refl shorter

  -- a leaf of one node
  one-fits : {t r : List ℕ} (p : Pattern) → weight p ≡ 1 → length (names_of p) ≡ 0 → quantifiers p ≡ 0
      → length r < length t → Fits share 0 t p r
  one-fits p w e f h = leaf-fits p (omega (arith, w)) e f h

  mutual
    Disjunction-fits : {t r : List ℕ} {k l : ℕ} {p : Pattern} → Disjunction m t k p l r → Fits share 1 t p r
    Disjunction-fits (one h e) = Alternative-fits h
    Disjunction-fits (more {p = p} {q = q} h i) = choice-fits p q two (Alternative-fits h) (Disjunction-fits i)

    Alternative-fits : {t r : List ℕ} {k l : ℕ} {p : Pattern} → Alternative m t k p l r → Fits share 1 t p r
    Alternative-fits (done e) = record { nodes = omega arith; groups = omega arith; loops = omega arith }
    Alternative-fits (next {p = p} {q = q} h i) = sequence-fits p q (Term-fits h) (Alternative-fits i)

    Term-fits : {t r : List ℕ} {k l : ℕ} {p : Pattern} → Term m t k p l r → Fits share 0 t p r
    Term-fits start = one-fits line_start refl refl refl (omega arith)
    Term-fits end = one-fits line_end refl refl refl (omega arith)
    Term-fits boundary = one-fits (word_boundary false) refl refl refl (omega arith)
    Term-fits no_boundary = one-fits (word_boundary true) refl refl refl (omega arith)
    Term-fits (behind {p = p} h) =
        around-fits p (look false true p) two (omega arith) (omega arith) (omega arith) (omega arith) (Disjunction-fits h)
    Term-fits (not_behind {p = p} h) =
        around-fits p (look true true p) two (omega arith) (omega arith) (omega arith) (omega arith) (Disjunction-fits h)
    Term-fits (ahead h n) = Lookahead-fits h
    Term-fits (repeated_ahead {u = u} {v = v} {k = k} {l = l} {p = p} {b = b} un h e le) =
        repeated-fits p k l b.least b.most (greedy_at v) two
        (omega (arith, bounds_at-shorter u e, after_mark-shorter v)) (Lookahead-fits h)
    Term-fits (once h n) = Atom-fits h
    Term-fits (quantified {u = u} {v = v} {k = k} {l = l} {p = p} {b = b} h e le) =
        repeated-fits p k l b.least b.most (greedy_at v) two
        (omega (arith, bounds_at-shorter u e, after_mark-shorter v)) (Atom-fits h)

    Lookahead-fits : {t r : List ℕ} {k l : ℕ} {p : Pattern} → Lookahead m t k p l r → Fits share 0 t p r
    Lookahead-fits (positive {p = p} h) =
        around-fits p (look false false p) two (omega arith) (omega arith) (omega arith) (omega arith) (Disjunction-fits h)
    Lookahead-fits (negative {p = p} h) =
        around-fits p (look true false p) two (omega arith) (omega arith) (omega arith) (omega arith) (Disjunction-fits h)

    Atom-fits : {t r : List ℕ} {k l : ℕ} {p : Pattern} → Atom m t k p l r → Fits share 0 t p r
    Atom-fits dot = one-fits any refl refl refl (omega arith)
    Atom-fits (plain {c = c} e) = one-fits (character c) refl refl refl (omega arith)
    Atom-fits (escape {t = t} {e = e} n h) =
        escape-fits e ((escape_at-each m IsSmall each-small t).holds h) (omega (arith, escape_at-shorter m t h))
    Atom-fits (a_class {s = s} n h) = one-fits (class false s) refl refl refl (omega (arith, ClassBody-shorter m h))
    Atom-fits (a_negated_class {s = s} h n) = one-fits (class true s) refl refl refl (omega (arith, ClassBody-shorter m h))
    Atom-fits (group {k = k} {p = p} n h) =
        around-fits p (capture k None p) two (omega arith) (omega arith) (omega arith) (omega arith) (Disjunction-fits h)
    Atom-fits (named_group {t = t} {name = name} {k = k} {p = p} n e h) =
        around-fits p (capture k (Some name) p) two (omega arith) (omega arith) (omega arith)
        (omega (arith, name_at-shorter m.table t e)) (Disjunction-fits h)
    Atom-fits (uncaptured {p = p} h) =
        around-fits p (grouped p) two (omega arith) (omega arith) (omega arith) (omega arith) (Disjunction-fits h)
    Atom-fits (atomic_group {p = p} h) =
        around-fits p (atomic p) two (omega arith) (omega arith) (omega arith) (omega arith) (Disjunction-fits h)
    Atom-fits (modifiers {t = t} {on = on} {p = p} e n d h) =
        around-fits p (modified (settings_of on) (settings_of []) p) two (omega arith) (omega arith) (omega arith)
        (omega (arith, span-rest is_flag t e)) (Disjunction-fits h)
    Atom-fits (modifiers_off {t = t} {u = u} {on = on} {off = off} {p = p} e f n d h) =
        around-fits p (modified (settings_of on) (settings_of off) p) two (omega arith) (omega arith) (omega arith)
        (omega (arith, span-rest is_flag t e, span-rest is_flag u f)) (Disjunction-fits h)

Spells-fits : {table : Table} {o : Options} {text : List ℕ} {p : Pattern} → Spells table o text p
    → Fits (length (names_of p) + 2) 1 text p []
Spells-fits {table = table} {o = o} {text = text} {p = p} h = Disjunction-fits (mode_of table o text (names_of p)) h.whole

pub Spells-weight : (table : Table) (o : Options) (text : List ℕ) (p : Pattern) → Spells table o text p
    → weight p ≤ (length (names_of p) + 2) * length text + 1
Spells-weight table o text p h = omega (arith, (Spells-fits h).nodes)

pub Spells-groups : (table : Table) (o : Options) (text : List ℕ) (p : Pattern) → Spells table o text p
    → length (names_of p) ≤ length text
Spells-groups table o text p h = omega (arith, (Spells-fits h).groups)

pub Spells-loops : (table : Table) (o : Options) (text : List ℕ) (p : Pattern) → Spells table o text p
    → quantifiers p ≤ length text
Spells-loops table o text p h = omega (arith, (Spells-fits h).loops)
