-- What the grammar derives, the reading function answers, where it may go deep enough.
use Rattle.std.proofs.lemmas.Bool.{le-leb, not_from_false}
use Rattle.std.proofs.Common.{◌≡◌, ℕ, zero, suc, ◌+◌, ◌*◌, ◌<◌, ◌≤◌, Bool, true, false, not, ◌==◌, List, [], ◌∷◌, length, Option, Some, None, refl, ap, ◌∙◌, eqb-true, ⊎_elim, arith}
use Rattle.regress_meaning.specs.Text.{◌∈◌, is_at, span}
use Rattle.regress_meaning.specs.Pattern.{Pattern, capture, grouped, atomic, modified, repeated, look}
use Rattle.regress_meaning.specs.Flags.{settings_of}
use Rattle.regress_meaning.specs.Tokens.{Mode, Bounds, bounds_at}
use Rattle.regress_meaning.specs.Grammar.{Disjunction, Alternative, Term, Lookahead, Atom, one, more, done, next, start, end, boundary, no_boundary, behind, not_behind, ahead, repeated_ahead, once, quantified as with_bounds, positive, negative, dot, plain, escape, a_class, a_negated_class, group, named_group, uncaptured, atomic_group, modifiers, modifiers_off, ends_alternative, ends_disjunction, greedy_at, after_mark, is_flag, is_pattern_character}
use Rattle.regress_meaning.specs.Reading.{opening, escape_opening, Front, bounded, quantified, closed, closed_and_quantified, read_term, alternatives_if, alternatives, terms, read_terms, read_disjunction, read_alternative}
use Rattle.regress_meaning.proofs.Openings.{either_mark}
use Rattle.regress_meaning.proofs.OpeningsComplete.{neither, plain-opening, escape-opening, class-opening, negated_class-opening, group-opening, named_group-opening, modifiers-opening, modifiers_off-opening, uncaptured-opening, atomic_group-opening, positive-opening, negative-opening, behind-opening, not_behind-opening}
use Rattle.regress_meaning.proofs.Shorter.{span-shorter, name_at-shorter, Alternative-shorter, Term-shorter}

abbrev pub front : Pattern → ℕ → List ℕ → Front
front p l r = record { tree = p; opened = l; rest = r }

not_bounded : (allowed : Bool) (k : ℕ) (f : Front) → bounds_at f.rest ≡ None → quantified allowed k f ≡ Some f
unfolding quantified bounded
not_bounded allowed k f h = rw h refl

is_bounded : (allowed : Bool) (k : ℕ) (f : Front) (b : Bounds) (r : List ℕ) → allowed ≡ true → bounds_at f.rest ≡ Some (b, r) → b.least ≤ b.most
    → quantified allowed k f ≡ Some (front (repeated f.tree k f.opened b.least b.most (greedy_at r)) f.opened (after_mark r))
unfolding quantified bounded
is_bounded allowed k f b r h g o = rw (g, h, le-leb b.least b.most o) refl

-- what stands behind a front and one more code point is shorter
span-leaves_shorter : (test : ℕ → Bool) (t cs u : List ℕ) (c : ℕ) → span test t ≡ (cs, c ∷ u) → length u < length t
span-leaves_shorter test t cs u c e =
    let whole = span-shorter test t in
    let rest : length (span test t).1 ≡ suc (length u) = ap (λ x. length x.1) e in
    omega arith

module _ (m : Mode) (coherent : m.sets ≡ true → m.unicode ≡ true) (read : List ℕ → ℕ → Option Front) where
  -- the reader reads the contents of parentheses, where they are shorter than n
  abbrev pub ReadsBelow : ℕ → Type 0
  ReadsBelow n = (t : List ℕ) (k l : ℕ) (p : Pattern) (r : List ℕ) → length t < n → Disjunction m t k p l r → read t k ≡ Some (front p l r)

  closed-complete : (allowed : Bool) (k j l : ℕ) (wrap : Pattern → Pattern) (u r : List ℕ) (p : Pattern) → read u j ≡ Some (front p l (0x29 ∷ r))
      → closed_and_quantified allowed k wrap (read u j) ≡ quantified allowed k (front (wrap p) l r)
  unfolding closed_and_quantified closed
  closed-complete allowed k j l wrap u r p h = rw h refl

  atom-complete : {t r : List ℕ} {k l : ℕ} {p : Pattern} → ReadsBelow (length t) → Atom m t k p l r → read_term m read k (opening m t) ≡ quantified true k (front p l r)
  unfolding read_term opening
  atom-complete reads dot = refl
  atom-complete reads (plain {c} {r} h) = rw (plain-opening m c r h) refl
  atom-complete reads (escape {t} {r} {k} {e} h g) = rw (escape-opening m t e r h g) refl
  atom-complete reads (a_class {t} {r} {k} {s} h d) = rw (class-opening m coherent t s r h d) refl
  atom-complete reads (a_negated_class {t} {r} {k} {s} d h) = rw (negated_class-opening m coherent t s r d h) refl
  atom-complete reads (group {t} {r} {k} {l} {p} h d) =
      rw (group-opening m t h) (closed-complete true k (suc k) l (capture k None) t r p (reads t (suc k) l p (0x29 ∷ r) (omega arith) d))
  atom-complete reads (named_group {t} {u} {r} {name} {k} {l} {p} h e d) =
      let shorter = name_at-shorter m.table t e in
      rw (named_group-opening m t name u h e) (closed-complete true k (suc k) l (capture k (Some name)) u r p (reads u (suc k) l p (0x29 ∷ r) (omega arith) d))
  atom-complete reads (uncaptured {t} {r} {k} {l} {p} d) =
      rw (uncaptured-opening m t) (closed-complete true k k l grouped t r p (reads t k l p (0x29 ∷ r) (omega arith) d))
  atom-complete reads (atomic_group {t} {r} {k} {l} {p} d) =
      rw (atomic_group-opening m t) (closed-complete true k k l atomic t r p (reads t k l p (0x29 ∷ r) (omega arith) d))
  atom-complete reads (modifiers {t} {u} {r} {on} {k} {l} {p} e a b d) =
      let shorter = span-leaves_shorter is_flag t on u 0x3A e in
      rw (modifiers-opening m t on u e a b) (closed-complete true k k l (modified (settings_of on) (settings_of [])) u r p (reads u k l p (0x29 ∷ r) (omega arith) d))
  atom-complete reads (modifiers_off {t} {u} {v} {r} {on} {off} {k} {l} {p} e g a b d) =
      let shorter = span-leaves_shorter is_flag t on u 0x2D e in
      let shorter_still = span-leaves_shorter is_flag u off v 0x3A g in
      rw (modifiers_off-opening m t on off u v e g a b)
      (closed-complete true k k l (modified (settings_of on) (settings_of off)) v r p (reads v k l p (0x29 ∷ r) (omega arith) d))

  lookahead-complete : {t r : List ℕ} {k l : ℕ} {p : Pattern} → ReadsBelow (length t) → Lookahead m t k p l r → read_term m read k (opening m t) ≡ quantified (not m.unicode) k (front p l r)
  unfolding read_term
  lookahead-complete reads (positive {t} {r} {k} {l} {p} d) =
      rw (positive-opening m t) (closed-complete (not m.unicode) k k l (look false false) t r p (reads t k l p (0x29 ∷ r) (omega arith) d))
  lookahead-complete reads (negative {t} {r} {k} {l} {p} d) =
      rw (negative-opening m t) (closed-complete (not m.unicode) k k l (look true false) t r p (reads t k l p (0x29 ∷ r) (omega arith) d))

  pub term-complete : {t r : List ℕ} {k l : ℕ} {p : Pattern} → ReadsBelow (length t) → Term m t k p l r → read_term m read k (opening m t) ≡ Some (front p l r)
  unfolding read_term opening escape_opening closed
  term-complete reads start = refl
  term-complete reads end = refl
  term-complete reads boundary = refl
  term-complete reads no_boundary = refl
  term-complete reads (behind {t} {r} {k} {l} {p} d) = rw (behind-opening m t, reads t k l p (0x29 ∷ r) (omega arith) d) refl
  term-complete reads (not_behind {t} {r} {k} {l} {p} d) = rw (not_behind-opening m t, reads t k l p (0x29 ∷ r) (omega arith) d) refl
  term-complete reads (ahead {t} {r} {k} {l} {p} d h) = lookahead-complete reads d ∙ not_bounded (not m.unicode) k (front p l r) h
  term-complete reads (repeated_ahead {t} {u} {v} {k} {l} {p} {b} free d h o) =
      lookahead-complete reads d ∙ is_bounded (not m.unicode) k (front p l u) b v (not_from_false m.unicode free) h o
  term-complete reads (once {t} {r} {k} {l} {p} d h) = atom-complete reads d ∙ not_bounded true k (front p l r) h
  term-complete reads (with_bounds {t} {u} {v} {k} {l} {p} {b} d h o) = atom-complete reads d ∙ is_bounded true k (front p l u) b v refl h o

-- no pattern character ends an alternative
plain-goes_on : (m : Mode) (c : ℕ) (r : List ℕ) → is_pattern_character m c r ≡ true → (c ∈ "|)") ≡ false
plain-goes_on m c r h = go (c ∈ "|)") refl
  where
    is_none : (d : ℕ) → is_pattern_character m d r ≡ false → c ≡ d → (c ∈ "|)") ≡ false
    is_none d not_plain p = let wrong : is_pattern_character m d r ≡ true = rw p at h in cc

    go : (b : Bool) → (c ∈ "|)") ≡ b → (c ∈ "|)") ≡ false
    go false e = e
    go true e = ⊎_elim (is_none 0x7C (neither m.unicode)) (is_none 0x29 (neither m.unicode)) (either_mark 0x7C 0x29 c e)

-- where an alternative goes on, the text did not end it
atom-goes_on : {m : Mode} {t r : List ℕ} {k l : ℕ} {p : Pattern} → Atom m t k p l r → ends_alternative t ≡ false
atom-goes_on dot = refl
atom-goes_on {m} (plain {c} {r} h) = plain-goes_on m c r h
atom-goes_on (escape h g) = refl
atom-goes_on (a_class h d) = refl
atom-goes_on (a_negated_class d h) = refl
atom-goes_on (group h d) = refl
atom-goes_on (named_group h e d) = refl
atom-goes_on (uncaptured d) = refl
atom-goes_on (atomic_group d) = refl
atom-goes_on (modifiers e a b d) = refl
atom-goes_on (modifiers_off e g a b d) = refl

lookahead-goes_on : {m : Mode} {t r : List ℕ} {k l : ℕ} {p : Pattern} → Lookahead m t k p l r → ends_alternative t ≡ false
lookahead-goes_on (positive d) = refl
lookahead-goes_on (negative d) = refl

goes_on : {m : Mode} {t r : List ℕ} {k l : ℕ} {p : Pattern} → Term m t k p l r → ends_alternative t ≡ false
goes_on start = refl
goes_on end = refl
goes_on boundary = refl
goes_on no_boundary = refl
goes_on (behind d) = refl
goes_on (not_behind d) = refl
goes_on (ahead d h) = lookahead-goes_on d
goes_on (repeated_ahead free d h o) = lookahead-goes_on d
goes_on (once d h) = atom-goes_on d
goes_on (with_bounds d h o) = atom-goes_on d

-- no `|` stands where a disjunction ends
no_bar : (r : List ℕ) → ends_disjunction r ≡ true → is_at (λ c. c == 0x7C) r ≡ false
no_bar [] h = refl
no_bar (c ∷ r) h = rw (eqb-true c 0x29 h) refl

module _ (m : Mode) (coherent : m.sets ≡ true → m.unicode ≡ true) where
  mutual
    unfolding read_disjunction read_alternative alternatives alternatives_if read_terms terms

    pub read_disjunction-complete : (n : ℕ) {t r : List ℕ} {k l : ℕ} {p : Pattern} → 3 * length t + 3 ≤ n → Disjunction m t k p l r → read_disjunction m n t k ≡ Some (front p l r)
    read_disjunction-complete zero room d = absurd (omega arith)
    read_disjunction-complete (suc n) room (one {t} {r} d h) = rw (read_alternative-complete n (omega arith) d, no_bar r h) refl
    read_disjunction-complete (suc n) room (more d e) =
        let shorter = Alternative-shorter m d in
        rw (read_alternative-complete n (omega arith) d, read_disjunction-complete n (omega arith) e) refl

    pub read_alternative-complete : (n : ℕ) {t r : List ℕ} {k l : ℕ} {p : Pattern} → 3 * length t + 2 ≤ n → Alternative m t k p l r → read_alternative m n t k ≡ Some (front p l r)
    read_alternative-complete zero room d = absurd (omega arith)
    read_alternative-complete (suc n) room (done h) = rw h refl
    read_alternative-complete (suc n) room (next d e) =
        let shorter = Term-shorter m d in
        rw (goes_on d, term-complete m coherent (read_disjunction m n) (λ s i j p r below d. read_disjunction-complete n (omega arith) d) d, read_alternative-complete n (omega arith) e) refl
