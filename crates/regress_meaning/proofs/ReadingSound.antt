-- What the reading function answers, the grammar derives.
use Rattle.std.proofs.Common.{◌≡◌, ℕ, zero, suc, Bool, true, false, not, ◌&&◌, ◌==◌, List, [], ◌∷◌, drop, Option, Some, None, nat_le, option_and_then, refl, sym, subst, ⊎_elim}
use Rattle.std.proofs.lemmas.Bool.{and_parts, not-true, leb-true}
use Rattle.regress_meaning.specs.Text.{is_at}
use Rattle.regress_meaning.specs.Pattern.{Pattern, nothing, sequence, choice, capture, grouped, atomic, modified, look}
use Rattle.regress_meaning.specs.Flags.{settings_of}
use Rattle.regress_meaning.specs.Tokens.{Mode, Bounds, bounds_at}
use Rattle.regress_meaning.specs.Grammar.{Disjunction, Alternative, Term, Lookahead, Atom, one, more, done, next, ahead, repeated_ahead, once, quantified as with_bounds, ends_alternative, ends_disjunction}
use Rattle.regress_meaning.specs.Reading.{Opening, assertion, single, lookahead, lookbehind, group, named_group, uncaptured, atomic_group, modifiers, no_term, opening, Front, bounded, quantified, closed, closed_and_quantified, read_term, joined_by, alternatives_if, alternatives, terms, read_terms, read_disjunction, read_alternative}
use Rattle.regress_meaning.proofs.Inversion.{guard-some, and_then-some, map-some, is_at-eq, if-cases}
use Rattle.regress_meaning.proofs.Openings.{either_mark, Fits, opening-fits}

-- an alternative ends where the grammar ends one
pub Alternative-ends : {m : Mode} {t r : List ℕ} {k l : ℕ} {p : Pattern} → Alternative m t k p l r → ends_alternative r ≡ true
Alternative-ends (done h) = h
Alternative-ends (next d e) = Alternative-ends e

-- where an alternative ends and no `|` stands, the disjunction ends
disjunction_ends : (r : List ℕ) → ends_alternative r ≡ true → is_at (λ c. c == 0x7C) r ≡ false → ends_disjunction r ≡ true
disjunction_ends [] h g = refl
disjunction_ends (c ∷ r) h g = ⊎_elim (λ p. absurd (bar p)) (λ p. rw p refl) (either_mark 0x7C 0x29 c h)
  where
    bar : c ≡ 0x7C → ⊥
    bar p = let no : true ≡ false = rw p at g in cc

module _ (m : Mode) where
  -- the grammar derives the front from the text, by one of its relations
  abbrev pub IsFront : (List ℕ → ℕ → Pattern → ℕ → List ℕ → Type 0) → List ℕ → ℕ → Front → Type 0
  IsFront relation t k f = relation t k f.tree f.opened f.rest

  -- a function reads disjunctions
  abbrev pub ReadsDisjunctions : (List ℕ → ℕ → Option Front) → Type 0
  ReadsDisjunctions read = (t : List ℕ) (k : ℕ) (f : Front) → read t k ≡ Some f → IsFront (Disjunction m) t k f

  -- two values that were both found are one
  found : {A : Type 0} {a b : A} → Some a ≡ Some b → a ≡ b
  found e = cc

  module _ (t : List ℕ) (k : ℕ) (f g : Front) where
    atom_bounded-sound : (o : Option (Bounds × List ℕ)) → bounds_at f.rest ≡ o → IsFront (Atom m) t k f → bounded true k f o ≡ Some g → IsFront (Term m) t k g
    unfolding bounded
    atom_bounded-sound None h d e = subst (IsFront (Term m) t k) (found e) (once d h)
    atom_bounded-sound (Some (b, r)) h d e =
        let (test, given) = guard-some (true && nat_le b.least b.most) e in
        subst (IsFront (Term m) t k) (found given) (with_bounds d h (leb-true b.least b.most test))

    lookahead_bounded-sound : (o : Option (Bounds × List ℕ)) → bounds_at f.rest ≡ o → IsFront (Lookahead m) t k f → bounded (not m.unicode) k f o ≡ Some g → IsFront (Term m) t k g
    unfolding bounded
    lookahead_bounded-sound None h d e = subst (IsFront (Term m) t k) (found e) (ahead d h)
    lookahead_bounded-sound (Some (b, r)) h d e =
        let (test, given) = guard-some (not m.unicode && nat_le b.least b.most) e in
        let (free, ordered) = and_parts (not m.unicode) (nat_le b.least b.most) test in
        subst (IsFront (Term m) t k) (found given) (repeated_ahead (not-true m.unicode free) d h (leb-true b.least b.most ordered))

  -- contents up to `)`: what the grammar makes of them is what `closed` answers
  closed-sound : (relation : List ℕ → ℕ → Pattern → ℕ → List ℕ → Type 0) (wrap : Pattern → Pattern) (t u : List ℕ) (j k : ℕ) (f g : Front)
      → ((r : List ℕ) → Disjunction m u j f.tree f.opened (0x29 ∷ r) → relation t k (wrap f.tree) f.opened r)
      → IsFront (Disjunction m) u j f → closed wrap f ≡ Some g → IsFront relation t k g
  unfolding closed
  closed-sound relation wrap t u j k f g make d e =
      let (test, given) = guard-some (is_at (λ c. c == 0x29) f.rest) e in
      let (r, closing) = is_at-eq 0x29 f.rest test in
      let d' = rw closing at d in
      subst (IsFront relation t k) (found given) (subst (λ s. relation t k (wrap f.tree) f.opened (drop 1 s)) (sym closing) (make r d'))

  module _ (read : List ℕ → ℕ → Option Front) (read-sound : ReadsDisjunctions read) where
    -- the same with the quantifier behind, for an atom and for a lookahead
    atom_closed-sound : (wrap : Pattern → Pattern) (t u : List ℕ) (j k : ℕ) (o : Option Front) (g : Front) → read u j ≡ o
        → ((l : ℕ) (p : Pattern) (r : List ℕ) → Disjunction m u j p l (0x29 ∷ r) → Atom m t k (wrap p) l r)
        → closed_and_quantified true k wrap o ≡ Some g → IsFront (Term m) t k g
    unfolding closed_and_quantified
    atom_closed-sound wrap t u j k None g h make e = cc
    atom_closed-sound wrap t u j k (Some f) g h make e =
        let (inner, closing, behind) = and_then-some (quantified true k) (closed wrap f) e in
        atom_bounded-sound t k inner g (bounds_at inner.rest) refl
        (closed-sound (Atom m) wrap t u j k f inner (make f.opened f.tree) (read-sound u j f h) closing)
        (unfold quantified in behind)

    lookahead_closed-sound : (wrap : Pattern → Pattern) (t u : List ℕ) (k : ℕ) (o : Option Front) (g : Front) → read u k ≡ o
        → ((l : ℕ) (p : Pattern) (r : List ℕ) → Disjunction m u k p l (0x29 ∷ r) → Lookahead m t k (wrap p) l r)
        → closed_and_quantified (not m.unicode) k wrap o ≡ Some g → IsFront (Term m) t k g
    unfolding closed_and_quantified
    lookahead_closed-sound wrap t u k None g h make e = cc
    lookahead_closed-sound wrap t u k (Some f) g h make e =
        let (inner, closing, behind) = and_then-some (quantified (not m.unicode) k) (closed wrap f) e in
        lookahead_bounded-sound t k inner g (bounds_at inner.rest) refl
        (closed-sound (Lookahead m) wrap t u k k f inner (make f.opened f.tree) (read-sound u k f h) closing)
        (unfold quantified in behind)

    -- one term, by what begins it
    pub term-sound : (t : List ℕ) (k : ℕ) (g : Front) (o : Opening) → Fits m t o → read_term m read k o ≡ Some g → IsFront (Term m) t k g
    unfolding read_term
    term-sound t k g (assertion p r) fits e = subst (IsFront (Term m) t k) (found e) (fits k)
    term-sound t k g (single p r) fits e = atom_bounded-sound t k (record { tree = p; opened = k; rest = r }) g (bounds_at r) refl (fits k) (unfold quantified in e)
    term-sound t k g (lookahead negated u) fits e = lookahead_closed-sound (look negated false) t u k (read u k) g refl (λ l p r. fits k l p r) e
    term-sound t k g (lookbehind negated u) fits e =
        let (f, taken, closing) = and_then-some (closed (look negated true)) (read u k) e in
        closed-sound (Term m) (look negated true) t u k k f g (λ r. fits k f.opened f.tree r) (read-sound u k f taken) closing
    term-sound t k g (group u) fits e = atom_closed-sound (capture k None) t u (suc k) k (read u (suc k)) g refl (λ l p r. fits k l p r) e
    term-sound t k g (named_group name u) fits e = atom_closed-sound (capture k (Some name)) t u (suc k) k (read u (suc k)) g refl (λ l p r. fits k l p r) e
    term-sound t k g (uncaptured u) fits e = atom_closed-sound grouped t u k k (read u k) g refl (λ l p r. fits k l p r) e
    term-sound t k g (atomic_group u) fits e = atom_closed-sound atomic t u k k (read u k) g refl (λ l p r. fits k l p r) e
    term-sound t k g (modifiers on off u) fits e = atom_closed-sound (modified (settings_of on) (settings_of off)) t u k k (read u k) g refl (λ l p r. fits k l p r) e
    term-sound t k g no_term fits e = cc

    choice-sound : (t : List ℕ) (k : ℕ) (f g : Front) (u : List ℕ) → IsFront (Alternative m) t k f → f.rest ≡ 0x7C ∷ u → read (drop 1 f.rest) f.opened ≡ Some g
        → IsFront (Disjunction m) t k (joined_by choice f g)
    choice-sound t k f g u d bar taken = more (rw bar at d) (read-sound u f.opened g (rw bar at taken))

    -- an alternative, and behind `|` the rest
    alternatives_if-sound : (t : List ℕ) (k : ℕ) (f g : Front) (bar : Bool) → is_at (λ c. c == 0x7C) f.rest ≡ bar
        → IsFront (Alternative m) t k f → alternatives_if bar read f ≡ Some g → IsFront (Disjunction m) t k g
    unfolding alternatives_if
    alternatives_if-sound t k f g false h d e = subst (IsFront (Disjunction m) t k) (found e) (one d (disjunction_ends f.rest (Alternative-ends d) h))
    alternatives_if-sound t k f g true h d e =
        let (u, bar) = is_at-eq 0x7C f.rest h in
        let (q, taken, joined) = map-some (joined_by choice f) (read (drop 1 f.rest) f.opened) e in
        subst (IsFront (Disjunction m) t k) joined (choice-sound t k f q u d bar taken)

    alternatives-sound : (t : List ℕ) (k : ℕ) (f g : Front) → IsFront (Alternative m) t k f → alternatives read f ≡ Some g → IsFront (Disjunction m) t k g
    unfolding alternatives
    alternatives-sound t k f g d e = alternatives_if-sound t k f g (is_at (λ c. c == 0x7C) f.rest) refl d e

    module _ (rest : List ℕ → ℕ → Option Front) (rest-sound : (t : List ℕ) (k : ℕ) (f : Front) → rest t k ≡ Some f → IsFront (Alternative m) t k f) where
      terms-sound : (t : List ℕ) (k : ℕ) (f g : Front) → IsFront (Term m) t k f → terms rest f ≡ Some g → IsFront (Alternative m) t k g
      unfolding terms
      terms-sound t k f g d e =
          let (q, taken, joined) = map-some (joined_by sequence f) (rest f.rest f.opened) e in
          subst (IsFront (Alternative m) t k) joined (next d (rest-sound f.rest f.opened q taken))

      read_terms-sound : (t : List ℕ) (k : ℕ) (g : Front) → read_terms m read rest t k ≡ Some g → IsFront (Alternative m) t k g
      unfolding read_terms
      read_terms-sound t k g e = ⊎_elim ended further (if-cases (ends_alternative t) e)
        where
          ended : (ends_alternative t ≡ true) × (◌≡◌ {A = Option Front} (Some (record { tree = nothing; opened = k; rest = t })) (Some g)) → IsFront (Alternative m) t k g
          ended (h, given) = subst (IsFront (Alternative m) t k) (found given) (done h)

          further : (ends_alternative t ≡ false) × (option_and_then (terms rest) (read_term m read k (opening m t)) ≡ Some g) → IsFront (Alternative m) t k g
          further (h, given) =
              let (f, taken, behind) = and_then-some (terms rest) (read_term m read k (opening m t)) given in
              terms-sound t k f g (term-sound t k f (opening m t) (opening-fits m t) taken) behind

  mutual
    unfolding read_disjunction read_alternative

    -- What is read is derived.
    pub read_disjunction-sound : (n : ℕ) (t : List ℕ) (k : ℕ) (g : Front) → read_disjunction m n t k ≡ Some g → IsFront (Disjunction m) t k g
    read_disjunction-sound zero t k g e = cc
    read_disjunction-sound (suc n) t k g e =
        let (f, taken, behind) = and_then-some (alternatives (read_disjunction m n)) (read_alternative m n t k) e in
        alternatives-sound (read_disjunction m n) (read_disjunction-sound n) t k f g (read_alternative-sound n t k f taken) behind

    pub read_alternative-sound : (n : ℕ) (t : List ℕ) (k : ℕ) (g : Front) → read_alternative m n t k ≡ Some g → IsFront (Alternative m) t k g
    read_alternative-sound zero t k g e = cc
    read_alternative-sound (suc n) t k g e =
        read_terms-sound (read_disjunction m n) (read_disjunction-sound n) (read_alternative m n) (read_alternative-sound n) t k g e
