-- What the opening of a term tells is what the grammar asks.
use Rattle.std.specs.Prelude.{if◌then◌else◌}
use Rattle.std.proofs.lemmas.Bool.{and_parts, not-true}
use Rattle.std.proofs.Common.{◌≡◌, ℕ, suc, Bool, true, false, not, ◌&&◌, ◌||◌, ◌==◌, List, [], ◌∷◌, ◌++◌, length, drop, Option, Some, None, refl, sym, eqb-true, ◌⊎◌, inl, inr, ⊎_elim}
use Rattle.regress_meaning.specs.Text.{◌∈◌, is_at, span}
use Rattle.regress_meaning.specs.Class.{Class, may_hold_strings}
use Rattle.regress_meaning.specs.Pattern.{Pattern, word_boundary, capture, grouped, atomic, modified, look}
use Rattle.regress_meaning.specs.Flags.{settings_of}
use Rattle.regress_meaning.specs.Tokens.{Mode, Escape, escape_at, name_at}
use Rattle.regress_meaning.specs.Grammar.{Disjunction, Term, Lookahead, Atom, start, end, boundary, no_boundary, behind, not_behind, positive, negative, dot, plain, escape, a_class, a_negated_class, group as a_group, named_group as a_named_group, uncaptured as an_uncaptured, atomic_group as an_atomic_group, modifiers as some_modifiers, modifiers_off, is_pattern_character, is_flag, all_differ}
use Rattle.regress_meaning.specs.ReadingClass.{read_class}
use Rattle.regress_meaning.specs.Reading.{Opening, assertion, single, lookahead, lookbehind, group, named_group, uncaptured, atomic_group, modifiers, no_term, of_escape, of_class, of_name, of_letters, modifiers_at, escape_opening, class_opening, angle_opening, question_opening, parenthesis_opening, opening}
use Rattle.regress_meaning.proofs.Inversion.{is_at-eq}
use Rattle.regress_meaning.proofs.ReadClass.{read_class-sound}

-- one of two marks
pub either_mark : (a b c : ℕ) → ((a == c) || ((b == c) || false)) ≡ true → (c ≡ a) ⊎ (c ≡ b)
either_mark a b c e = go (a == c) (b == c) refl refl e
  where
    go : (x y : Bool) → (a == c) ≡ x → (b == c) ≡ y → (x || (y || false)) ≡ true → (c ≡ a) ⊎ (c ≡ b)
    go true y p q h = inl (sym (eqb-true a c p))
    go false true p q h = inr (sym (eqb-true b c q))
    go false false p q h = cc

module _ (m : Mode) where
  -- behind the opening stands what the grammar asks for there, to make a term of the whole text
  abbrev pub Fits : List ℕ → Opening → Type 0
  Fits t (assertion p r) = (k : ℕ) → Term m t k p k r
  Fits t (single p r) = (k : ℕ) → Atom m t k p k r
  Fits t (lookahead negated u) = (k l : ℕ) (p : Pattern) (r : List ℕ) → Disjunction m u k p l (0x29 ∷ r) → Lookahead m t k (look negated false p) l r
  Fits t (lookbehind negated u) = (k l : ℕ) (p : Pattern) (r : List ℕ) → Disjunction m u k p l (0x29 ∷ r) → Term m t k (look negated true p) l r
  Fits t (group u) = (k l : ℕ) (p : Pattern) (r : List ℕ) → Disjunction m u (suc k) p l (0x29 ∷ r) → Atom m t k (capture k None p) l r
  Fits t (named_group name u) = (k l : ℕ) (p : Pattern) (r : List ℕ) → Disjunction m u (suc k) p l (0x29 ∷ r) → Atom m t k (capture k (Some name) p) l r
  Fits t (uncaptured u) = (k l : ℕ) (p : Pattern) (r : List ℕ) → Disjunction m u k p l (0x29 ∷ r) → Atom m t k (grouped p) l r
  Fits t (atomic_group u) = (k l : ℕ) (p : Pattern) (r : List ℕ) → Disjunction m u k p l (0x29 ∷ r) → Atom m t k (atomic p) l r
  Fits t (modifiers on off u) = (k l : ℕ) (p : Pattern) (r : List ℕ) → Disjunction m u k p l (0x29 ∷ r) → Atom m t k (modified (settings_of on) (settings_of off) p) l r
  Fits t no_term = Unit {0}

  if-fits : (t : List ℕ) (b : Bool) (x y : Opening) → (b ≡ true → Fits t x) → (b ≡ false → Fits t y) → Fits t (if b then x else y)
  if-fits t true x y f g = f refl
  if-fits t false x y f g = g refl

  of_escape-fits : (t : List ℕ) → is_at (λ c. c ∈ "bB") t ≡ false → (o : Option (Escape × List ℕ)) → escape_at m t ≡ o → Fits (0x5C ∷ t) (of_escape o)
  of_escape-fits t h None e = tt
  of_escape-fits t h (Some (s, r)) e = λ k. escape h e

  boundary-fits : (t : List ℕ) → is_at (λ c. c ∈ "bB") t ≡ true → Fits (0x5C ∷ t) (assertion (word_boundary (is_at (λ c. c == 0x42) t)) (drop 1 t))
  boundary-fits [] e = cc
  boundary-fits (c ∷ t) e = ⊎_elim (λ p. rw p (λ k. boundary)) (λ p. rw p (λ k. no_boundary)) (either_mark 0x62 0x42 c e)

  escape_opening-fits : (t : List ℕ) → Fits (0x5C ∷ t) (escape_opening m t)
  unfolding escape_opening
  escape_opening-fits t = if-fits (0x5C ∷ t) (is_at (λ c. c ∈ "bB") t) _ _ (boundary-fits t) (λ h. of_escape-fits t h (escape_at m t) refl)

  of_class-fits : (t : List ℕ) → is_at (λ c. c == 0x5E) t ≡ false → (o : Option (Class × List ℕ)) → read_class m t ≡ o → Fits (0x5B ∷ t) (of_class false o)
  of_class-fits t h None e = tt
  of_class-fits t h (Some (s, r)) e = λ k. a_class h (read_class-sound m t e)

  of_negated_class-fits : (t : List ℕ) (o : Option (Class × List ℕ)) → read_class m t ≡ o → Fits (0x5B ∷ 0x5E ∷ t) (of_class true o)
  of_negated_class-fits t None e = tt
  of_negated_class-fits t (Some (s, r)) e =
      if-fits (0x5B ∷ 0x5E ∷ t) (may_hold_strings s) _ _ (λ h. tt) (λ h k. a_negated_class (read_class-sound m t e) h)

  class_opening-fits : (t : List ℕ) → Fits (0x5B ∷ t) (class_opening m t)
  unfolding class_opening
  class_opening-fits t = if-fits (0x5B ∷ t) (is_at (λ c. c == 0x5E) t) _ _
      (λ h. let (r, e) = is_at-eq 0x5E t h in rw e (of_negated_class-fits r (read_class m r) refl))
      (λ h. of_class-fits t h (read_class m t) refl)

  of_name-fits : (t : List ℕ) → is_at (λ c. c ∈ "=!") t ≡ false → (o : Option (List ℕ × List ℕ)) → name_at m.table t ≡ o → Fits (0x28 ∷ 0x3F ∷ 0x3C ∷ t) (of_name o)
  of_name-fits t h None e = tt
  of_name-fits t h (Some (name, r)) e = λ k l p r d. a_named_group h e d

  lookbehind-fits : (t : List ℕ) → is_at (λ c. c ∈ "=!") t ≡ true → Fits (0x28 ∷ 0x3F ∷ 0x3C ∷ t) (lookbehind (is_at (λ c. c == 0x21) t) (drop 1 t))
  lookbehind-fits [] e = cc
  lookbehind-fits (c ∷ t) e = ⊎_elim (λ q. rw q (λ k l p r d. behind d)) (λ q. rw q (λ k l p r d. not_behind d)) (either_mark 0x3D 0x21 c e)

  angle_opening-fits : (t : List ℕ) → Fits (0x28 ∷ 0x3F ∷ 0x3C ∷ t) (angle_opening m t)
  unfolding angle_opening
  angle_opening-fits t = if-fits (0x28 ∷ 0x3F ∷ 0x3C ∷ t) (is_at (λ c. c ∈ "=!") t) _ _ (lookbehind-fits t) (λ h. of_name-fits t h (name_at m.table t) refl)

  lookahead-fits : (t : List ℕ) → is_at (λ c. c ∈ "=!") t ≡ true → Fits (0x28 ∷ 0x3F ∷ t) (lookahead (is_at (λ c. c == 0x21) t) (drop 1 t))
  lookahead-fits [] e = cc
  lookahead-fits (c ∷ t) e = ⊎_elim (λ q. rw q (λ k l p r d. positive d)) (λ q. rw q (λ k l p r d. negative d)) (either_mark 0x3D 0x21 c e)

  -- letters up to a colon, where they are some and differ
  of_letters-fits : (letters on off r t : List ℕ)
      → ((u : List ℕ) (k l : ℕ) (p : Pattern) (s : List ℕ) → r ≡ 0x3A ∷ u → (length letters == 0) ≡ false → all_differ letters ≡ true
      → Disjunction m u k p l (0x29 ∷ s) → Atom m t k (modified (settings_of on) (settings_of off) p) l s)
      → Fits t (of_letters letters on off r)
  of_letters-fits letters on off r t f = if-fits t (not (length letters == 0) && all_differ letters && is_at (λ c. c == 0x3A) r) _ _ passed (λ h. tt)
    where
      passed : (not (length letters == 0) && all_differ letters && is_at (λ c. c == 0x3A) r) ≡ true → Fits t (modifiers on off (drop 1 r))
      passed h =
          let (ab, c) = and_parts (not (length letters == 0) && all_differ letters) (is_at (λ c. c == 0x3A) r) h in
          let (a, b) = and_parts (not (length letters == 0)) (all_differ letters) ab in
          let (u, e) = is_at-eq 0x3A r c in
          λ k l p s d. f u k l p s e (not-true (length letters == 0) a) b (rw e at d)

  modifiers_off-fits : (t u : List ℕ) → (span is_flag t).1 ≡ 0x2D ∷ u
      → Fits (0x28 ∷ 0x3F ∷ t) (of_letters ((span is_flag t).0 ++ (span is_flag u).0) (span is_flag t).0 (span is_flag u).0 (span is_flag u).1)
  modifiers_off-fits t u e = of_letters-fits ((span is_flag t).0 ++ (span is_flag u).0) (span is_flag t).0 (span is_flag u).0 (span is_flag u).1 (0x28 ∷ 0x3F ∷ t)
      (λ v k l p s g a b d. modifiers_off (λ i. ((span is_flag t).0, e i)) (λ i. ((span is_flag u).0, g i)) a b d)

  modifiers_at-fits : (t : List ℕ) → Fits (0x28 ∷ 0x3F ∷ t) (modifiers_at t)
  unfolding modifiers_at
  modifiers_at-fits t = if-fits (0x28 ∷ 0x3F ∷ t) (is_at (λ c. c == 0x2D) (span is_flag t).1) _ _
      (λ h. let (u, e) = is_at-eq 0x2D (span is_flag t).1 h in rw e (modifiers_off-fits t u e))
      (λ h. of_letters-fits (span is_flag t).0 (span is_flag t).0 [] (span is_flag t).1 (0x28 ∷ 0x3F ∷ t) (λ u k l p s e a b d. some_modifiers (λ i. ((span is_flag t).0, e i)) a b d))

  question_opening-fits : (t : List ℕ) → Fits (0x28 ∷ 0x3F ∷ t) (question_opening m t)
  unfolding question_opening
  question_opening-fits t =
      if-fits (0x28 ∷ 0x3F ∷ t) (is_at (λ c. c ∈ "=!") t) _ _ (lookahead-fits t)
      (λ h. if-fits (0x28 ∷ 0x3F ∷ t) (is_at (λ c. c == 0x3A) t) _ _ (λ h. let (u, e) = is_at-eq 0x3A t h in rw e (λ k l p r d. an_uncaptured d))
      (λ h. if-fits (0x28 ∷ 0x3F ∷ t) (is_at (λ c. c == 0x3E) t) _ _ (λ h. let (u, e) = is_at-eq 0x3E t h in rw e (λ k l p r d. an_atomic_group d))
      (λ h. if-fits (0x28 ∷ 0x3F ∷ t) (is_at (λ c. c == 0x3C) t) _ _ (λ h. let (u, e) = is_at-eq 0x3C t h in rw e (angle_opening-fits u))
      (λ h. modifiers_at-fits t))))

  parenthesis_opening-fits : (t : List ℕ) → Fits (0x28 ∷ t) (parenthesis_opening m t)
  unfolding parenthesis_opening
  parenthesis_opening-fits t =
      if-fits (0x28 ∷ t) (is_at (λ c. c == 0x3F) t) _ _ (λ h. let (u, e) = is_at-eq 0x3F t h in rw e (question_opening-fits u)) (λ h k l p r d. a_group h d)

  -- What begins at the front of a text fits it.
  pub opening-fits : (t : List ℕ) → Fits t (opening m t)
  unfolding opening
  opening-fits [] = tt
  opening-fits (c ∷ t) =
      if-fits (c ∷ t) (c == 0x5E) _ _ (λ h. rw (eqb-true c 0x5E h) (λ k. start))
      (λ h. if-fits (c ∷ t) (c == 0x24) _ _ (λ h. rw (eqb-true c 0x24 h) (λ k. end))
      (λ h. if-fits (c ∷ t) (c == 0x5C) _ _ (λ h. rw (eqb-true c 0x5C h) (escape_opening-fits t))
      (λ h. if-fits (c ∷ t) (c == 0x2E) _ _ (λ h. rw (eqb-true c 0x2E h) (λ k. dot))
      (λ h. if-fits (c ∷ t) (c == 0x5B) _ _ (λ h. rw (eqb-true c 0x5B h) (class_opening-fits t))
      (λ h. if-fits (c ∷ t) (c == 0x28) _ _ (λ h. rw (eqb-true c 0x28 h) (parenthesis_opening-fits t))
      (λ h. if-fits (c ∷ t) (is_pattern_character m c t) _ _ (λ h k. plain h) (λ h. tt)))))))
