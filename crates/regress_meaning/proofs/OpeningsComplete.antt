-- What the grammar asks at the front of a term is what its opening tells.
use Rattle.std.specs.Prelude.{if◌then◌else◌}
use Rattle.std.proofs.Common.{◌≡◌, ℕ, Bool, true, false, ◌||◌, ◌==◌, List, [], ◌∷◌, ◌++◌, length, Some, refl, sym, ap, ◌∙◌, eqb-true, ◌⊎◌, inl, inr, ⊎_elim}
use Rattle.regress_meaning.specs.Text.{◌∈◌, is_at, span}
use Rattle.regress_meaning.specs.Class.{Class, may_hold_strings}
use Rattle.regress_meaning.specs.Pattern.{character, class}
use Rattle.regress_meaning.specs.Tokens.{Mode, Escape, escape_at, name_at}
use Rattle.regress_meaning.specs.Grammar.{ClassBody, is_pattern_character, tree_of, is_flag, all_differ}
use Rattle.regress_meaning.specs.Reading.{single, lookahead, lookbehind, group, named_group, uncaptured, atomic_group, modifiers, of_letters, modifiers_at, escape_opening, class_opening, angle_opening, question_opening, parenthesis_opening, opening}
use Rattle.regress_meaning.proofs.ReadClass.{read_class-complete}

-- a test that fails somewhere fails at what equals it
not_equal : (test : ℕ → Bool) (c d : ℕ) → test c ≡ true → test d ≡ false → (c == d) ≡ false
not_equal test c d passes fails = go (c == d) refl
  where
    go : (b : Bool) → (c == d) ≡ b → (c == d) ≡ false
    go false e = e
    go true e = let both : test c ≡ test d = ap test (eqb-true c d e) in cc

-- a letter of a modifier is one of three
flag_cases : (c : ℕ) → is_flag c ≡ true → (c ≡ 0x69) ⊎ ((c ≡ 0x6D) ⊎ (c ≡ 0x73))
flag_cases c e = go (0x69 == c) (0x6D == c) (0x73 == c) refl refl refl e
  where
    go : (x y z : Bool) → (0x69 == c) ≡ x → (0x6D == c) ≡ y → (0x73 == c) ≡ z → (x || (y || (z || false))) ≡ true → (c ≡ 0x69) ⊎ ((c ≡ 0x6D) ⊎ (c ≡ 0x73))
    go true y z p q r h = inl (sym (eqb-true 0x69 c p))
    go false true z p q r h = inr (inl (sym (eqb-true 0x6D c q)))
    go false false true p q r h = inr (inr (sym (eqb-true 0x73 c r)))
    go false false false p q r h = cc

span_stops : (test : ℕ → Bool) (c : ℕ) (t : List ℕ) → test c ≡ false → span test (c ∷ t) ≡ ([], c ∷ t)
unfolding span
span_stops test c t e = rw e refl

-- a text of letters and then d begins with nothing that passes a test, where no letter passes it, nor d where there is no
-- letter
no_front : (test : ℕ → Bool) (t on u : List ℕ) (d : ℕ) → span is_flag t ≡ (on, d ∷ u)
    → test 0x69 ≡ false → test 0x6D ≡ false → test 0x73 ≡ false → (on ≡ [] → test d ≡ false) → is_at test t ≡ false
no_front test [] on u d e i m s h = refl
no_front test (c ∷ t) on u d e i m s h = go (is_flag c) refl
  where
    stopped : is_flag c ≡ false → ◌≡◌ {A = List ℕ × List ℕ} ([], c ∷ t) (on, d ∷ u)
    stopped f = sym (span_stops is_flag c t f) ∙ e

    go : (b : Bool) → is_flag c ≡ b → test c ≡ false
    go true f = ⊎_elim (λ p. rw p i) (λ q. ⊎_elim (λ p. rw p m) (λ p. rw p s) q) (flag_cases c f)
    go false f =
        let none : [] ≡ on = ap (λ x. x.0) (stopped f) in
        let tails : c ∷ t ≡ d ∷ u = ap (λ x. x.1) (stopped f) in
        let here : c ≡ d = cc in
        rw here (h (sym none))

-- both branches are no
pub neither : (b : Bool) → (if b then false else false) ≡ false
neither true = refl
neither false = refl

module _ (m : Mode) where
  not_plain : (c d : ℕ) (r : List ℕ) → is_pattern_character m c r ≡ true → is_pattern_character m d r ≡ false → (c == d) ≡ false
  not_plain c d r passes fails = not_equal (λ x. is_pattern_character m x r) c d passes fails

  pub plain-opening : (c : ℕ) (r : List ℕ) → is_pattern_character m c r ≡ true → opening m (c ∷ r) ≡ single (character c) r
  unfolding opening
  plain-opening c r h =
      let no = neither m.unicode in
      rw (not_plain c 0x5E r h no, not_plain c 0x24 r h no, not_plain c 0x5C r h no, not_plain c 0x2E r h no, not_plain c 0x5B r h no, not_plain c 0x28 r h no, h) refl

  pub escape-opening : (t : List ℕ) (e : Escape) (r : List ℕ) → is_at (λ c. c ∈ "bB") t ≡ false → escape_at m t ≡ Some (e, r) → opening m (0x5C ∷ t) ≡ single (tree_of e) r
  unfolding opening escape_opening
  escape-opening t e r h g = rw (h, g) refl

  module _ (coherent : m.sets ≡ true → m.unicode ≡ true) where
    pub class-opening : (t : List ℕ) (s : Class) (r : List ℕ) → is_at (λ c. c == 0x5E) t ≡ false → ClassBody m t s r → opening m (0x5B ∷ t) ≡ single (class false s) r
    unfolding opening class_opening
    class-opening t s r h d = rw (h, read_class-complete m coherent d) refl

    pub negated_class-opening : (t : List ℕ) (s : Class) (r : List ℕ) → ClassBody m t s r → may_hold_strings s ≡ false → opening m (0x5B ∷ 0x5E ∷ t) ≡ single (class true s) r
    unfolding opening class_opening
    negated_class-opening t s r d h = rw (read_class-complete m coherent d, h) refl

  pub group-opening : (t : List ℕ) → is_at (λ c. c == 0x3F) t ≡ false → opening m (0x28 ∷ t) ≡ group t
  unfolding opening parenthesis_opening
  group-opening t h = rw h refl

  pub uncaptured-opening : (t : List ℕ) → opening m (0x28 ∷ 0x3F ∷ 0x3A ∷ t) ≡ uncaptured t
  unfolding opening parenthesis_opening question_opening
  uncaptured-opening t = refl

  pub atomic_group-opening : (t : List ℕ) → opening m (0x28 ∷ 0x3F ∷ 0x3E ∷ t) ≡ atomic_group t
  unfolding opening parenthesis_opening question_opening
  atomic_group-opening t = refl

  pub positive-opening : (t : List ℕ) → opening m (0x28 ∷ 0x3F ∷ 0x3D ∷ t) ≡ lookahead false t
  unfolding opening parenthesis_opening question_opening
  positive-opening t = refl

  pub negative-opening : (t : List ℕ) → opening m (0x28 ∷ 0x3F ∷ 0x21 ∷ t) ≡ lookahead true t
  unfolding opening parenthesis_opening question_opening
  negative-opening t = refl

  pub behind-opening : (t : List ℕ) → opening m (0x28 ∷ 0x3F ∷ 0x3C ∷ 0x3D ∷ t) ≡ lookbehind false t
  unfolding opening parenthesis_opening question_opening angle_opening
  behind-opening t = refl

  pub not_behind-opening : (t : List ℕ) → opening m (0x28 ∷ 0x3F ∷ 0x3C ∷ 0x21 ∷ t) ≡ lookbehind true t
  unfolding opening parenthesis_opening question_opening angle_opening
  not_behind-opening t = refl

  pub named_group-opening : (t name u : List ℕ) → is_at (λ c. c ∈ "=!") t ≡ false → name_at m.table t ≡ Some (name, u) → opening m (0x28 ∷ 0x3F ∷ 0x3C ∷ t) ≡ named_group name u
  unfolding opening parenthesis_opening question_opening angle_opening
  named_group-opening t name u h g = rw (h, g) refl

  -- letters that are some and differ, up to a colon
  letters-opening : (letters on off u : List ℕ) → (length letters == 0) ≡ false → all_differ letters ≡ true → of_letters letters on off (0x3A ∷ u) ≡ modifiers on off u
  letters-opening letters on off u a b = rw (a, b) refl

  pub modifiers-opening : (t on u : List ℕ) → span is_flag t ≡ (on, 0x3A ∷ u) → (length on == 0) ≡ false → all_differ on ≡ true → opening m (0x28 ∷ 0x3F ∷ t) ≡ modifiers on [] u
  unfolding opening parenthesis_opening question_opening modifiers_at
  modifiers-opening t on u e a b =
      rw (
        no_front (λ c. c ∈ "=!") t on u 0x3A e refl refl refl (λ p. refl),
        no_front (λ c. c == 0x3A) t on u 0x3A e refl refl refl (λ p. let no : true ≡ false = rw p at a in cc),
        no_front (λ c. c == 0x3E) t on u 0x3A e refl refl refl (λ p. refl),
        no_front (λ c. c == 0x3C) t on u 0x3A e refl refl refl (λ p. refl),
        e,
      ) (letters-opening on on [] u a b)

  pub modifiers_off-opening : (t on off u v : List ℕ) → span is_flag t ≡ (on, 0x2D ∷ u) → span is_flag u ≡ (off, 0x3A ∷ v) → (length (on ++ off) == 0) ≡ false → all_differ (on ++ off) ≡ true
      → opening m (0x28 ∷ 0x3F ∷ t) ≡ modifiers on off v
  unfolding opening parenthesis_opening question_opening modifiers_at
  modifiers_off-opening t on off u v e g a b =
      rw (
        no_front (λ c. c ∈ "=!") t on u 0x2D e refl refl refl (λ p. refl),
        no_front (λ c. c == 0x3A) t on u 0x2D e refl refl refl (λ p. refl),
        no_front (λ c. c == 0x3E) t on u 0x2D e refl refl refl (λ p. refl),
        no_front (λ c. c == 0x3C) t on u 0x2D e refl refl refl (λ p. refl),
        e,
        g,
      ) (letters-opening (on ++ off) on off v a b)
