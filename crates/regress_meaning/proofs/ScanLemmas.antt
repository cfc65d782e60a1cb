-- The scan of a text finds the names of the tree that the text spells.
use Rattle.std.proofs.Common.{◌≡◌, ℕ, Bool, true, false, not, ◌==◌, List, [], ◌∷◌, ◌++◌, Some, refl, sym, ap, ◌∙◌, subst, inl, inr, eqb-true, append_assoc, append-nil}
use Rattle.std.specs.Prelude.{if◌then◌else◌}
use Rattle.std.proofs.lemmas.Bool.{not_from_false, not-false, and_parts, or_cases, or_left, or_right, cond_both, false≢true}
use Rattle.regress_meaning.specs.Text.{◌∈◌, is_at, span}
use Rattle.regress_meaning.specs.Table.{Table}
use Rattle.regress_meaning.specs.Class.{Class}
use Rattle.regress_meaning.specs.Pattern.{Pattern, names_of}
use Rattle.regress_meaning.specs.Flags.{Options}
use Rattle.regress_meaning.specs.Tokens.{Mode, Bounds, bounds_at, Escape, point, set, groups}
use Rattle.regress_meaning.specs.Grammar.{is_flag, opens_name, mode_of, tree_of, after_mark, is_pattern_character, Member, as_itself, escaped, Members, no_member, single, from_to, loose, SetCharacter, bare, backspace, punctuator, of_escape, SetString, no_more, and_then, SetStrings, last_string, more_strings, Operand, one_character, of_class, of_strings, inner, inner_negated, Contents, of_union, of_intersection, of_difference, Union, union_end, union_range, union_operand, Intersection, last_and, more_and, Difference, last_minus, more_minus, ClassBody, of_members, of_contents, Disjunction, one, more, Alternative, done, next, Term, start, end, boundary, no_boundary, behind, not_behind, ahead, repeated_ahead, once, quantified, Lookahead, positive, negative, Atom, dot, plain, escape, a_class, a_negated_class, group, named_group, uncaptured, atomic_group, modifiers, modifiers_off}
use Rattle.regress_meaning.proofs.Inversion.{if-both}
use Rattle.regress_meaning.specs.Scan.{group_names, scanned_names}
use Rattle.regress_meaning.proofs.ScanWords.{differs, is_neutral, neutral_by, Passed, span-passed, bounds-leads, name-ends}
use Rattle.regress_meaning.proofs.ScanSteps.{found_from, AgreeIn, Agree, neutral-agrees, pair-agrees, passed-agrees, class-step, plain-step, enter, enter_any, leave, group-step, named_group-step, uncounted-step}
use Rattle.regress_meaning.proofs.ScanEscapes.{escape-passed, class_escape-agrees}

module _ (m : Mode) where
  neutral : (b : Bool) (c : ℕ) (t : List ℕ) → is_neutral c ≡ true → AgreeIn m b (c ∷ t) t
  neutral b c t e = (neutral-agrees m c t e).within b

  -- a member of a class without `v`
  member-agrees : {t r : List ℕ} {e : Escape} → Member m t e r → AgreeIn m true t r
  member-agrees (as_itself {c} {r} e) =
      let apart = λ (d : ℕ). differs (λ k. k ∈ "\\]") c d in
      class-step m c r (apart 0x5C e).0 (apart 0x5D e).0
  member-agrees (escaped {t} read) = (class_escape-agrees m t).holds read

  members-leave : {t r : List ℕ} {s : Class} → Members m t s r → found_from m true t ≡ found_from m false r
  members-leave (no_member {r}) = leave m true r
  members-leave (single a e rest) = member-agrees a ∙ members-leave rest
  members-leave (from_to {u} a e b le rest) =
      member-agrees a ∙ neutral true 0x2D u refl ∙ member-agrees b ∙ members-leave rest
  members-leave (loose {u} mode a e b points rest) =
      member-agrees a ∙ neutral true 0x2D u refl ∙ member-agrees b ∙ members-leave rest

  -- Inside a class or outside, the same names are found from t as from r, which may stand where t does not.
  record Crosses (t r : List ℕ) : Type 0 where
    into : Bool → Bool
    same : (b : Bool) → found_from m b t ≡ found_from m (into b) r

  agree-crosses : {t r : List ℕ} → Agree m t r → Crosses t r
  agree-crosses h = record { into = λ b. b; same = λ b. h.within b }

  infixr 60 ◌then◌
  ◌then◌ : {t u r : List ℕ} → Crosses t u → Crosses u r → Crosses t r
  h then g = record { into = λ b. g.into (h.into b); same = λ b. h.same b ∙ g.same (h.into b) }

  past_one : (c : ℕ) (t : List ℕ) → is_neutral c ≡ true → Crosses (c ∷ t) t
  past_one c t e = agree-crosses (neutral-agrees m c t e)

  past_pair : (c : ℕ) (t : List ℕ) → (c == 0x6B) ≡ false → Crosses (0x5C ∷ c ∷ t) t
  past_pair c t e = agree-crosses (pair-agrees m c t e)

  opening_bracket : (t : List ℕ) → Crosses (0x5B ∷ t) t
  opening_bracket t = record { into = λ b. true; same = λ b. enter_any m b t }

  closing_bracket : (t : List ℕ) → Crosses (0x5D ∷ t) t
  closing_bracket t = record { into = λ b. false; same = λ b. leave m b t }

  module _ (named : m.named ≡ true) where
    character-crosses : {t r : List ℕ} {c : ℕ} → SetCharacter m t c r → Crosses t r
    character-crosses (bare {c} {r} e f) =
        past_one c r (neutral_by (λ d. not (d ∈ "()[]{}/-\\|")) refl refl refl refl c (not_from_false _ e))
    character-crosses (backspace {r}) = past_pair 0x62 r refl
    character-crosses (punctuator {c} {r} e) = past_pair c r (differs (λ d. d ∈ "&-!#%,:;<=>@`~") c 0x6B e).0
    character-crosses (of_escape {t} read) = agree-crosses (((escape-passed m t).holds read).anywhere named refl)

    string-crosses : {t r cs : List ℕ} → SetString m t cs r → Crosses t r
    string-crosses (no_more e) = record { into = λ b. b; same = λ b. refl }
    string-crosses (and_then c rest) = character-crosses c then string-crosses rest

    strings-cross : {t r : List ℕ} {ss : List (List ℕ)} → SetStrings m t ss r → Crosses t r
    strings-cross (last_string {r} s) = string-crosses s then past_one 0x7D r refl
    strings-cross (more_strings {u} s rest) = string-crosses s then past_one 0x7C u refl then strings-cross rest

    mutual
      operand-crosses : {t r : List ℕ} {s : Class} → Operand m t s r → Crosses t r
      operand-crosses (one_character c) = character-crosses c
      operand-crosses (of_class {t} read) = agree-crosses (((escape-passed m t).holds read).anywhere named refl)
      operand-crosses (of_strings {t} ss) = past_pair 0x71 (0x7B ∷ t) refl then past_one 0x7B t refl then strings-cross ss
      operand-crosses (inner {t} {r} e contents) = opening_bracket t then contents-cross contents then closing_bracket r
      operand-crosses (inner_negated {t} {r} contents e) =
          opening_bracket (0x5E ∷ t) then past_one 0x5E t refl then contents-cross contents then closing_bracket r

      contents-cross : {t r : List ℕ} {s : Class} → Contents m t s r → Crosses t r
      contents-cross (of_union rest) = union-crosses rest
      contents-cross (of_intersection a rest) = operand-crosses a then intersection-crosses rest
      contents-cross (of_difference a rest) = operand-crosses a then difference-crosses rest

      union-crosses : {t r : List ℕ} {s : Class} → Union m t s r → Crosses t r
      union-crosses union_end = record { into = λ b. b; same = λ b. refl }
      union-crosses (union_range {u} a b le rest) =
          character-crosses a then past_one 0x2D u refl then character-crosses b then union-crosses rest
      union-crosses (union_operand a e rest) = operand-crosses a then union-crosses rest

      intersection-crosses : {a s : Class} {t r : List ℕ} → Intersection m a t s r → Crosses t r
      intersection-crosses (last_and {t} e b) = past_one 0x26 (0x26 ∷ t) refl then past_one 0x26 t refl then operand-crosses b
      intersection-crosses (more_and {t} e b rest) =
          past_one 0x26 (0x26 ∷ t) refl then past_one 0x26 t refl then operand-crosses b then intersection-crosses rest

      difference-crosses : {a s : Class} {t r : List ℕ} → Difference m a t s r → Crosses t r
      difference-crosses (last_minus {t} b) = past_one 0x2D (0x2D ∷ t) refl then past_one 0x2D t refl then operand-crosses b
      difference-crosses (more_minus {t} b rest) =
          past_one 0x2D (0x2D ∷ t) refl then past_one 0x2D t refl then operand-crosses b then difference-crosses rest

  -- what passes a test that the backslash and the opening brackets fail is passed over outside a class
  plain_by : (test : ℕ → Bool) → test 0x5C ≡ false → test 0x28 ≡ false → test 0x5B ≡ false →
      (c : ℕ) (t : List ℕ) → test c ≡ true → AgreeIn m false (c ∷ t) t
  plain_by test p q r c t h = plain-step m c t (apart 0x5C p) (apart 0x28 q) (apart 0x5B r)
    where
      apart : (d : ℕ) → test d ≡ false → (c == d) ≡ false
      apart d e = (differs test c d (h ∙ ap not (sym e))).0

  pattern_character-agrees : (c : ℕ) (t : List ℕ) → is_pattern_character m c t ≡ true → AgreeIn m false (c ∷ t) t
  pattern_character-agrees c t e = if-both m.unicode
      (λ mode h. plain_by (λ d. not (d ∈ "^$\\.*+?()[]{}|")) refl refl refl c t h)
      (λ mode h. elim (or_cases (not (c ∈ "^$\\.*+?()[|{")) _ h) [
        | inl itself ↦ plain_by (λ d. not (d ∈ "^$\\.*+?()[|{")) refl refl refl c t itself
        | inr brace ↦ plain_by (λ d. d == 0x7B) refl refl refl c t (and_parts (c == 0x7B) _ brace).0
      ]) e

  mark-agrees : (t : List ℕ) → AgreeIn m false t (after_mark t)
  mark-agrees [] = refl
  mark-agrees (c ∷ t) = cond_both (not (c == 0x3F)) (c ∷ t) t (λ r. AgreeIn m false (c ∷ t) r)
      (λ e. refl)
      (λ e. neutral false c t (ap is_neutral (eqb-true c 0x3F (not-false _ e))))

  -- a quantifier and its mark
  quantifier-agrees : (t : List ℕ) (b : Bounds) (r : List ℕ) → bounds_at t ≡ Some (b, r) → AgreeIn m false t (after_mark r)
  quantifier-agrees t b r e = (passed-agrees m ((bounds-leads t).holds e)).within false ∙ mark-agrees r

  -- the flags that modifiers switch, and c behind them
  flags-agree : (t on u : List ℕ) (c : ℕ) → is_neutral c ≡ true → span is_flag t ≡ (on, c ∷ u) → AgreeIn m false t u
  flags-agree t on u c n e =
      let front = span-passed is_flag (neutral_by is_flag refl refl refl refl) t in
      let flags : Passed t (c ∷ u) = subst (λ (cut : List ℕ × List ℕ). Passed t cut.1) e front in
      (passed-agrees m flags).within false ∙ neutral false c u n

  -- where flags stand, or none and a c that is no `<`, no name begins
  flags-open : (t on u : List ℕ) (c : ℕ) → (0x3C == c) ≡ false → span is_flag t ≡ (on, c ∷ u) →
      opens_name (0x28 ∷ 0x3F ∷ t) ≡ false
  unfolding span
  flags-open [] on u c f e = refl
  flags-open (d ∷ t) on u c f e = go (0x3C == d) refl
    where
      go : (b : Bool) → (0x3C == d) ≡ b → opens_name (0x28 ∷ 0x3F ∷ d ∷ t) ≡ false
      go true h =
          let cut : span is_flag (0x3C ∷ t) ≡ (on, c ∷ u) =
          subst (λ k. span is_flag (k ∷ t) ≡ (on, c ∷ u)) (sym (eqb-true 0x3C d h)) e in
          absurd (false≢true (sym f ∙ sym (ap (λ (x : List ℕ × List ℕ). is_at (λ k. 0x3C == k) x.1) cut)))
      go false h = rw h refl

  -- `(?` and one more code point, which begins no name
  opened : (c : ℕ) (t : List ℕ) → is_neutral c ≡ true → opens_name (0x28 ∷ 0x3F ∷ c ∷ t) ≡ false →
      AgreeIn m false (0x28 ∷ 0x3F ∷ c ∷ t) t
  opened c t e f = uncounted-step m (c ∷ t) f ∙ neutral false c t e

  -- modifiers: `(?`, flags and c
  flags-opened : (t on u : List ℕ) (c : ℕ) → is_neutral c ≡ true → (0x3C == c) ≡ false → span is_flag t ≡ (on, c ∷ u) →
      AgreeIn m false (0x28 ∷ 0x3F ∷ t) u
  flags-opened t on u c n f e = uncounted-step m t (flags-open t on u c f e) ∙ flags-agree t on u c n e

  tree_of-names : (e : Escape) → names_of (tree_of e) ≡ []
  tree_of-names (point c) = refl
  tree_of-names (set s) = refl
  tree_of-names (groups ks) = refl

  -- from t to r the names of p are found
  pub record Finds (t : List ℕ) (p : Pattern) (r : List ℕ) : Type 0 where
    pub same : found_from m false t ≡ names_of p ++ found_from m false r

  -- what is passed over behind a tree
  after : {t u r : List ℕ} {p : Pattern} → Finds t p u → AgreeIn m false u r → Finds t p r
  after {p} h e = record { same = h.same ∙ ap (λ names. names_of p ++ names) e }

  -- up to the closing parenthesis
  inside : {t r : List ℕ} {p : Pattern} → Finds t p (0x29 ∷ r) → found_from m false t ≡ names_of p ++ found_from m false r
  inside {r} h = (after h (neutral false 0x29 r refl)).same

  both_find : {t u r : List ℕ} {p q : Pattern} → Finds t p u → Finds u q r →
      found_from m false t ≡ (names_of p ++ names_of q) ++ found_from m false r
  both_find {p} {q} h g = h.same ∙ ap (λ names. names_of p ++ names) g.same ∙ sym (append_assoc (names_of p) (names_of q) _)

  module _ (named : m.sets ≡ true → m.named ≡ true) where
    body-leaves : {t r : List ℕ} {s : Class} → ClassBody m t s r → found_from m true t ≡ found_from m false r
    body-leaves (of_members e ms) = members-leave ms
    body-leaves (of_contents {r} e contents) =
        let crossed = contents-cross (named e) contents in
        crossed.same true ∙ leave m (crossed.into true) r

    mutual
      pub disjunction-found : {t r : List ℕ} {k l : ℕ} {p : Pattern} → Disjunction m t k p l r → Finds t p r
      disjunction-found (one a e) = alternative-found a
      disjunction-found (more {u} a d) = record {
        same =
            both_find (after (alternative-found a) (neutral false 0x7C u refl)) (disjunction-found d);
      }

      alternative-found : {t r : List ℕ} {k l : ℕ} {p : Pattern} → Alternative m t k p l r → Finds t p r
      alternative-found (done e) = record { same = refl }
      alternative-found (next a rest) = record { same = both_find (term-found a) (alternative-found rest) }

      term-found : {t r : List ℕ} {k l : ℕ} {p : Pattern} → Term m t k p l r → Finds t p r
      term-found (start {r}) = record { same = neutral false 0x5E r refl }
      term-found (end {r}) = record { same = neutral false 0x24 r refl }
      term-found (boundary {r}) = record { same = (pair-agrees m 0x62 r refl).within false }
      term-found (no_boundary {r}) = record { same = (pair-agrees m 0x42 r refl).within false }
      term-found (behind {t} d) = record {
        same =
            opened 0x3C (0x3D ∷ t) refl refl ∙ neutral false 0x3D t refl ∙ inside (disjunction-found d);
      }
      term-found (not_behind {t} d) = record {
        same =
            opened 0x3C (0x21 ∷ t) refl refl ∙ neutral false 0x21 t refl ∙ inside (disjunction-found d);
      }
      term-found (ahead a e) = lookahead-found a
      term-found (repeated_ahead {u} {v} {b} mode a e le) = record { same = (after (lookahead-found a) (quantifier-agrees u b v e)).same }
      term-found (once a e) = atom-found a
      term-found (quantified {u} {v} {b} a e le) = record { same = (after (atom-found a) (quantifier-agrees u b v e)).same }

      lookahead-found : {t r : List ℕ} {k l : ℕ} {p : Pattern} → Lookahead m t k p l r → Finds t p r
      lookahead-found (positive {t} d) = record { same = opened 0x3D t refl refl ∙ inside (disjunction-found d) }
      lookahead-found (negative {t} d) = record { same = opened 0x21 t refl refl ∙ inside (disjunction-found d) }

      atom-found : {t r : List ℕ} {k l : ℕ} {p : Pattern} → Atom m t k p l r → Finds t p r
      atom-found (dot {r}) = record { same = neutral false 0x2E r refl }
      atom-found (plain {c} {r} e) = record { same = pattern_character-agrees c r e }
      atom-found (escape {t} {e} other read) = record { same = rw (tree_of-names e) ((escape-passed m t).holds read).outside }
      atom-found (a_class {t} other body) = record { same = enter m t ∙ body-leaves body }
      atom-found (a_negated_class {t} body other) = record {
        same =
            enter m (0x5E ∷ t) ∙ neutral true 0x5E t refl ∙ body-leaves body;
      }
      atom-found (group {t} other d) = record { same = group-step m t other ∙ ap (λ names. [] ∷ names) (inside (disjunction-found d)) }
      atom-found (named_group {t} {u} {name} other read d) = record {
        same =
            named_group-step m t name u other read ((name-ends m.table t).holds read) ∙ ap (λ names. name ∷ names) (inside (disjunction-found d));
      }
      atom-found (uncaptured {t} d) = record { same = opened 0x3A t refl refl ∙ inside (disjunction-found d) }
      atom-found (atomic_group {t} d) = record { same = opened 0x3E t refl refl ∙ inside (disjunction-found d) }
      atom-found (modifiers {t} {u} {on} e some apart d) = record {
        same =
            flags-opened t on u 0x3A refl refl e ∙ inside (disjunction-found d);
      }
      atom-found (modifiers_off {t} {u} {v} {on} {off} e f some apart d) = record {
        same =
            flags-opened t on u 0x2D refl refl e ∙ flags-agree u off v 0x3A refl f ∙ inside (disjunction-found d);
      }

-- The names of a tree are those that a scan of its text finds.
pub names-scanned : (table : Table) (o : Options) (text : List ℕ) (p : Pattern) (names : List (List ℕ)) (l : ℕ) →
    Disjunction (mode_of table o text names) text 0 p l [] → names_of p ≡ scanned_names table o text
unfolding group_names
names-scanned table o text p names l d =
    let found = disjunction-found (mode_of table o text names) (λ sets. or_left _ _ (or_right o.unicode o.sets sets)) d in
    sym (found.same ∙ append-nil (names_of p))
