-- A scan for groups passes over escapes.
use Rattle.std.proofs.Common.{◌≡◌, ℕ, Bool, true, false, not, ◌&&◌, ◌||◌, ◌==◌, List, [], ◌∷◌, length, drop, Option, Some, is_some, refl, sym, ap, ◌∙◌, subst, eqb-true}
use Rattle.std.specs.Prelude.{if◌then◌else◌, nat_lt, nat_le}
use Rattle.std.proofs.lemmas.Bool.{and_parts, false≢true}
use Rattle.regress_meaning.specs.Text.{◌∈◌, is_at}
use Rattle.regress_meaning.specs.Class.{is_digit, is_letter, is_ascii_word}
use Rattle.regress_meaning.specs.Tokens.{Mode, guard, is_octal, name_at, decimal_at, hex_at, octal_at, unicode_escape, numbers_from, Escape, point, groups, control, class_letter, as_point, control_letter, property_at, named_reference, octal_or_digit, decimal_escape, identity, escape_at, class_escape_at}
use Rattle.regress_meaning.proofs.Inversion.{is_at-eq, Gives, gives-none, gives-some, gives-weaker, gives-if, gives-guard, gives-or, gives-map, gives-then, gives-any}
use Rattle.regress_meaning.specs.Scan.{group_names}
use Rattle.regress_meaning.proofs.ScanWords.{is_neutral, neutral_by, OnlyNeutral, Passed, here, Leads, digits-neutral, words-neutral, decimal-leads, hex-leads, octal-leads, unicode_escape-leads, property-leads, name-ends}
use Rattle.regress_meaning.proofs.ScanSteps.{AgreeIn, Agree, neutral-agrees, pair-agrees, agree_trans, passed-agrees, reference-step, unnamed_k-step}

module _ (m : Mode) where
  -- a scan goes on behind what is read as it would before it
  abbrev Quiet : {A : Type 0} → List ℕ → Option (A × List ℕ) → Type 0
  Quiet t o = Gives (λ x. Agree m t x.1) o

  stay : (t : List ℕ) → Agree m t t
  stay t = record { within = λ b. refl }

  -- where a neutral c is read once more, with what follows it
  behind_neutral : (c : ℕ) (t : List ℕ) {r : List ℕ} → is_neutral c ≡ true → Passed (c ∷ t) r → Agree m t r
  behind_neutral c t e p = record { within = λ b. sym ((neutral-agrees m c t e).within b) ∙ (passed-agrees m p).within b }

  as_point-quiet : {t : List ℕ} (o : Option (ℕ × List ℕ)) → Leads t o → Quiet t (as_point o)
  as_point-quiet o h = gives-map _ o h (λ x p. passed-agrees m p)

  control_letter-quiet : (test : ℕ → Bool) → OnlyNeutral test → (t : List ℕ) → Quiet t (control_letter test t)
  control_letter-quiet test n [] = gives-none
  control_letter-quiet test n (c ∷ t) = gives-guard (test c) (λ e. gives-some (neutral-agrees m c t (n c e)))

  octal_or_digit-quiet : (c : ℕ) (t : List ℕ) → is_digit c ≡ true → Quiet t (octal_or_digit m c t)
  unfolding octal_or_digit
  octal_or_digit-quiet c t e = gives-guard (not m.unicode) (λ mode. gives-if (is_octal c)
      (λ octal. gives-map _ (octal_at (c ∷ t)) (octal-leads (c ∷ t)) (λ x p. behind_neutral c t (digits-neutral c e) p))
      (λ no. gives-some (stay t)))

  decimal_escape-quiet : (c : ℕ) (t : List ℕ) → is_digit c ≡ true → Quiet t (decimal_escape m c t)
  unfolding decimal_escape
  decimal_escape-quiet c t e = gives-then _ (decimal_at (c ∷ t)) (decimal-leads (c ∷ t)) (λ x p.
      gives-if (nat_le x.0 (length m.names))
      (λ known. gives-some (behind_neutral c t (digits-neutral c e) p))
      (λ unknown. octal_or_digit-quiet c t e))

  identity-quiet : (c : ℕ) (t : List ℕ) → Quiet t (identity m c t)
  identity-quiet c t = gives-guard (not m.unicode || c ∈ "^$\\.*+?()[]{}|/") (λ e. gives-some (stay t))

  -- `\c` without a letter leaves the `c`
  control-quiet : (c : ℕ) (t : List ℕ) → (c == 0x63) ≡ true → Quiet t (Some (point 0x5C, c ∷ t))
  control-quiet c t e = gives-some (behind_neutral c t (ap is_neutral (eqb-true c 0x63 e)) here)

  unicode-quiet : (t : List ℕ) → Quiet t (as_point (if m.unicode then unicode_escape t else hex_at 4 t))
  unicode-quiet t = as_point-quiet (if m.unicode then unicode_escape t else hex_at 4 t)
      (gives-if m.unicode (λ mode. unicode_escape-leads t) (λ mode. hex-leads 4 t))

  -- behind the backslash and c, which is no `k`
  escape-quiet : (c : ℕ) (t : List ℕ) → (c == 0x6B) ≡ false → Quiet t (escape_at m (c ∷ t))
  unfolding escape_at
  escape-quiet c t e =
      gives-if (is_some (class_letter c)) (λ is. gives-map _ (class_letter c) (gives-any _) (λ s known. stay t)) (λ no.
      gives-if (is_some (control c)) (λ is. gives-map _ (control c) (gives-any _) (λ d known. stay t)) (λ no.
      gives-if (c == 0x63) (λ is. gives-or (control_letter is_letter t)
      (control_letter-quiet is_letter (neutral_by is_letter refl refl refl refl) t)
      (gives-guard (not m.unicode) (λ mode. control-quiet c t is))) (λ no.
      gives-if (c == 0x30) (λ is. gives-if (is_at is_digit t)
      (λ digit. octal_or_digit-quiet c t (ap is_digit (eqb-true c 0x30 is)))
      (λ no. gives-some (stay t))) (λ no.
      gives-if (is_digit c) (decimal_escape-quiet c t) (λ no.
      gives-if (c == 0x78) (λ is. gives-or (as_point (hex_at 2 t))
      (as_point-quiet (hex_at 2 t) (hex-leads 2 t)) (identity-quiet c t)) (λ no.
      gives-if (c == 0x75) (λ is. gives-or (as_point (if m.unicode then unicode_escape t else hex_at 4 t))
      (unicode-quiet t) (identity-quiet c t)) (λ no.
      gives-if (c == 0x6B) (λ is. absurd (false≢true (sym e ∙ is))) (λ no.
      gives-if ((c == 0x70 || c == 0x50) && m.unicode) (λ is.
      gives-map _ (property_at m c t) (property-leads m c t) (λ x p. passed-agrees m p)) (λ no.
      identity-quiet c t)))))))))

  -- behind a backslash in a class without `v`
  class_escape-quiet : (c : ℕ) (t : List ℕ) → Quiet t (class_escape_at m (c ∷ t))
  unfolding class_escape_at
  class_escape-quiet c t =
      gives-if (c == 0x62) (λ is. gives-some (stay t)) (λ no.
      gives-if (c == 0x2D) (λ is. gives-some (stay t)) (λ no.
      gives-if (c == 0x63 && not m.unicode && is_at is_ascii_word t) (λ is.
      control_letter-quiet is_ascii_word words-neutral t) (λ no.
      gives-if (is_digit c && not (c == 0x30)) (λ is. octal_or_digit-quiet c t (and_parts (is_digit c) _ is).0) (λ no.
      gives-if (c == 0x6B) (λ is. gives-guard (not m.named) (λ unnamed. gives-some (stay t))) (λ no.
      escape-quiet c t no)))))

  -- `<`, a name and `>`, behind `\k`
  name-passed : m.named ≡ true → (t : List ℕ) →
      Gives (λ x. AgreeIn m false (0x5C ∷ 0x6B ∷ t) x.1) (guard (is_at (λ d. d == 0x3C) t) (name_at m.table (drop 1 t)))
  name-passed named t = gives-guard (is_at (λ d. d == 0x3C) t) (λ e.
      let front = is_at-eq 0x3C t e in
      rw front.1 (record {
        holds = λ {x} read.
            reference-step m front.0 x.0 x.1 named read ((name-ends m.table front.0).holds read);
      }))

  -- what was read refers to no group
  abbrev pub is_no_group : Escape → Bool
  is_no_group (groups ks) = false
  is_no_group _ = true

  -- A backslash and the escape behind it are passed over outside a class; so they are anywhere, where names are read, if the
  -- escape stands for a code point or a class.
  pub record IsPassedOver (t : List ℕ) (x : Escape × List ℕ) : Type 0 where
    pub outside : AgreeIn m false (0x5C ∷ t) x.1
    pub anywhere : m.named ≡ true → is_no_group x.0 ≡ true → Agree m (0x5C ∷ t) x.1

  -- where the code point behind the backslash is a `k`
  k-passed : (t : List ℕ) → Gives (IsPassedOver (0x6B ∷ t)) (escape_at m (0x6B ∷ t))
  unfolding escape_at named_reference
  k-passed t = gives-if m.named
      (λ e. gives-then _ (guard (is_at (λ d. d == 0x3C) t) (name_at m.table (drop 1 t))) (name-passed e t) (λ x agree.
      gives-guard (nat_lt 0 (length (numbers_from 0 x.0 m.names))) (λ some.
      gives-some (record { outside = agree; anywhere = λ named other. absurd (false≢true other) }))))
      (λ e. gives-some (record { outside = unnamed_k-step m t e; anywhere = λ named other. absurd (false≢true (sym e ∙ named)) }))

  pub escape-passed : (t : List ℕ) → Gives (IsPassedOver t) (escape_at m t)
  unfolding escape_at
  escape-passed [] = gives-none
  escape-passed (c ∷ t) = go (c == 0x6B) refl
    where
      go : (b : Bool) → (c == 0x6B) ≡ b → Gives (IsPassedOver (c ∷ t)) (escape_at m (c ∷ t))
      go true e = subst (λ d. Gives (IsPassedOver (d ∷ t)) (escape_at m (d ∷ t))) (sym (eqb-true c 0x6B e)) (k-passed t)
      go false e = gives-weaker (λ x agree.
          let both = agree_trans m (pair-agrees m c t e) agree in
          record { outside = both.within false; anywhere = λ named other. both }) (escape-quiet c t e)

  -- an escape in a class without `v`, and its backslash
  pub class_escape-agrees : (t : List ℕ) → Gives (λ x. AgreeIn m true (0x5C ∷ t) x.1) (class_escape_at m t)
  unfolding class_escape_at group_names
  class_escape-agrees [] = gives-none
  class_escape-agrees (c ∷ t) = gives-weaker (λ x agree. agree.within true) (class_escape-quiet c t)
