-- What holds of each kind of escape holds of what is read behind a backslash.
use Rattle.std.specs.Prelude.{if◌then◌else◌}
use Rattle.std.proofs.Common.{ℕ, ◌-◌, Bool, ◌==◌, ◌||◌, ◌&&◌, not, nat_lt, nat_le, List, [], ◌∷◌, length, drop, Option, is_some}
use Rattle.regress_meaning.proofs.Inversion.{Gives, gives-none, gives-some, gives-if, gives-guard, gives-or, gives-map, gives-then, gives-any}
use Rattle.regress_meaning.specs.Text.{◌∈◌, is_at}
use Rattle.regress_meaning.specs.Class.{Class, is_digit, is_letter, is_ascii_word}
use Rattle.regress_meaning.specs.Tokens.{Mode, guard, is_octal, decimal_at, Escape, point, set, groups, class_letter, control, control_letter, as_point, hex_at, octal_at, unicode_escape, name_at, numbers_from, property_at, named_reference, octal_or_digit, decimal_escape, identity, escape_at, class_escape_at}

-- Q holds of each kind of escape
pub record HoldsOfEach (m : Mode) (Q : Escape → Type 0) : Type 0 where
  pub of_point : (c : ℕ) → Q (point c)
  pub of_letter : (c : ℕ) → Gives (λ s. Q (set s)) (class_letter c)
  pub of_key : (c : ℕ) (t : List ℕ) → Gives (λ (p : Class × List ℕ). Q (set p.0)) (property_at m c t)
  pub of_number : (k : ℕ) → Q (groups (k ∷ []))
  pub of_name : (name : List ℕ) → Q (groups (numbers_from 0 name m.names))

-- Q holds of what was read
abbrev pub GivesEscape : (Escape → Type 0) → Option (Escape × List ℕ) → Type 0
GivesEscape Q o = Gives (λ p. Q p.0) o

module _ (m : Mode) (Q : Escape → Type 0) (each : HoldsOfEach m Q) where
  as_point-each : (o : Option (ℕ × List ℕ)) → GivesEscape Q (as_point o)
  as_point-each o = gives-map _ o (gives-any o) (λ p h. each.of_point p.0)

  identity-each : (c : ℕ) (t : List ℕ) → GivesEscape Q (identity m c t)
  identity-each c t = gives-guard (not m.unicode || c ∈ "^$\\.*+?()[]{}|/") (λ _. gives-some (each.of_point c))

  octal_or_digit-each : (c : ℕ) (t : List ℕ) → GivesEscape Q (octal_or_digit m c t)
  unfolding octal_or_digit
  octal_or_digit-each c t = gives-guard (not m.unicode)
      (λ _. gives-if (is_octal c) (λ _. as_point-each (octal_at (c ∷ t))) (λ _. gives-some (each.of_point c)))

  decimal_escape-each : (c : ℕ) (t : List ℕ) → GivesEscape Q (decimal_escape m c t)
  unfolding decimal_escape
  decimal_escape-each c t = gives-then _ (decimal_at (c ∷ t)) (gives-any (decimal_at (c ∷ t)))
      (λ p h. gives-if (nat_le p.0 (length m.names))
      (λ _. gives-some (each.of_number (p.0 - 1))) (λ _. octal_or_digit-each c t))

  named_reference-each : (t : List ℕ) → GivesEscape Q (named_reference m t)
  unfolding named_reference
  named_reference-each t =
      let o = guard (is_at (λ d. d == 0x3C) t) (name_at m.table (drop 1 t)) in
      gives-then _ o (gives-any o) (λ p h. gives-guard (nat_lt 0 (length (numbers_from 0 p.0 m.names)))
      (λ _. gives-some (each.of_name p.0)))

  control_letter-each : (test : ℕ → Bool) (t : List ℕ) → GivesEscape Q (control_letter test t)
  control_letter-each test [] = gives-none
  control_letter-each test (c ∷ t) = gives-guard (test c) (λ _. gives-some (each.of_point _))

  pub escape_at-each : (t : List ℕ) → GivesEscape Q (escape_at m t)
  unfolding escape_at
  escape_at-each [] = gives-none
  escape_at-each (c ∷ t) =
      gives-if (is_some (class_letter c)) (λ _. gives-map _ (class_letter c) (each.of_letter c) (λ s h. h)) (λ _.
      gives-if (is_some (control c)) (λ _. gives-map _ (control c) (gives-any (control c)) (λ d h. each.of_point d)) (λ _.
      gives-if (c == 0x63) (λ _. gives-or (control_letter is_letter t) (control_letter-each is_letter t)
      (gives-guard (not m.unicode) (λ _. gives-some (each.of_point 0x5C)))) (λ _.
      gives-if (c == 0x30) (λ _. gives-if (is_at is_digit t)
      (λ _. octal_or_digit-each c t) (λ _. gives-some (each.of_point 0))) (λ _.
      gives-if (is_digit c) (λ _. decimal_escape-each c t) (λ _.
      gives-if (c == 0x78) (λ _. gives-or (as_point (hex_at 2 t)) (as_point-each (hex_at 2 t)) (identity-each c t)) (λ _.
      gives-if (c == 0x75) (λ _. gives-or (as_point (if m.unicode then unicode_escape t else hex_at 4 t))
      (as_point-each (if m.unicode then unicode_escape t else hex_at 4 t)) (identity-each c t)) (λ _.
      gives-if (c == 0x6B) (λ _. gives-if m.named
      (λ _. named_reference-each t) (λ _. gives-some (each.of_point c))) (λ _.
      gives-if ((c == 0x70 || c == 0x50) && m.unicode)
      (λ _. gives-map _ (property_at m c t) (each.of_key c t) (λ p h. h)) (λ _.
      identity-each c t)))))))))

  pub class_escape_at-each : (t : List ℕ) → GivesEscape Q (class_escape_at m t)
  unfolding class_escape_at
  class_escape_at-each [] = gives-none
  class_escape_at-each (c ∷ t) =
      gives-if (c == 0x62) (λ _. gives-some (each.of_point 8)) (λ _.
      gives-if (c == 0x2D) (λ _. gives-some (each.of_point 0x2D)) (λ _.
      gives-if (c == 0x63 && not m.unicode && is_at is_ascii_word t) (λ _. control_letter-each is_ascii_word t) (λ _.
      gives-if (is_digit c && not (c == 0x30)) (λ _. octal_or_digit-each c t) (λ _.
      gives-if (c == 0x6B) (λ _. gives-guard (not m.named) (λ _. gives-some (each.of_point c))) (λ _.
      escape_at-each (c ∷ t))))))
