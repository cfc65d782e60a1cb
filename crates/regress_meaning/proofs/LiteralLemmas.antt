-- An escaped text spells its characters, and these match just where the text stands.
use Rattle.std.proofs.Common.{◌≡◌, ℕ, suc, ◌+◌, ◌-◌, ◌≤◌, ◌<◌, Bool, true, false, not, ◌&&◌, ◌||◌, ◌==◌, ◌⊎◌, inl, inr, get_or, append-nil, List, [], ◌∷◌, length, drop, Option, Some, None, if◌then◌else◌, codes, refl, sym, ap, ◌∙◌, arith, eqb-true, subst}
use Rattle.std.specs.List.{starts_with, list_all, flat_map}
use Rattle.std.proofs.lemmas.Bool.{and_parts, le-leb, lt-leb, cases_lt}
use Rattle.std.proofs.Math.Seq.{drop-cons}
use Rattle.std.proofs.Math.ListN.{drop_of_length-le}
use Rattle.regress_meaning.specs.Text.{holds, ◌∈◌}
use Rattle.regress_meaning.specs.Table.{Table}
use Rattle.regress_meaning.specs.Pattern.{Settings, names_of, character}
use Rattle.regress_meaning.specs.Flags.{Options, is_unicode, first_settings}
use Rattle.regress_meaning.specs.Tokens.{Mode, bounds_at, escape_at, point}
use Rattle.regress_meaning.specs.Grammar.{Disjunction, one, Alternative, done, next, Term, once, plain, escape, mode_of, names_apart, is_pattern_character, Spells}
use Rattle.regress_meaning.specs.Limits.{WithinLimits, depth, quantifiers}
use Rattle.regress_meaning.specs.Meaning.{State, Forward, Outcomes, Context, same, beside, step, then_go, outcomes}
use Rattle.regress_meaning.proofs.ReadSteps.{told_apart}
use Rattle.regress_meaning.specs.Matches.{item_at, attempt, match_list}
use Rattle.regress_meaning.specs.Literal.{is_syntax_character, escaped_text, literal_pattern, occurrence_at, occurrences}
use Rattle.regress_meaning.proofs.MatchLaws.{all_found-same}

-- ---- the text spells the tree

-- P holds of each of some numbers, told one by one
abbrev Each : (ℕ → Type 0) → List ℕ → Type 0
Each P [] = Unit {0}
Each P (d ∷ ds) = P d × Each P ds

-- what holds of each of some numbers holds of c, if that is one of them
each-member : (P : ℕ → Type 0) (c : ℕ) (cs : List ℕ) → holds cs c ≡ true → Each P cs → P c
each-member P c [] e all = absurd (cc)
each-member P c (d ∷ ds) e all = go (d == c) refl e (λ h. each-member P c ds h all.1)
  where
    go : (b : Bool) → (d == c) ≡ b → (b || holds ds c) ≡ true → (holds ds c ≡ true → P c) → P c
    go true same h later = subst P (eqb-true d c same) all.0
    go false other h later = later h

-- c is none of some numbers that all pass where it fails
not_among : (test : ℕ → Bool) (c : ℕ) (cs : List ℕ) → test c ≡ false → list_all test cs ≡ true → holds cs c ≡ false
not_among test c [] e all = refl
not_among test c (d ∷ ds) e all =
    let parts = and_parts (test d) (list_all test ds) all in
    rw (told_apart (λ x. not (test x)) d c (ap not parts.0) (ap not e), not_among test c ds e parts.1) refl

-- what is no syntax character begins no quantifier
not_quantifier : (c : ℕ) (t : List ℕ) → is_syntax_character c ≡ false → bounds_at (c ∷ t) ≡ None
unfolding bounds_at
not_quantifier c t e =
    let apart : (d : ℕ) → is_syntax_character d ≡ true → (c == d) ≡ false = λ d h. told_apart is_syntax_character c d e h in
    rw (apart 0x2A refl, apart 0x2B refl, apart 0x3F refl, apart 0x7B refl) refl

-- no quantifier begins an escaped text
no_bounds : (cs : List ℕ) → bounds_at (escaped_text cs) ≡ None
unfolding escaped_text bounds_at
no_bounds [] = refl
no_bounds (c ∷ cs) = go (is_syntax_character c) refl
  where
    go : (b : Bool) → is_syntax_character c ≡ b → bounds_at (if b then 0x5C ∷ c ∷ escaped_text cs else c ∷ escaped_text cs) ≡ None
    go true e = refl
    go false e = not_quantifier c (escaped_text cs) e

names-literal : (cs : List ℕ) → names_of (literal_pattern cs) ≡ []
unfolding literal_pattern
names-literal [] = refl
names-literal (c ∷ cs) = names-literal cs

module _ (m : Mode) where
  -- a syntax character behind a backslash is itself
  escape-syntax : (c : ℕ) (t : List ℕ) → is_syntax_character c ≡ true → (escape_at m (c ∷ t) ≡ Some (point c, t)) × ((c ∈ "bB") ≡ false)
  unfolding escape_at
  escape-syntax c t e = go m.unicode refl
    where
      P : ℕ → Type 0
      P d = (escape_at m (d ∷ t) ≡ Some (point d, t)) × ((d ∈ "bB") ≡ false)

      go : (u : Bool) → m.unicode ≡ u → P c
      go true mode =
          each-member P c (codes "^$\\.*+?()[]{}|") e
          ((rw mode refl, refl), ((rw mode refl, refl), ((rw mode refl, refl), ((rw mode refl, refl), ((rw mode refl, refl), ((rw mode refl, refl), ((rw mode refl, refl), ((rw mode refl, refl), ((rw mode refl, refl), ((rw mode refl, refl), ((rw mode refl, refl), ((rw mode refl, refl), ((rw mode refl, refl), ((rw mode refl, refl), tt))))))))))))))
      go false mode =
          each-member P c (codes "^$\\.*+?()[]{}|") e
          ((rw mode refl, refl), ((rw mode refl, refl), ((rw mode refl, refl), ((rw mode refl, refl), ((rw mode refl, refl), ((rw mode refl, refl), ((rw mode refl, refl), ((rw mode refl, refl), ((rw mode refl, refl), ((rw mode refl, refl), ((rw mode refl, refl), ((rw mode refl, refl), ((rw mode refl, refl), ((rw mode refl, refl), tt))))))))))))))

  -- any other character stands for itself
  itself : (c : ℕ) (t : List ℕ) → is_syntax_character c ≡ false → is_pattern_character m c t ≡ true
  itself c t e = go m.unicode refl
    where
      go : (u : Bool) → m.unicode ≡ u → is_pattern_character m c t ≡ true
      go true mode = rw (mode, e) refl
      go false mode = rw (mode, not_among is_syntax_character c (codes "^$\\.*+?()[|{") e refl) refl

  term : (k c : ℕ) (cs : List ℕ) → Term m (escaped_text (c ∷ cs)) k (character c) k (escaped_text cs)
  unfolding escaped_text
  term k c cs = go (is_syntax_character c) refl
    where
      go : (b : Bool) → is_syntax_character c ≡ b
          → Term m (if b then 0x5C ∷ c ∷ escaped_text cs else c ∷ escaped_text cs) k (character c) k (escaped_text cs)
      go true e = let h = escape-syntax c (escaped_text cs) e in once (escape h.1 h.0) (no_bounds cs)
      go false e = once (plain (itself c (escaped_text cs) e)) (no_bounds cs)

  alternative : (k : ℕ) (cs : List ℕ) → Alternative m (escaped_text cs) k (literal_pattern cs) k []
  unfolding literal_pattern escaped_text
  alternative k [] = done refl
  alternative k (c ∷ cs) = next (term k c cs) (alternative k cs)

-- the tree has no group and no quantifier, and opens nothing
apart-literal : (cs : List ℕ) → names_apart (literal_pattern cs) ≡ true
unfolding literal_pattern
apart-literal [] = refl
apart-literal (c ∷ cs) = rw (apart-literal cs) refl

depth-literal : (cs : List ℕ) → depth (literal_pattern cs) ≡ 0
unfolding literal_pattern
depth-literal [] = refl
depth-literal (c ∷ cs) = rw (depth-literal cs) refl

quantifiers-literal : (cs : List ℕ) → quantifiers (literal_pattern cs) ≡ 0
unfolding literal_pattern
quantifiers-literal [] = refl
quantifiers-literal (c ∷ cs) = rw (quantifiers-literal cs) refl

pub spells-literal : (table : Table) (o : Options) (cs : List ℕ) → Spells table o (escaped_text cs) (literal_pattern cs)
spells-literal table o cs = record {
  whole = subst (λ ns. Disjunction (mode_of table o (escaped_text cs) ns) (escaped_text cs) 0 (literal_pattern cs) (length ns) []) (sym (names-literal cs))
      (one (alternative _ 0 cs) refl);
  apart = apart-literal cs;
}

pub within-literal : (cs : List ℕ) → WithinLimits (literal_pattern cs)
within-literal cs = record { deep = omega (arith, depth-literal cs); groups = rw (names-literal cs) (omega arith); loops = omega (arith, quantifiers-literal cs) }

-- ---- the tree matches where the text stands

-- the state at a place, where a test passes
abbrev at_if : Bool → ℕ → List (Option (ℕ × ℕ)) → List State
at_if b p groups = if b then record { place = p; groups = groups } ∷ [] else []

module _ (context : Context) where
  -- the code point at a place, where it passes
  step-there : (test : ℕ → Bool) (p : ℕ) (groups : List (Option (ℕ × ℕ))) → p < length context.text
      → step context Forward 1 (list_all test) (record { place = p; groups = groups }) ≡ at_if (test (get_or context.text p 0) && true) (p + 1) groups
  unfolding step beside
  step-there test p groups h =
      let one : p + 1 - p ≡ 1 = omega arith in
      rw (le-leb (p + 1) (length context.text) (omega arith), drop-cons context.text p 0 h, one) refl

  -- at the end of the text there is none
  step-past : (test : ℕ → Bool) (p : ℕ) (groups : List (Option (ℕ × ℕ))) → length context.text ≤ p
      → step context Forward 1 (list_all test) (record { place = p; groups = groups }) ≡ []
  unfolding step beside
  step-past test p groups h = rw (lt-leb (p + 1) (length context.text) (omega (arith, h))) refl

  module _ (e : Settings) where
    -- a character of the literal and one of the text are the same, under the settings
    abbrev alike : ℕ → ℕ → Bool
    alike = same context.table context.unicode e.icase

    -- from a place of the text the characters lead to the place behind them, where they stand there, and to no other
    outcomes-literal : (cs : List ℕ) (p : ℕ) (groups : List (Option (ℕ × ℕ))) → p ≤ length context.text
        → outcomes context (literal_pattern cs) Forward e (record { place = p; groups = groups })
        ≡ at_if (starts_with alike (drop p context.text) cs) (p + length cs) groups
    unfolding literal_pattern outcomes
    outcomes-literal [] p groups within = let same : p ≡ p + 0 = omega arith in ap (λ q. at_if true q groups) same
    outcomes-literal (c ∷ cs) p groups within = go (cases_lt p (length context.text)) (λ h. outcomes-literal cs (p + 1) groups h)
      where
        rest : Outcomes
        rest = outcomes context (literal_pattern cs) Forward e

        goal : Type 0
        goal = then_go (λ s. step context Forward 1 (list_all (alike c)) s) rest (record { place = p; groups = groups })
            ≡ at_if (starts_with alike (drop p context.text) (c ∷ cs)) (p + suc (length cs)) groups

        -- the rest is tried where the first character stands
        taken : (b : Bool) → rest (record { place = p + 1; groups = groups }) ≡ at_if (starts_with alike (drop (p + 1) context.text) cs) (p + 1 + length cs) groups
            → flat_map rest (at_if (b && true) (p + 1) groups) ≡ at_if (b && starts_with alike (drop (suc p) context.text) cs) (p + suc (length cs)) groups
        taken true h =
            let on : p + 1 + length cs ≡ p + suc (length cs) = omega arith in
            let behind : p + 1 ≡ suc p = omega arith in
            append-nil (rest (record { place = p + 1; groups = groups })) ∙ h
            ∙ ap (λ q. at_if (starts_with alike (drop (p + 1) context.text) cs) q groups) on
            ∙ ap (λ q. at_if (starts_with alike (drop q context.text) cs) (p + suc (length cs)) groups) behind
        taken false h = refl

        go : (p < length context.text) ⊎ (length context.text ≤ p)
            → (p + 1 ≤ length context.text → rest (record { place = p + 1; groups = groups }) ≡ at_if (starts_with alike (drop (p + 1) context.text) cs) (p + 1 + length cs) groups)
            → goal
        go (inl h) later =
            rw (step-there (alike c) p groups h, drop-cons context.text p 0 h)
            (taken (alike c (get_or context.text p 0)) (later (omega (arith, h))))
        go (inr h) later = rw (step-past (alike c) p groups h, drop_of_length-le context.text h) refl

-- At each place of the text the pattern finds what the literal does.
module _ (table : Table) (o : Options) (cs text : List ℕ) where
  attempt-literal : (q : ℕ) → q ≤ length text → attempt table o (literal_pattern cs) text q ≡ occurrence_at table o cs text q
  unfolding attempt
  attempt-literal q within =
      rw (names-literal cs, outcomes-literal (record { text = text; table = table; unicode = is_unicode o }) (first_settings o) cs q [] within, le-leb q (length text) within)
      (told (starts_with (same table (is_unicode o) o.icase) (drop q text) cs))
    where
      told : (b : Bool) → item_at q (at_if b (q + length cs) []) ≡ (if b then Some (record { start = q; end = q + length cs; groups = [] }) else None)
      told true = refl
      told false = refl

  pub literal-matches : (place : ℕ) → match_list table o (literal_pattern cs) text place ≡ occurrences table o cs text place
  unfolding match_list occurrences
  literal-matches place = all_found-same (attempt table o (literal_pattern cs) text) (occurrence_at table o cs text) (length text) attempt-literal place
