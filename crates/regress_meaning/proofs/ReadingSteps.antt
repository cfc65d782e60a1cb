-- The reading function goes step by step, whatever the bound on how deep its calls go, if that is enough.
use Rattle.std.specs.Prelude.{if◌then◌else◌}
use Rattle.std.proofs.Common.{◌≡◌, ℕ, suc, ◌+◌, ◌*◌, ◌<◌, ◌≤◌, Bool, true, false, ◌==◌, List, [], ◌∷◌, length, drop, Option, Some, None, option_and_then, option_map, refl, sym, ap, ◌∙◌, le_refl, arith}
use Rattle.regress_meaning.specs.Text.{is_at}
use Rattle.regress_meaning.specs.Pattern.{choice, sequence, nothing}
use Rattle.regress_meaning.specs.Tokens.{Mode}
use Rattle.regress_meaning.specs.Grammar.{ends_alternative}
use Rattle.regress_meaning.specs.Reading.{Front, opening, read_term, joined_by, alternatives_if, alternatives, terms, read_terms, read_disjunction, read_alternative, disjunction_at, alternative_at, term_at, GoesForward, ReadsBySteps}
use Rattle.regress_meaning.proofs.Openings.{opening-fits}
use Rattle.regress_meaning.proofs.ReadingSound.{ReadsDisjunctions, term-sound, read_disjunction-sound, read_alternative-sound}
use Rattle.regress_meaning.proofs.ReadingComplete.{ReadsBelow, term-complete, read_disjunction-complete, read_alternative-complete}
use Rattle.regress_meaning.proofs.Shorter.{Disjunction-shorter, Alternative-shorter, Term-shorter}
use Rattle.regress_meaning.proofs.NumberingLemmas.{Disjunction-counts, Alternative-counts, Term-counts}
use Rattle.regress_meaning.proofs.ContentsSteps.{then_agree}

-- what finds the same values is the same
agree : {A : Type 0} (o u : Option A) → ((a : A) → o ≡ Some a → u ≡ Some a) → ((a : A) → u ≡ Some a → o ≡ Some a) → o ≡ u
agree (Some a) u f g = sym (f a refl)
agree None (Some a) f g = g a refl
agree None None f g = refl

if_agree : {A : Type 0} (b : Bool) (x y z : A) → (b ≡ false → y ≡ z) → (if b then x else y) ≡ (if b then x else z)
if_agree true x y z same = refl
if_agree false x y z same = same refl

module _ (m : Mode) (coherent : m.sets ≡ true → m.unicode ≡ true) where
  disjunction-enough : (n : ℕ) (t : List ℕ) (k : ℕ) → 3 * length t + 3 ≤ n → read_disjunction m n t k ≡ disjunction_at m t k
  unfolding disjunction_at
  disjunction-enough n t k room = agree _ _
      (λ f e. read_disjunction-complete m coherent (3 * length t + 3) (le_refl (3 * length t + 3)) (read_disjunction-sound m n t k f e))
      (λ f e. read_disjunction-complete m coherent n room (read_disjunction-sound m (3 * length t + 3) t k f e))

  alternative-enough : (n : ℕ) (t : List ℕ) (k : ℕ) → 3 * length t + 2 ≤ n → read_alternative m n t k ≡ alternative_at m t k
  unfolding alternative_at
  alternative-enough n t k room = agree _ _
      (λ f e. read_alternative-complete m coherent (3 * length t + 2) (le_refl (3 * length t + 2)) (read_alternative-sound m n t k f e))
      (λ f e. read_alternative-complete m coherent n room (read_alternative-sound m (3 * length t + 2) t k f e))

  disjunction_at-sound : ReadsDisjunctions m (disjunction_at m)
  unfolding disjunction_at
  disjunction_at-sound t k f e = read_disjunction-sound m (3 * length t + 3) t k f e

  disjunction_at-complete : (n : ℕ) → ReadsBelow m coherent (disjunction_at m) n
  unfolding disjunction_at
  disjunction_at-complete n t k l p r below d = read_disjunction-complete m coherent (3 * length t + 3) (le_refl (3 * length t + 3)) d

  term-enough : (n : ℕ) (t : List ℕ) (k : ℕ) → 3 * length t ≤ n → read_term m (read_disjunction m n) k (opening m t) ≡ term_at m t k
  unfolding term_at
  term-enough n t k room = agree _ _
      (λ f e. term-complete m coherent (disjunction_at m) (disjunction_at-complete (length t))
      (term-sound m (read_disjunction m n) (read_disjunction-sound m n) t k f (opening m t) (opening-fits m t) e))
      (λ f e. term-complete m coherent (read_disjunction m n) (λ s i j p r below d. read_disjunction-complete m coherent n (omega arith) d)
      (term-sound m (disjunction_at m) disjunction_at-sound t k f (opening m t) (opening-fits m t) e))

  -- behind an alternative the rest of the disjunction is read alike
  alternatives-enough : (n : ℕ) (t : List ℕ) (f : Front) → length f.rest ≤ length t → 3 * length t ≤ n → alternatives (read_disjunction m n) f ≡ alternatives (disjunction_at m) f
  unfolding alternatives alternatives_if
  alternatives-enough n t f shorter room = by_bar (is_at (λ c. c == 0x7C) f.rest) refl
    where
      rest_shorter : (u : List ℕ) → is_at (λ c. c == 0x7C) u ≡ true → length (drop 1 u) < length u
      rest_shorter [] h = cc
      rest_shorter (c ∷ u) h = omega arith

      by_bar : (bar : Bool) → is_at (λ c. c == 0x7C) f.rest ≡ bar → alternatives_if bar (read_disjunction m n) f ≡ alternatives_if bar (disjunction_at m) f
      by_bar false h = refl
      by_bar true h =
          let further = rest_shorter f.rest h in
          ap (option_map (joined_by choice f)) (disjunction-enough n (drop 1 f.rest) f.opened (omega arith))

  disjunction-step : (t : List ℕ) (k : ℕ) → disjunction_at m t k ≡ option_and_then (alternatives (disjunction_at m)) (alternative_at m t k)
  unfolding read_disjunction read_alternative alternative_at
  disjunction-step t k =
      let room = 3 * length t + 2 in
      let deeper : suc room ≡ 3 * length t + 3 = omega arith in
      sym (disjunction-enough (suc room) t k (omega arith))
      ∙ then_agree (alternatives (read_disjunction m room)) (alternatives (disjunction_at m)) (read_alternative m room t k)
      (λ f e. alternatives-enough room t f (Alternative-shorter m (read_alternative-sound m room t k f e)) (omega arith))

  -- behind a term the rest of the alternative is read alike
  terms-enough : (n : ℕ) (t : List ℕ) (f : Front) → length f.rest < length t → 3 * length t ≤ n + 1 → terms (read_alternative m n) f ≡ terms (alternative_at m) f
  unfolding terms
  terms-enough n t f shorter room = ap (option_map (joined_by sequence f)) (alternative-enough n f.rest f.opened (omega arith))

  alternative-step : (t : List ℕ) (k : ℕ) → alternative_at m t k ≡ (if ends_alternative t
      then Some (record { tree = nothing; opened = k; rest = t })
      else option_and_then (terms (alternative_at m)) (term_at m t k))
  unfolding read_alternative read_disjunction read_terms
  alternative-step t k =
      let room = 3 * length t + 1 in
      sym (alternative-enough (suc room) t k (omega arith))
      ∙ if_agree (ends_alternative t) _ _ _ (λ h.
      then_agree (terms (read_alternative m room)) (terms (alternative_at m)) (read_term m (read_disjunction m room) k (opening m t))
      (λ f e. terms-enough room t f (Term-shorter m (term-sound m (read_disjunction m room) (read_disjunction-sound m room) t k f (opening m t) (opening-fits m t) e)) (omega arith))
      ∙ ap (option_and_then (terms (alternative_at m))) (term-enough room t k (omega arith)))

  disjunction-forward : (t : List ℕ) (k : ℕ) → GoesForward t k (disjunction_at m t k)
  disjunction-forward t k f e =
      let d = disjunction_at-sound t k f e in
      (Disjunction-counts m d, Disjunction-shorter m d)

  alternative-forward : (t : List ℕ) (k : ℕ) → GoesForward t k (alternative_at m t k)
  unfolding alternative_at
  alternative-forward t k f e =
      let d = read_alternative-sound m (3 * length t + 2) t k f e in
      (Alternative-counts m d, Alternative-shorter m d)

  term-forward : (t : List ℕ) (k : ℕ) → GoesForward t k (term_at m t k)
  unfolding term_at
  term-forward t k f e =
      let d = term-sound m (disjunction_at m) disjunction_at-sound t k f (opening m t) (opening-fits m t) e in
      let shorter = Term-shorter m d in
      (Term-counts m d, omega arith)

  pub read_by_steps : (t : List ℕ) (k : ℕ) → ReadsBySteps m t k
  read_by_steps t k = record {
    disjunction = disjunction-step t k;
    alternative = alternative-step t k;
    disjunction_forward = disjunction-forward t k;
    alternative_forward = alternative-forward t k;
    term_forward = term-forward t k;
  }
