-- Of the least number of iterations those may be left out that are more than the text has room for: one of the others takes nothing,
-- and might be done as often.
use Rattle.std.specs.List.{flat_map}
use Rattle.std.proofs.Common.{◌≡◌, ◌⊎◌, inl, inr, ℕ, zero, suc, ◌+◌, ◌<◌, ◌≤◌, Bool, List, [], ◌∷◌, All, Option, Some, None, refl, sym, ap, ap₂, ◌∙◌, arith}
use Rattle.std.proofs.lemmas.List.Elements.{All-head, All-tail, All-weaker}
use Rattle.regress_meaning.specs.Meaning.{State, Outcomes, iterations}
use Rattle.regress_engine_runs.proofs.FirstAnswers.{AnswerAlike, first_answer, or_else, answer-append}

module _ (body : Outcomes) (greedy : Bool) (room : State → ℕ) (Within : State → Type 0) where
  -- An iteration from one state to another takes something, or leads to where the next one leads to the same.
  pub record IsIteration (s u : State) : Type 0 where
    pub within : Within u
    pub takes : (room u < room s) ⊎ (body u ≡ body s)

  module _ (iterates : (s : State) → Within s → All (IsIteration s) (body s)) where
    -- some outcomes lead on alike, or to all that is led to
    abbrev Goes : (f g : Outcomes) → List State → State → Type 0
    Goes f g all u = AnswerAlike (f u) (g u) ⊎ (f u ≡ flat_map g all)

    -- so nothing is found where nothing is
    no-answer : (ask : State → Option State) (f g : Outcomes) (all us : List State) → All (Goes f g all) us → first_answer ask (flat_map g all) ≡ None
        → first_answer ask (flat_map g us) ≡ None → first_answer ask (flat_map f us) ≡ None
    no-answer ask f g all [] goes none some = some
    no-answer ask f g all (u ∷ us) goes none some =
        answer-append ask (f u) (flat_map f us)
        ∙ by_first (first_answer ask (g u)) refl (sym (answer-append ask (g u) (flat_map g us)) ∙ some) (All-head (Goes f g all) u us goes)
        (no-answer ask f g all us (All-tail (Goes f g all) u us goes) none)
      where
        by_way : first_answer ask (g u) ≡ None → Goes f g all u → first_answer ask (f u) ≡ None
        by_way e (inl alike) = alike ask ∙ e
        by_way e (inr is) = ap (first_answer ask) is ∙ none

        by_first : (o : Option State) → first_answer ask (g u) ≡ o → or_else (first_answer ask (g u)) (first_answer ask (flat_map g us)) ≡ None → Goes f g all u
            → (first_answer ask (flat_map g us) ≡ None → first_answer ask (flat_map f us) ≡ None)
            → or_else (first_answer ask (f u)) (first_answer ask (flat_map f us)) ≡ None
        by_first (Some x) e h way rest = absurd (some-none x (sym (ap (λ o. or_else o (first_answer ask (flat_map g us))) e) ∙ h))
          where
            some-none : (y : State) → ◌≡◌ {A = Option State} (Some y) None → ⊥
            some-none y q = absurd (cc)
        by_first None e h way rest =
            ap (λ o. or_else o (first_answer ask (flat_map f us))) (by_way e way) ∙ rest (sym (ap (λ o. or_else o (first_answer ask (flat_map g us))) e) ∙ h)

    -- and else the same
    same-answer : (ask : State → Option State) (f g : Outcomes) (all us : List State) (x : State) → All (Goes f g all) us → first_answer ask (flat_map g all) ≡ Some x
        → first_answer ask (flat_map g us) ≡ Some x → first_answer ask (flat_map f us) ≡ Some x
    same-answer ask f g all [] x goes found some = some
    same-answer ask f g all (u ∷ us) x goes found some =
        answer-append ask (f u) (flat_map f us)
        ∙ by_way (All-head (Goes f g all) u us goes) (sym (answer-append ask (g u) (flat_map g us)) ∙ some) (same-answer ask f g all us x (All-tail (Goes f g all) u us goes) found)
      where
        by_way : Goes f g all u → or_else (first_answer ask (g u)) (first_answer ask (flat_map g us)) ≡ Some x
            → (first_answer ask (flat_map g us) ≡ Some x → first_answer ask (flat_map f us) ≡ Some x) → or_else (first_answer ask (f u)) (first_answer ask (flat_map f us)) ≡ Some x
        by_way (inr is) h rest = ap (λ o. or_else o (first_answer ask (flat_map f us))) (ap (first_answer ask) is ∙ found)
        by_way (inl alike) h rest = ap (λ o. or_else o (first_answer ask (flat_map f us))) (alike ask) ∙ by_first (first_answer ask (g u)) h
          where
            by_first : (o : Option State) → or_else o (first_answer ask (flat_map g us)) ≡ Some x → or_else o (first_answer ask (flat_map f us)) ≡ Some x
            by_first (Some y) h' = h'
            by_first None h' = rest h'

    alike-all : (f g : Outcomes) (all : List State) → All (Goes f g all) all → AnswerAlike (flat_map f all) (flat_map g all)
    alike-all f g all goes ask = by_answer (first_answer ask (flat_map g all)) refl
      where
        by_answer : (o : Option State) → first_answer ask (flat_map g all) ≡ o → first_answer ask (flat_map f all) ≡ first_answer ask (flat_map g all)
        by_answer None e = no-answer ask f g all all goes e e ∙ sym e
        by_answer (Some x) e = same-answer ask f g all all x goes e e ∙ sym e

    -- one iteration fewer
    one-less : (need left : ℕ) (s : State) → Within s → room s < need → need ≤ left → AnswerAlike (iterations body greedy (suc left) (suc need) s) (iterations body greedy left need s)
    unfolding iterations
    one-less zero left s within more fits = absurd (omega (arith, more))
    one-less (suc need) zero s within more fits = absurd (omega (arith, fits))
    one-less (suc need) (suc left) s within more fits =
        alike-all (iterations body greedy (suc left) (suc need)) (iterations body greedy left need) (body s)
        (All-weaker (IsIteration s) (Goes (iterations body greedy (suc left) (suc need)) (iterations body greedy left need) (body s))
        (λ u h. by_room u (λ less. one-less need left u h.within (omega (arith, less, more)) (omega (arith, fits))) h.takes) (body s) (iterates s within))
      where
        by_room : (u : State) → (room u < room s → AnswerAlike (iterations body greedy (suc left) (suc need) u) (iterations body greedy left need u))
            → (room u < room s) ⊎ (body u ≡ body s) → Goes (iterations body greedy (suc left) (suc need)) (iterations body greedy left need) (body s) u
        by_room u fewer (inl less) = inl (fewer less)
        by_room u fewer (inr same) = inr (ap (flat_map (iterations body greedy left need)) same)

    -- so many fewer
    pub fewer : (n need left : ℕ) (s : State) → Within s → room s < need → need ≤ left → AnswerAlike (iterations body greedy (n + left) (n + need) s) (iterations body greedy left need s)
    fewer zero need left s within more fits ask =
        let l : 0 + left ≡ left = omega arith in
        let m : 0 + need ≡ need = omega arith in
        ap₂ (λ x y. first_answer ask (iterations body greedy x y s)) l m
    fewer (suc n) need left s within more fits ask =
        let l : suc n + left ≡ suc (n + left) = omega arith in
        let m : suc n + need ≡ suc (n + need) = omega arith in
        ap₂ (λ x y. first_answer ask (iterations body greedy x y s)) l m
        ∙ one-less (n + need) (n + left) s within (omega (arith, more)) (omega (arith, fits)) ask ∙ fewer n need left s within more fits ask
