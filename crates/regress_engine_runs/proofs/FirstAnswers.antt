-- Lists of states of which the same one answers first, whatever is asked.
use Rattle.std.specs.List.{flat_map}
use Rattle.std.proofs.Common.{◌≡◌, true, false, List, [], ◌∷◌, ◌++◌, Option, Some, None, refl, sym, ap, ◌∙◌}
use Rattle.regress_meaning.specs.Meaning.{State}
use Rattle.regress_front_nodes.specs.Trees.{Submatch, lookaround, atomic}
use Rattle.regress_front_nodes.specs.TreeMeaning.{submatched}

-- the first of two answers that there is
abbrev pub or_else : Option State → Option State → Option State
or_else None second = second
or_else (Some s) second = Some s

-- the first answer that one of some states gives
unfoldable pub first_answer : (State → Option State) → List State → Option State
first_answer ask [] = None
first_answer ask (s ∷ ss) = or_else (ask s) (first_answer ask ss)

-- whatever is asked, the first answer of both is the same
abbrev pub AnswerAlike : List State → List State → Type 0
AnswerAlike ss ts = (ask : State → Option State) → first_answer ask ss ≡ first_answer ask ts

or_else-assoc : (a b c : Option State) → or_else (or_else a b) c ≡ or_else a (or_else b c)
or_else-assoc None b c = refl
or_else-assoc (Some s) b c = refl

pub answer-append : (ask : State → Option State) (ss ts : List State) → first_answer ask (ss ++ ts) ≡ or_else (first_answer ask ss) (first_answer ask ts)
unfolding first_answer
answer-append ask [] ts = refl
answer-append ask (s ∷ ss) ts = ap (or_else (ask s)) (answer-append ask ss ts) ∙ sym (or_else-assoc (ask s) (first_answer ask ss) (first_answer ask ts))

-- to ask each outcome of some states is to ask those states for the first answer of their outcomes
pub answer-flat : (ask : State → Option State) (f : State → List State) (ss : List State) → first_answer ask (flat_map f ss) ≡ first_answer (λ s. first_answer ask (f s)) ss
unfolding first_answer
answer-flat ask f [] = refl
answer-flat ask f (s ∷ ss) = answer-append ask (f s) (flat_map f ss) ∙ ap (or_else (first_answer ask (f s))) (answer-flat ask f ss)

pub alike-append : (rs ss ts us : List State) → AnswerAlike rs ts → AnswerAlike ss us → AnswerAlike (rs ++ ss) (ts ++ us)
alike-append rs ss ts us h k ask =
    answer-append ask rs ss ∙ ap (λ o. or_else o (first_answer ask ss)) (h ask) ∙ ap (or_else (first_answer ask ts)) (k ask) ∙ sym (answer-append ask ts us)

-- what is made of each
pub alike-flat : (f : State → List State) (ss ts : List State) → AnswerAlike ss ts → AnswerAlike (flat_map f ss) (flat_map f ts)
alike-flat f ss ts h ask = answer-flat ask f ss ∙ h (λ s. first_answer ask (f s)) ∙ sym (answer-flat ask f ts)

-- the first of some states
abbrev pub head : List State → Option State
head [] = None
head (s ∷ ss) = Some s

pub alike-head : (ss ts : List State) → AnswerAlike ss ts → head ss ≡ head ts
unfolding first_answer
alike-head ss ts h = sym (is-answer ss) ∙ h (λ s. Some s) ∙ is-answer ts
  where
    is-answer : (us : List State) → first_answer (λ s. Some s) us ≡ head us
    is-answer [] = refl
    is-answer (u ∷ us) = refl

-- what follows what is matched by itself depends on the first outcome alone
pub alike-submatched : (kind : Submatch) (s : State) (ss ts : List State) → AnswerAlike ss ts → submatched kind s ss ≡ submatched kind s ts
alike-submatched kind s ss ts h = by_head kind ss ∙ ap (of_head kind) (alike-head ss ts h) ∙ sym (by_head kind ts)
  where
    of_head : Submatch → Option State → List State
    of_head kind None = submatched kind s []
    of_head kind (Some t) = submatched kind s (t ∷ [])

    by_head : (kind : Submatch) (us : List State) → submatched kind s us ≡ of_head kind (head us)
    by_head kind [] = refl
    by_head (lookaround true backward) (u ∷ us) = refl
    by_head (lookaround false backward) (u ∷ us) = refl
    by_head atomic (u ∷ us) = refl
