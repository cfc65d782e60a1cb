-- Lists without later repeats: what is made of lists depends, but for later repeats, on their distinct elements alone.
use Rattle.std.proofs.Common.{◌≡◌, ℕ, zero, suc, Bool, true, false, ◌&&◌, ◌||◌, ◌==◌, not, List, [], ◌∷◌, ◌++◌, Option, Some, None, if◌then◌else◌, filter, map, take, All, subst, refl, sym, ap, ◌∙◌, arith, eqb-true}
use Rattle.std.specs.List.{flat_map, list_any}
use lib.Pointwise.{pointwise}
use Rattle.std.proofs.lemmas.Bool.Decides.{nat_tests}
use Rattle.std.proofs.lemmas.List.{append_assoc}
use Rattle.std.proofs.lemmas.List.Elements.{filter-append, All-head, All-tail, All-filter}
use Rattle.std.proofs.lemmas.List.Concat.{flat_map_single}
use Rattle.regress_meaning.specs.Meaning.{State, Outcomes, Context, iterations, looked, moved}
use Rattle.regress_meaning.specs.Laws.{IsInside}
use Rattle.regress_front_nodes.specs.Trees.{Submatch, lookaround, atomic}
use Rattle.regress_front_nodes.specs.TreeMeaning.{submatched}
use Rattle.regress_front_nodes.specs.Alike.{same_range, same_state, distinct, AreAlike, GoAlike, StayInside, MakeAlike}

eqb-self : (n : ℕ) → (n == n) ≡ true
eqb-self n = grind (arith, nat_tests)

-- equal groups and states, by the test

same_range-is : (g h : Option (ℕ × ℕ)) → same_range g h ≡ true → g ≡ h
same_range-is None None e = refl
same_range-is None (Some y) e = absurd (cc)
same_range-is (Some x) None e = absurd (cc)
same_range-is (Some (a, b)) (Some (c, d)) e = both (a == c) (b == d) refl refl e
  where
    both : (p q : Bool) → (a == c) ≡ p → (b == d) ≡ q → (p && q) ≡ true → ◌≡◌ {A = Option (ℕ × ℕ)} (Some (a, b)) (Some (c, d))
    both true true h k e = rw (eqb-true a c h, eqb-true b d k) refl
    both true false h k e = absurd (cc)
    both false q h k e = absurd (cc)

same_ranges-are : (gs hs : List (Option (ℕ × ℕ))) → pointwise same_range gs hs ≡ true → gs ≡ hs
same_ranges-are [] [] e = refl
same_ranges-are [] (h ∷ hs) e = absurd (cc)
same_ranges-are (g ∷ gs) [] e = absurd (cc)
same_ranges-are (g ∷ gs) (h ∷ hs) e = both (same_range g h) (pointwise same_range gs hs) refl (same_ranges-are gs hs) e
  where
    both : (p q : Bool) → same_range g h ≡ p → (q ≡ true → gs ≡ hs) → (p && q) ≡ true → g ∷ gs ≡ h ∷ hs
    both true true a rest e = rw (same_range-is g h a, rest refl) refl
    both true false a rest e = absurd (cc)
    both false q a rest e = absurd (cc)

same_state-is : (s t : State) → same_state s t ≡ true → s ≡ t
same_state-is s t e = both (s.place == t.place) (pointwise same_range s.groups t.groups) refl refl e
  where
    both : (p q : Bool) → (s.place == t.place) ≡ p → pointwise same_range s.groups t.groups ≡ q → (p && q) ≡ true → s ≡ t
    both true true a b e =
        let place = eqb-true s.place t.place a in
        let groups = same_ranges-are s.groups t.groups b in
        (λ i. record { place = place i; groups = groups i })
    both true false a b e = absurd (cc)
    both false q a b e = absurd (cc)

same_range-self : (g : Option (ℕ × ℕ)) → same_range g g ≡ true
same_range-self None = refl
same_range-self (Some (a, b)) = rw (eqb-self a, eqb-self b) refl

same_ranges-self : (gs : List (Option (ℕ × ℕ))) → pointwise same_range gs gs ≡ true
same_ranges-self [] = refl
same_ranges-self (g ∷ gs) = rw (same_range-self g, same_ranges-self gs) refl

pub same_state-self : (s : State) → same_state s s ≡ true
same_state-self s = rw (eqb-self s.place, same_ranges-self s.groups) refl

-- without one state
abbrev without : State → List State → List State
without s ts = filter (λ t. not (same_state s t)) ts

-- two filters may change places
filter-swap : (p q : State → Bool) (ss : List State) → filter p (filter q ss) ≡ filter q (filter p ss)
filter-swap p q [] = refl
filter-swap p q (s ∷ ss) = go (p s) (q s) refl refl (filter-swap p q ss)
  where
    go : (a b : Bool) → p s ≡ a → q s ≡ b → filter p (filter q ss) ≡ filter q (filter p ss) → filter p (filter q (s ∷ ss)) ≡ filter q (filter p (s ∷ ss))
    go true true h k rest = rw (h, k) (rw h (ap (λ us. s ∷ us) rest))
    go true false h k rest = rw (h, k) rest
    go false true h k rest = rw (h, k) (rw h rest)
    go false false h k rest = rw (h, k) rest

-- where a state doesn't pass, it may be left out before
filter-without : (p : State → Bool) (s : State) → p s ≡ false → (ts : List State) → filter p (without s ts) ≡ filter p ts
filter-without p s e [] = refl
filter-without p s e (t ∷ ts) = go (same_state s t) refl (filter-without p s e ts)
  where
    kept : (b : Bool) → p t ≡ b → filter p (without s ts) ≡ filter p ts → filter p (t ∷ without s ts) ≡ filter p (t ∷ ts)
    kept true k rest = rw k (ap (λ us. t ∷ us) rest)
    kept false k rest = rw k rest

    go : (a : Bool) → same_state s t ≡ a → filter p (without s ts) ≡ filter p ts → filter p (without s (t ∷ ts)) ≡ filter p (t ∷ ts)
    go true h rest =
        let fails : p t ≡ false = ap p (sym (same_state-is s t h)) ∙ e in
        rw (h, fails) rest
    go false h rest = rw h (kept (p t) refl rest)

-- a filter keeps what is distinct distinct
pub filter-distinct : (p : State → Bool) (ss : List State) → filter p (distinct ss) ≡ distinct (filter p ss)
unfolding distinct
filter-distinct p [] = refl
filter-distinct p (s ∷ ss) = go (p s) refl (filter-distinct p ss)
  where
    go : (a : Bool) → p s ≡ a → filter p (distinct ss) ≡ distinct (filter p ss) → filter p (s ∷ without s (distinct ss)) ≡ distinct (filter p (s ∷ ss))
    go true h rest = rw h (ap (λ us. s ∷ us) (filter-swap p (λ t. not (same_state s t)) (distinct ss) ∙ ap (without s) rest))
    go false h rest = rw h (filter-without p s h (distinct ss) ∙ rest)

-- a filter twice is the filter once
filter-again : (p : State → Bool) (ss : List State) → filter p (filter p ss) ≡ filter p ss
filter-again p [] = refl
filter-again p (s ∷ ss) = go (p s) refl (filter-again p ss)
  where
    go : (a : Bool) → p s ≡ a → filter p (filter p ss) ≡ filter p ss → filter p (filter p (s ∷ ss)) ≡ filter p (s ∷ ss)
    go true h rest = rw h (rw h (ap (λ us. s ∷ us) rest))
    go false h rest = rw h rest

distinct-again : (ss : List State) → distinct (distinct ss) ≡ distinct ss
unfolding distinct
distinct-again [] = refl
distinct-again (s ∷ ss) = ap (λ us. s ∷ us)
    (ap (without s) (sym (filter-distinct (λ t. not (same_state s t)) (distinct ss)) ∙ ap (without s) (distinct-again ss))
    ∙ filter-again (λ t. not (same_state s t)) (distinct ss))

distinct-right : (ss ts : List State) → distinct (ss ++ ts) ≡ distinct (ss ++ distinct ts)
unfolding distinct
distinct-right [] ts = sym (distinct-again ts)
distinct-right (s ∷ ss) ts = ap (λ us. s ∷ without s us) (distinct-right ss ts)

distinct-left : (ss ts : List State) → distinct (ss ++ ts) ≡ distinct (distinct ss ++ ts)
unfolding distinct
distinct-left [] ts = refl
distinct-left (s ∷ ss) ts =
    let p : State → Bool = λ t. not (same_state s t) in
    ap (λ us. s ∷ us) (
    ap (without s) (distinct-left ss ts) ∙ filter-distinct p (distinct ss ++ ts)
    ∙ ap distinct (filter-append p (distinct ss) ts ∙ ap (λ us. us ++ filter p ts) (sym (filter-again p (distinct ss))) ∙ sym (filter-append p (without s (distinct ss)) ts))
    ∙ sym (filter-distinct p (without s (distinct ss) ++ ts))
    )

-- lists that are alike, one behind another
pub joined-alike : (rs ss ts us : List State) → AreAlike rs ts → AreAlike ss us → AreAlike (rs ++ ss) (ts ++ us)
joined-alike rs ss ts us h k =
    distinct-left rs ss ∙ distinct-right (distinct rs) ss ∙ (λ i. distinct (h i ++ k i)) ∙ sym (distinct-right (distinct ts) us) ∙ sym (distinct-left ts us)

-- a state that stands before may be left out behind
pub repeat-left_out : (rs : List State) (s : State) (ts : List State) → list_any (same_state s) rs ≡ true → distinct (rs ++ s ∷ ts) ≡ distinct (rs ++ ts)
unfolding distinct
repeat-left_out [] s ts h = absurd (cc)
repeat-left_out (r ∷ rs) s ts h = go (same_state s r) refl (repeat-left_out rs s ts) h
  where
    p : State → Bool
    p t = not (same_state r t)

    go : (b : Bool) → same_state s r ≡ b → (list_any (same_state s) rs ≡ true → distinct (rs ++ s ∷ ts) ≡ distinct (rs ++ ts)) → (b || list_any (same_state s) rs) ≡ true → r ∷ without r (distinct (rs ++ s ∷ ts)) ≡ r ∷ without r (distinct (rs ++ ts))
    go true k rest e =
        let same : s ≡ r = same_state-is s r k in
        let gone : p s ≡ false = rw same (rw (same_state-self r) refl) in
        let dropped : filter p (s ∷ ts) ≡ filter p ts = rw gone refl in
        ap (λ us. r ∷ us) (
        filter-distinct p (rs ++ s ∷ ts)
        ∙ ap distinct (filter-append p rs (s ∷ ts) ∙ ap (λ us. filter p rs ++ us) dropped ∙ sym (filter-append p rs ts))
        ∙ sym (filter-distinct p (rs ++ ts))
        )
    go false k rest e = ap (λ us. r ∷ without r us) (rest e)

-- each of some states stands in a list
abbrev AllIn : List State → List State → Type 0
AllIn rs [] = Unit {0}
AllIn rs (s ∷ ss) = (list_any (same_state s) rs ≡ true) × AllIn rs ss

any-behind : (p : State → Bool) (r : State) (rs : List State) → list_any p rs ≡ true → list_any p (r ∷ rs) ≡ true
any-behind p r rs h = go (p r)
  where
    go : (b : Bool) → (b || list_any p rs) ≡ true
    go true = refl
    go false = h

AllIn-behind : (r : State) (rs ss : List State) → AllIn rs ss → AllIn (r ∷ rs) ss
AllIn-behind r rs [] h = tt
AllIn-behind r rs (s ∷ ss) h = (any-behind (same_state s) r rs h.0, AllIn-behind r rs ss h.1)

AllIn-self : (ss : List State) → AllIn ss ss
AllIn-self [] = tt
AllIn-self (s ∷ ss) = (rw (same_state-self s) refl, AllIn-behind s ss ss (AllIn-self ss))

any-before : (p : State → Bool) (rs ts : List State) → list_any p rs ≡ true → list_any p (rs ++ ts) ≡ true
any-before p [] ts h = absurd (cc)
any-before p (r ∷ rs) ts h = go (p r) (any-before p rs ts) h
  where
    go : (b : Bool) → (list_any p rs ≡ true → list_any p (rs ++ ts) ≡ true) → (b || list_any p rs) ≡ true → (b || list_any p (rs ++ ts)) ≡ true
    go true rest e = refl
    go false rest e = rest e

AllIn-before : (rs ts ss : List State) → AllIn rs ss → AllIn (rs ++ ts) ss
AllIn-before rs ts [] h = tt
AllIn-before rs ts (s ∷ ss) h = (any-before (same_state s) rs ts h.0, AllIn-before rs ts ss h.1)

-- states that stand before may be left out behind
repeats-left_out : (rs ss ts : List State) → AllIn rs ss → distinct (rs ++ (ss ++ ts)) ≡ distinct (rs ++ ts)
repeats-left_out rs [] ts h = refl
repeats-left_out rs (s ∷ ss) ts h = repeat-left_out rs s (ss ++ ts) h.0 ∙ repeats-left_out rs ss ts h.1

-- behind all outcomes of a state those of its repeats may be left out
outcomes-left_out : (f : Outcomes) (s : State) (rs ts : List State) → AllIn rs (f s) → distinct (rs ++ flat_map f ts) ≡ distinct (rs ++ flat_map f (without s ts))
outcomes-left_out f s rs [] h = refl
outcomes-left_out f s rs (t ∷ ts) h = go (same_state s t) refl (outcomes-left_out f s rs ts h) (outcomes-left_out f s (rs ++ f t) ts (AllIn-before rs (f t) (f s) h))
  where
    go : (b : Bool) → same_state s t ≡ b → distinct (rs ++ flat_map f ts) ≡ distinct (rs ++ flat_map f (without s ts))
        → distinct ((rs ++ f t) ++ flat_map f ts) ≡ distinct ((rs ++ f t) ++ flat_map f (without s ts))
        → distinct (rs ++ flat_map f (t ∷ ts)) ≡ distinct (rs ++ flat_map f (without s (t ∷ ts)))
    go true k rest longer =
        let same : s ≡ t = same_state-is s t k in
        rw k (repeats-left_out rs (f t) (flat_map f ts) (subst (λ u. AllIn rs (f u)) same h) ∙ rest)
    go false k rest longer = rw k (
        ap distinct (sym (append_assoc rs (f t) (flat_map f ts))) ∙ longer
        ∙ ap distinct (append_assoc rs (f t) (flat_map f (without s ts)))
        )

-- repeats lead to nothing new
distinct-first : (f : Outcomes) (ss : List State) → distinct (flat_map f ss) ≡ distinct (flat_map f (distinct ss))
unfolding distinct
distinct-first f [] = refl
distinct-first f (s ∷ ss) =
    joined-alike (f s) (flat_map f ss) (f s) (flat_map f (distinct ss)) refl (distinct-first f ss)
    ∙ outcomes-left_out f s (f s) (distinct ss) (AllIn-self (f s))

-- steps that go alike from each of some states lead to what is alike
pub each-alike : (P : State → Type 0) (f g : Outcomes) (ss : List State) → ((s : State) → P s → AreAlike (f s) (g s)) → All P ss → AreAlike (flat_map f ss) (flat_map g ss)
each-alike P f g [] h k = refl
each-alike P f g (s ∷ ss) h k = joined-alike (f s) (flat_map f ss) (g s) (flat_map g ss) (h s (All-head P s ss k)) (each-alike P f g ss h (All-tail P s ss k))

pub followed-alike : (P : State → Type 0) (f g : Outcomes) (ss ts : List State) → ((s : State) → P s → AreAlike (f s) (g s)) → All P ts → AreAlike ss ts → AreAlike (flat_map f ss) (flat_map g ts)
followed-alike P f g ss ts h inside k = distinct-first f ss ∙ ap (λ us. distinct (flat_map f us)) k ∙ sym (distinct-first f ts) ∙ each-alike P f g ts h inside

pub changed-alike : (h : State → State) (ss ts : List State) → AreAlike ss ts → AreAlike (map h ss) (map h ts)
changed-alike h ss ts k =
    ap distinct (sym (flat_map_single h ss)) ∙ distinct-first (λ s. h s ∷ []) ss ∙ ap (λ us. distinct (flat_map (λ s. h s ∷ []) us)) k
    ∙ sym (distinct-first (λ s. h s ∷ []) ts) ∙ ap distinct (flat_map_single h ts)

filter-alike : (p : State → Bool) (ss ts : List State) → AreAlike ss ts → AreAlike (filter p ss) (filter p ts)
filter-alike p ss ts k = sym (filter-distinct p ss) ∙ ap (filter p) k ∙ filter-distinct p ts

module _ (w : Context) where
  looked-alike : (negated : Bool) (s : State) (ss ts : List State) → AreAlike ss ts → looked negated s ss ≡ looked negated s ts
  unfolding distinct
  looked-alike negated s [] [] k = refl
  looked-alike negated s [] (t ∷ ts) k = absurd (cc)
  looked-alike negated s (r ∷ rs) [] k = absurd (cc)
  looked-alike negated s (r ∷ rs) (t ∷ ts) k = let same : r ≡ t = cc in by_sign negated same
    where
      by_sign : (b : Bool) → r ≡ t → looked b s (r ∷ rs) ≡ looked b s (t ∷ ts)
      by_sign true e = refl
      by_sign false e = rw e refl

  first-alike : (ss ts : List State) → AreAlike ss ts → take 1 ss ≡ take 1 ts
  unfolding distinct
  first-alike [] [] k = refl
  first-alike [] (t ∷ ts) k = absurd (cc)
  first-alike (r ∷ rs) [] k = absurd (cc)
  first-alike (r ∷ rs) (t ∷ ts) k = let same : r ≡ t = cc in ap (λ s. s ∷ []) same

  pub submatched-alike : (kind : Submatch) (s : State) (ss ts : List State) → AreAlike ss ts → submatched kind s ss ≡ submatched kind s ts
  submatched-alike (lookaround negated backward) s ss ts k = looked-alike negated s ss ts k
  submatched-alike atomic s ss ts k = first-alike ss ts k

  pub iterated-alike : (f g : Outcomes) (greedy : Bool) (most least : ℕ) → GoAlike w f g → StayInside w g
      → GoAlike w (iterations f greedy most least) (iterations g greedy most least)
  unfolding iterations
  iterated-alike f g greedy zero least h stays s inside = refl
  iterated-alike f g greedy (suc most) zero h stays s inside =
      let more = followed-alike (IsInside w.text) (iterations f greedy most zero) (iterations g greedy most zero) (filter (moved s) (f s)) (filter (moved s) (g s))
      (iterated-alike f g greedy most zero h stays) (All-filter (moved s) (IsInside w.text) (g s) (stays s inside)) (filter-alike (moved s) (f s) (g s) (h s inside)) in
      ordered greedy (flat_map (iterations f greedy most zero) (filter (moved s) (f s))) (flat_map (iterations g greedy most zero) (filter (moved s) (g s))) more
    where
      ordered : (b : Bool) (us vs : List State) → AreAlike us vs → AreAlike (if b then us ++ s ∷ [] else s ∷ us) (if b then vs ++ s ∷ [] else s ∷ vs)
      ordered true us vs k = joined-alike us (s ∷ []) vs (s ∷ []) k refl
      ordered false us vs k = joined-alike (s ∷ []) us (s ∷ []) vs refl k
  iterated-alike f g greedy (suc most) (suc least) h stays s inside =
      followed-alike (IsInside w.text) (iterations f greedy most least) (iterations g greedy most least) (f s) (g s) (iterated-alike f g greedy most least h stays) (stays s inside) (h s inside)

  pub make-alike : MakeAlike w
  make-alike = record {
    joined = joined-alike;
    followed = followed-alike (IsInside w.text);
    changed = changed-alike;
    submatched = submatched-alike;
    iterated = iterated-alike;
  }
