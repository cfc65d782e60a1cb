-- A pattern over a whole text matches by the first outcome that ends at the text's end.
use Rattle.std.proofs.Common.{◌≡◌, ◌≢◌, ℕ, zero, suc, ◌<◌, ◌≤◌, Bool, true, false, ◌&&◌, ◌||◌, ◌==◌, List, [], ◌∷◌, ◌++◌, length, append-nil, map-id, Option, Some, None, IfSome, filter, replicate, if◌then◌else◌, refl, sym, ap, ◌∙◌, subst₂, codes, arith}
use Rattle.std.specs.List.{flat_map, list_any}
use Rattle.std.specs.Option.{option_map_or}
use Rattle.std.proofs.lemmas.Bool.{eqb-true, eq-eqb, ne_eqb}
use Rattle.std.proofs.lemmas.List.Concat.{flat_map_single}
use Rattle.std.proofs.lemmas.List.Folds.{Any-from_list_any, list_any-from_Any}
use Rattle.regress_meaning.specs.Table.{Table}
use Rattle.regress_meaning.specs.Pattern.{Pattern, Settings, names_of, line_start, line_end}
use Rattle.regress_meaning.specs.Flags.{Options, is_unicode, first_settings}
use Rattle.regress_meaning.specs.Meaning.{State, Forward, Outcomes, Context, keep_if, outcomes}
use Rattle.regress_meaning.specs.Matches.{Item, item_at, next_place, attempt, first_match, match_list}
use Rattle.regress_meaning.specs.WholeText.{of_text, whole_text, in_whole_text, outcomes_from_start, whole_item, MatchesWhole}
use Rattle.regress_meaning.specs.Text.{span}
use Rattle.regress_meaning.specs.Tokens.{bounds_at}
use Rattle.regress_meaning.specs.Grammar as grammar
use Rattle.regress_meaning.specs.Grammar.{Disjunction, one, next, done, once, uncaptured, modifiers_off, holds_a_name, mode_of, Spells}
use Rattle.regress_meaning.proofs.GroupLemmas.{disjunction_more, holds_a_name_more, shares-no_name}
use Rattle.regress_meaning.proofs.MatchLaws.{next_place-past, first_found-here, first_found-more, first_found-keeps}
use Rattle.regress_meaning.proofs.MatchLemmas.{matches_end, matches_go, first_match-later}

-- what is switched off adds nothing
off-adds_nothing : (a b c : Bool) → (a || (((b || false) && false) && c)) ≡ a
off-adds_nothing true b c = refl
off-adds_nothing false true c = refl
off-adds_nothing false false c = refl

-- the states that pass a test
kept-filter : (test : State → Bool) (ss : List State) → flat_map (λ s. keep_if (test s) s) ss ≡ filter test ss
kept-filter test [] = refl
kept-filter test (s ∷ ss) = go (test s) (kept-filter test ss)
  where
    go : (b : Bool) → flat_map (λ s. keep_if (test s) s) ss ≡ filter test ss
        → keep_if b s ++ flat_map (λ s. keep_if (test s) s) ss ≡ (if b then s ∷ filter test ss else filter test ss)
    go true e = ap (λ (rest : List State). s ∷ rest) e
    go false e = e

-- nothing behind a part changes its outcomes
single-outcomes : (ss : List State) → flat_map (λ s. s ∷ []) ss ≡ ss
single-outcomes ss = flat_map_single (λ s. s) ss ∙ map-id ss

module _ (context : Context) (e : Settings) where
  at-start : (s : State) → outcomes context (of_text line_start) Forward e s ≡ keep_if (s.place == 0) s
  unfolding outcomes
  at-start s = single-outcomes _ ∙ ap (λ b. keep_if b s) (off-adds_nothing (s.place == 0) e.multiline _)

  at-end : (s : State) → outcomes context (of_text line_end) Forward e s ≡ keep_if (s.place == length context.text) s
  unfolding outcomes
  at-end s = single-outcomes _ ∙ ap (λ b. keep_if b s) (off-adds_nothing (s.place == length context.text) e.multiline _)

  -- behind the start the outcomes of the pattern that end at the end
  abbrev Ending : Pattern → Outcomes
  Ending p s = filter (λ t. t.place == length context.text) (outcomes context p Forward e s)

  whole-outcomes : (p : Pattern) (s : State) → outcomes context (whole_text p) Forward e s ≡ flat_map (Ending p) (keep_if (s.place == 0) s)
  unfolding outcomes
  whole-outcomes p s =
      ap (λ (f : Outcomes). flat_map f (outcomes context (of_text line_start) Forward e s)) (λ i. λ t. ended t i)
      ∙ ap (flat_map (Ending p)) (at-start s)
    where
      to_end : Outcomes
      to_end u = flat_map (λ v. v ∷ []) (outcomes context (of_text line_end) Forward e u)

      ended : (t : State) → flat_map to_end (outcomes context p Forward e t) ≡ Ending p t
      ended t =
          ap (λ (f : Outcomes). flat_map f (outcomes context p Forward e t)) (λ i. λ u. (single-outcomes (outcomes context (of_text line_end) Forward e u) ∙ at-end u) i)
          ∙ kept-filter (λ u. u.place == length context.text) (outcomes context p Forward e t)

-- whether some state passes a test, and those that do
some-passes : (test : State → Bool) (ss : List State) → filter test ss ≢ [] → list_any test ss ≡ true
some-passes test [] some = absurd (some refl)
some-passes test (s ∷ ss) some = go (test s) some (some-passes test ss)
  where
    go : (b : Bool) → (if b then s ∷ filter test ss else filter test ss) ≢ [] → (filter test ss ≢ [] → list_any test ss ≡ true)
        → (b || list_any test ss) ≡ true
    go true some rest = refl
    go false some rest = rest some

none-passes : (test : State → Bool) (ss : List State) → filter test ss ≡ [] → list_any test ss ≡ true → ⊥
none-passes test [] none passes = absurd (cc)
none-passes test (s ∷ ss) none passes = go (test s) none passes (none-passes test ss)
  where
    go : (b : Bool) → (if b then s ∷ filter test ss else filter test ss) ≡ [] → (b || list_any test ss) ≡ true
        → (filter test ss ≡ [] → list_any test ss ≡ true → ⊥) → ⊥
    go true none passes rest = absurd (cc)
    go false none passes rest = rest none passes

-- the items of a list of states from the start
no-item : (ss : List State) → option_map_or (λ i. i ∷ []) (item_at 0 ss) [] ≡ [] → ss ≡ []
no-item [] none = refl
no-item (s ∷ ss) none = absurd (cc)

item-starts : (ss : List State) → IfSome (item_at 0 ss) (λ i. i.start ≡ 0)
item-starts [] = tt
item-starts (s ∷ ss) = refl

module _ (table : Table) (o : Options) (p : Pattern) (text : List ℕ) where
  context : Context
  context = record { text = text; table = table; unicode = is_unicode o }

  from : ℕ → State
  from q = record { place = q; groups = replicate (length (names_of p)) None }

  attempt-outcomes : (q : ℕ) → attempt table o (whole_text p) text q ≡ item_at q (flat_map (Ending context (first_settings o) p) (keep_if (q == 0) (from q)))
  unfolding attempt context from
  attempt-outcomes q =
      ap (λ n. item_at q (outcomes context (whole_text p) Forward (first_settings o) (record { place = q; groups = replicate n None }))) (ap length (append-nil (names_of p)))
      ∙ ap (item_at q) (whole-outcomes context (first_settings o) p (from q))

  attempt-whole : attempt table o (whole_text p) text 0 ≡ whole_item table o p text
  unfolding context from
  attempt-whole = attempt-outcomes 0 ∙ ap (item_at 0) (append-nil (filter (λ s. s.place == length text) (outcomes_from_start table o p text)))

  attempt-starts : (q : ℕ) → q ≤ length text → IfSome (attempt table o (whole_text p) text q) (λ i. i.start ≡ 0)
  attempt-starts zero within = rw attempt-whole (item-starts _)
  attempt-starts (suc q) within =
      let past : (suc q == 0) ≡ false = ne_eqb (suc q) 0 (λ e. omega (arith, e)) in rw (attempt-outcomes (suc q), past) tt

  no-later_match : (q : ℕ) → 0 < q → first_match table o (whole_text p) text q ≡ None
  unfolding first_match
  no-later_match q past =
      go (first_match table o (whole_text p) text q) refl (first_found-keeps (attempt table o (whole_text p) text) (length text) (λ i. i.start ≡ 0) attempt-starts q)
    where
      go : (found : Option Item) → first_match table o (whole_text p) text q ≡ found → IfSome found (λ i. i.start ≡ 0) → first_match table o (whole_text p) text q ≡ None
      go None e starts = e
      go (Some i) e starts = let later = first_match-later table o (whole_text p) text q i e in absurd (omega (arith, later, starts, past))

  pub no-later_matches : (q : ℕ) → 0 < q → match_list table o (whole_text p) text q ≡ []
  no-later_matches q past = matches_end table o (whole_text p) text q (no-later_match q past)

  pub whole-matches : match_list table o (whole_text p) text 0 ≡ option_map_or (λ i. i ∷ []) (whole_item table o p text) []
  unfolding first_match
  whole-matches = go (whole_item table o p text) attempt-whole (item-starts _)
    where
      go : (item : Option Item) → attempt table o (whole_text p) text 0 ≡ item → IfSome item (λ i. i.start ≡ 0)
          → match_list table o (whole_text p) text 0 ≡ option_map_or (λ i. i ∷ []) item []
      go None e starts =
          matches_end table o (whole_text p) text 0 (first_found-more (attempt table o (whole_text p) text) (length text) 0 (omega arith) e ∙ no-later_match 1 (omega arith))
      go (Some i) e starts =
          matches_go table o (whole_text p) text 0 i (first_found-here (attempt table o (whole_text p) text) (length text) 0 i (omega arith) e)
          ∙ ap (λ (items : List Item). i ∷ items) (no-later_matches (next_place i) (let past = (next_place-past i (omega (arith, starts))).0 in omega (arith, past)))

  -- the outcomes from the start, by whether they end at the end
  ends : State → Bool
  ends s = s.place == length text

  pub match-found : match_list table o (whole_text p) text 0 ≢ [] → MatchesWhole table o p text
  unfolding ends
  match-found some =
      let (k, s, within, at, e) = Any-from_list_any ends (outcomes_from_start table o p text)
      (some-passes ends (outcomes_from_start table o p text) (λ none. some (whole-matches ∙ ap (λ ss. option_map_or (λ i. i ∷ []) (item_at 0 ss) []) none))) in
      (k, s, within, at, eqb-true s.place (length text) e)

  pub found-match : MatchesWhole table o p text → match_list table o (whole_text p) text 0 ≢ []
  unfolding ends
  found-match (k, s, within, at, e) none =
      none-passes ends (outcomes_from_start table o p text) (no-item (filter ends (outcomes_from_start table o p text)) (sym whole-matches ∙ none))
      (list_any-from_Any ends (outcomes_from_start table o p text) (k, s, within, at, eq-eqb s.place (length text) e))

-- what stands behind the group opens no name
end : List ℕ
end = codes "(?-m:$)"

end-names_none : (in_class : Bool) → holds_a_name in_class false end ≡ false
unfolding holds_a_name end
end-names_none true = refl
end-names_none false = refl

names-whole : (source : List ℕ) → holds_a_name false false (in_whole_text source) ≡ holds_a_name false false source
unfolding holds_a_name end
names-whole source = holds_a_name_more end end-names_none false false source

mode-whole : (table : Table) (o : Options) (source : List ℕ) (p : Pattern) →
    mode_of table o (in_whole_text source) (names_of (whole_text p)) ≡ mode_of table o source (names_of p)
mode-whole table o source p = let named = append-nil (names_of p) in rw (names-whole source, named)

pub whole-spelled : (table : Table) (o : Options) (source : List ℕ) (p : Pattern) → Spells table o source p → Spells table o (in_whole_text source) (whole_text p)
unfolding bounds_at span end
whole-spelled table o source p s = record {
  whole = subst₂ (λ m n. Disjunction m (in_whole_text source) 0 (whole_text p) n [])
      (sym (mode-whole table o source p)) (sym (ap length (append-nil (names_of p))))
      (one (next (once (modifiers_off refl refl refl refl (one (next grammar.start (done refl)) refl)) refl)
      (next (once (uncaptured (disjunction_more end (mode_of table o source (names_of p)) s.whole)) refl)
      (next (once (modifiers_off refl refl refl refl (one (next grammar.end (done refl)) refl)) refl) (done refl)))) refl);
  apart = rw (s.apart, shares-no_name (names_of p));
}
