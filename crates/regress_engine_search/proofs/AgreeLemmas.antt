-- Executors of the same search agree.
use mathlib.Core.HLevel.{is_prop→PathP}
use Rattle.std.specs.Prelude.{Ok}
use Rattle.std.proofs.Common.{◌≡◌, ℕ, List, ◌∷◌, Option, Some, None, option_map, refl, sym, ap, ◌∙◌, subst}
use Rattle.regress_meaning.specs.Inputs.{Input}
use Rattle.regress_meaning.specs.Matches.{Item}
use Rattle.regress_match.specs.declared.found.Match.{Match}
use Rattle.regress_match.specs.Iterating.{coming_on}
use Rattle.regress_match.specs.Views.{item_of}
use Rattle.regress_engine_insn.specs.Instructions.{Program}
use Rattle.regress_engine_code.specs.Standing.{program_of}
use Rattle.regress_engine_runs.specs.Items.{item_of as item_of_answer}
use Rattle.regress_engine_runs.proofs.ItemLemmas.{one_answer}
use Rattle.regress_engine_search.specs.Answering.{IsOutcome}
use Rattle.regress_engine_search.specs.Search.{Search, IsSearchable, Steps, items_from}
use Rattle.regress_engine_search.specs.SearchProps.{IsSearchable-prop}

-- the outcomes of runs from one offset
pub outcomes-agree : (program : Program) (input : Input) (at : ℕ) (i j : Option Item) → IsOutcome program input at i → IsOutcome program input at j → i ≡ j
outcomes-agree program input at None None h k = refl
outcomes-agree program input at None (Some y) h (v, answers, same) = let e = one_answer program input at None (Some v) h answers in absurd (cc)
outcomes-agree program input at (Some x) None (w, answers, same) k = let e = one_answer program input at (Some w) None answers k in absurd (cc)
outcomes-agree program input at (Some x) (Some y) (w, first, told) (v, second, same) =
    let e = one_answer program input at (Some w) (Some v) first second in
    let one : w ≡ v = cc in
    ap Some (sym told ∙ ap (item_of_answer at) one ∙ same)

-- a search is a program and a text
same_search : (s t : Search) → s.compiled ≡ t.compiled → s.view ≡ t.view → s ≡ t
same_search s t program view i = record {
  compiled = program i;
  view = view i;
  searchable = is_prop→PathP (λ j. IsSearchable (program_of (program j)) (view j)) (λ j. IsSearchable-prop (program_of (program j)) (view j)) s.searchable t.searchable i;
}

-- two steps of a search
steps-agree : (E : Type 0) (s : Search) (before : Option ℕ) (a b : Option Match) (p q : Option ℕ) → Steps {E = E} s before (option_map Ok a) p → Steps {E = E} s before (option_map Ok b) q
    → (option_map item_of a ≡ option_map item_of b) × (coming_on (items_from s) p ≡ coming_on (items_from s) q)
steps-agree E s before None None p q (none, at) (_, to) = (refl, ap (coming_on (items_from s)) (at ∙ sym to))
steps-agree E s before None (Some n) p q (none, at) (some, _) = absurd (cc)
steps-agree E s before (Some m) None p q (some, _) (none, to) = absurd (cc)
steps-agree E s before (Some m) (Some n) p q (first, _) (second, _) =
    let both : ◌≡◌ {A = List Item} (item_of m ∷ coming_on (items_from s) p) (item_of n ∷ coming_on (items_from s) q) = sym first ∙ second in
    let same : item_of m ≡ item_of n = cc in
    let rest : coming_on (items_from s) p ≡ coming_on (items_from s) q = cc in
    (ap Some same, rest)

pub executors-step : (E : Type 0) (s t : Search) → s.compiled ≡ t.compiled → s.view ≡ t.view → (before : Option ℕ) (a b : Option Match) (p q : Option ℕ)
    → Steps {E = E} s before (option_map Ok a) p → Steps {E = E} t before (option_map Ok b) q → (option_map item_of a ≡ option_map item_of b) × (coming_on (items_from s) p ≡ coming_on (items_from t) q)
executors-step E s t program view before a b p q first second =
    let same = same_search s t program view in
    subst (λ u. (option_map item_of a ≡ option_map item_of b) × (coming_on (items_from s) p ≡ coming_on (items_from u) q)) same
    (steps-agree E s before a b p q first (subst (λ u. Steps {E = E} u before (option_map Ok b) q) (sym same) second))
