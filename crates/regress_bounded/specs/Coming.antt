-- The matches that an iterator with a budget has still to yield, and the steps that it may still count.
use Rattle.std.specs.Prelude.{◌≡◌, ℕ, Bool, true, List, Option, Some, None, Result, Ok, Err}
use Rattle.regress_meaning.specs.Matches.{Item}
use Rattle.regress_match.specs.declared.found.Match.{Match}
use Rattle.regress_match.specs.Iterating.{coming_on, steps_on}
use Rattle.regress_matched.specs.Giving.{GivesFound}
use Rattle.regress_engine_search.specs.Search.{Search, IsMatchOf, items_from, places_behind}
use Rattle.regress_engine_code.specs.Standing.{names_of}
use Rattle.regress_engine_exec.specs.declared.error.SearchError.{SearchError}
use Rattle.regress_engine_exec.specs.declared.error.SearchError.TheVariants.{TooManySteps}
use Rattle.regress_engine_exec.specs.Counting.{CountsStep}
use Rattle.regress_engine_exec.specs.Searches as executor
use Rattle.regress_bounded.specs.declared.matches.BoundedMatches.{BoundedMatches}

-- the search: with which program, in what text
abbrev pub search_by : {I : Type 0} {g : _} → BoundedMatches I g → Search
search_by ms = executor.search_in ms.executor

-- the offset from which the next search goes, and none where the iterator has ended
abbrev pub next_from : {I : Type 0} {g : _} → BoundedMatches I g → Option ℕ
next_from ms = ms.position

-- how many steps of runs it may still count
abbrev pub budget_of : {I : Type 0} {g : _} → BoundedMatches I g → ℕ
budget_of ms = executor.steps_of ms.executor

-- whether it turns to a table where it may count no more
abbrev pub turns_of : {I : Type 0} {g : _} → BoundedMatches I g → Bool
turns_of ms = executor.turns_in ms.executor

-- the bytes or units of the text that is searched
abbrev pub searched : {I : Type 0} {g : _} → BoundedMatches I g → List ℕ
searched ms = (search_by ms).view.units

-- the names of the groups of the pattern that is searched for, as bytes of UTF-8
abbrev pub searched_names : {I : Type 0} {g : _} → BoundedMatches I g → List (List ℕ)
searched_names ms = names_of (search_by ms).compiled

-- the items that are still to come, told in offsets of the text
abbrev pub coming : {I : Type 0} {g : _} → BoundedMatches I g → List Item
coming ms = coming_on (items_from (search_by ms)) (next_from ms)

-- how many calls may give a match up to the end
abbrev pub calls_left : {I : Type 0} {g : _} → BoundedMatches I g → ℕ
calls_left ms = steps_on (places_behind (search_by ms)) (next_from ms)

-- the search is over
abbrev pub HasEnded : {I : Type 0} {g : _} → BoundedMatches I g → Type 0
HasEnded ms = next_from ms ≡ None

-- the fact holds where a call gave no match
abbrev pub UnlessFound : Option (Result Match SearchError) → Type 0 → Type 0
UnlessFound None Q = Q
UnlessFound (Some (Ok m)) Q = Unit {0}
UnlessFound (Some (Err e)) Q = Q

-- A call of an iterator with a budget. It gives the first of the items that were coming, or an error, or nothing where none was
-- coming. With an error and with nothing it has ended, and one that has ended gives nothing. No more steps were counted than its
-- search takes, and with `TooManySteps` none are left; one that turns to a table never errs so.
pub record GivesWithin {S : Type 0} (search_by : S → Search) (next_from : S → Option ℕ) (budget_of : S → ℕ) (turns_of : S → Bool)
    (old : S) (r : Option (Result Match SearchError)) (new : S) : Type 0 where
  pub kept : search_by new ≡ search_by old
  pub first : GivesFound (IsMatchOf (search_by old)) (coming_on (items_from (search_by old)) (next_from old)) r (coming_on (items_from (search_by new)) (next_from new))
  pub ends : UnlessFound r (next_from new ≡ None)
  pub ended : next_from old ≡ None → r ≡ None
  pub counted : CountsStep (λ e. e ≡ TooManySteps) (search_by old) (next_from old) r (Some (budget_of old)) (Some (budget_of new))
  pub turns : turns_of new ≡ turns_of old
  pub never : turns_of old ≡ true → r ≡ Some (Err TooManySteps) → ⊥

-- the same of the iterator over the matches of a program
abbrev pub GivesNext : {I : Type 0} {g : _} → BoundedMatches I g → Option (Result Match SearchError) → BoundedMatches I g → Type 0
GivesNext old r new = GivesWithin search_by next_from budget_of turns_of old r new
