-- How many steps the searches of an iteration take together, and how many of them are counted.
use Rattle.std.specs.Prelude.{◌≡◌, ℕ, ◌+◌, Bool, List, [], ◌∷◌, Option, Some, None, Err, map}
use Rattle.regress_meaning.specs.Matches.{Item}
use Rattle.regress_match.specs.declared.found.Match.{Match}
use Rattle.regress_match.specs.Iterating.{coming_on}
use Rattle.regress_match.specs.Views.{item_of}
use Rattle.regress_matched.specs.Giving.{GivesMatches}
use Rattle.regress_engine_search.specs.Search.{Search, StartsAt, items_from}
use Rattle.regress_engine_code.specs.Standing.{program_of}
use Rattle.regress_engine_input.specs.Views.{View}
use Rattle.regress_engine_search.specs.Budgets.{Spends}
use Rattle.regress_engine_trying.specs.Counting.{most_counted}
use Rattle.regress_engine_code.specs.declared.compiled.CompiledRegex.{CompiledRegex}
use Rattle.regress_engine_exec.specs.declared.error.SearchError.TheVariants.{TooManySteps}
use Rattle.regress_engine_exec.specs.Counting.{Takes}
use Rattle.regress_bounded.specs.Coming.{GivesWithin}

module _ (s : Search) where
  -- Searches one behind the other, from a position on, find these items and come to another position, and take so many steps in all.
  pub data TakeTogether : (from : Option ℕ) → List Item → (to : Option ℕ) → (n : ℕ) → Type 0 where
    -- none finds nothing, and takes no step
    no_search : {at : Option ℕ} → TakeTogether at [] at 0
    -- the first finds the first of the items from its offset on, and goes on where the others come from
    first_search : {at m n : ℕ} {i : Item} {found : List Item} {next to : Option ℕ} → Takes (program_of s.compiled) s.view at m
        → items_from s at ≡ i ∷ coming_on (items_from s) next → TakeTogether next found to n → TakeTogether (Some at) (i ∷ found) to (m + n)

  -- From so many steps that may be counted to so many, no more were counted than these searches take together.
  abbrev pub CountsTogether : (from : Option ℕ) → List Item → (to : Option ℕ) → (before after : ℕ) → Type 0
  CountsTogether from found to before after = (n : ℕ) × TakeTogether from found to n × Spends (Some before) (Some after) (most_counted s.view n)

  -- No more were counted than they and the search behind them take together.
  abbrev pub CountsWithLast : (from : Option ℕ) → List Item → (before after : ℕ) → Type 0
  CountsWithLast from found before after = (at n m : ℕ) × TakeTogether from found (Some at) n × Takes (program_of s.compiled) s.view at m
      × Spends (Some before) (Some after) (most_counted s.view (n + m))

  -- They and the search behind them take as many steps together as there may be, or more: all of these were counted.
  abbrev pub TakeAllTogether : (from : Option ℕ) → List Item → (steps : ℕ) → Type 0
  TakeAllTogether from found steps = CountsWithLast from found steps 0

-- What is counted over an iteration. However many matches calls have given, no more steps were counted than their searches take
-- together, and where a call then gives nothing, none than these and its own; and one errs with `TooManySteps` only where these and
-- its own take all steps that there were.
pub record CountsAlong {S : Type 0} (search_by : S → Search) (next_from : S → Option ℕ) (budget_of : S → ℕ) (turns_of : S → Bool) (from : S) : Type 0 where
  pub given : (found : List Match) (now : S) → GivesMatches (GivesWithin search_by next_from budget_of turns_of) from found now
      → CountsTogether (search_by from) (next_from from) (map item_of found) (next_from now) (budget_of from) (budget_of now)
  pub ended : (found : List Match) (at : ℕ) (now over : S) → GivesMatches (GivesWithin search_by next_from budget_of turns_of) from found now → next_from now ≡ Some at
      → GivesWithin search_by next_from budget_of turns_of now None over → CountsWithLast (search_by from) (next_from from) (map item_of found) (budget_of from) (budget_of over)
  pub stopped : (found : List Match) (now over : S) → GivesMatches (GivesWithin search_by next_from budget_of turns_of) from found now
      → GivesWithin search_by next_from budget_of turns_of now (Some (Err TooManySteps)) over → TakeAllTogether (search_by from) (next_from from) (map item_of found) (budget_of from)

-- The searches of an iteration with a program from an offset on, up to one of them, take together as many steps as there may be,
-- or more.
pub record TakesAllAlong (compiled : CompiledRegex) (v : View) (start steps : ℕ) : Type 0 where
  pub search : Search
  pub with : search.compiled ≡ compiled
  pub over : search.view ≡ v
  pub from : Option ℕ
  pub starts : StartsAt search start from
  pub found : List Item
  pub takes : TakeAllTogether search from found steps
