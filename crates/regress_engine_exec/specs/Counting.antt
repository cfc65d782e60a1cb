-- How many steps the runs of a search take, and how many of them are counted.
use Rattle.std.specs.Prelude.{◌≡◌, ℕ, ◌+◌, ◌≤◌, Option, Some, None, Result, Ok, Err}
use Rattle.regress_meaning.specs.Meaning.{Forward}
use Rattle.regress_engine_input.specs.Views.{View, input_of}
use Rattle.regress_engine_insn.specs.Instructions.{Program}
use Rattle.regress_engine_runs.specs.States.{Whole}
use Rattle.regress_engine_code.specs.Standing.{program_of}
use Rattle.regress_engine_search.specs.Budgets.{Spends}
use Rattle.regress_engine_search.specs.Search.{Search}
use Rattle.regress_engine_search.specs.declared.context.SearchContext.{SearchContext}
use Rattle.regress_engine_attempt.specs.Counting.{RunsIn, most_counted}
pub use Rattle.regress_engine_attempt.specs.Counting.{CountsRun}

module _ (program : Program) (v : View) where
  -- The runs of a search from an offset on take so many steps in all.
  pub data Takes : (at n : ℕ) → Type 0 where
    -- those of the run that begins there, where it has an answer
    answered : {at n : ℕ} {w : Whole} → RunsIn program v at n (Some w) → Takes at n
    -- else they and those of a search behind the next code point
    further : {at n c next m : ℕ} → RunsIn program v at n None → (input_of v).next Forward at ≡ Some (c, next) → Takes next m → Takes at (n + m)
    -- and they alone where no code point follows
    over : {at n : ℕ} → RunsIn program v at n None → (input_of v).next Forward at ≡ None → Takes at n

  -- From so many steps that may be counted to so many, if there is a bound, no more were counted than the runs of a search take.
  abbrev pub CountsSearch : (at : ℕ) → Option ℕ → Option ℕ → Type 0
  CountsSearch at before after = (n : ℕ) × Takes at n × Spends before after (most_counted v n)

  -- A search from one offset has come to another, and no more steps were counted on the way than its runs there take.
  abbrev pub CountsUpTo : (at from : ℕ) → Option ℕ → Option ℕ → Type 0
  CountsUpTo at from before now = (k m n : ℕ) × (k + m ≤ n) × Spends before now (most_counted v k) × Takes from m × Takes at n

-- the same in the text of a search context, by what is shown of its input
abbrev pub CountsSearchIn : {I : Type 0} {g : _} → (I → View) → SearchContext I g → (at : ℕ) → (before after : Option ℕ) → Type 0
CountsSearchIn view c at before after = CountsSearch (program_of c.program.now) (view c.input) at before after

-- and of the run from one offset
abbrev pub CountsRunIn : {I : Type 0} {g : _} → (I → View) → SearchContext I g → (at : ℕ) → (before after : Option ℕ) → Type 0
CountsRunIn view c at before after = CountsRun (program_of c.program.now) (view c.input) at before after

-- From so many steps that may be counted to so many, no more were counted than a search from an offset takes; and none are left where
-- it errs since there would be too many. Nothing is said where it errs otherwise.
abbrev pub CountsFrom : {T E : Type 0} → (IsOver : E → Type 0) → Search → (at : ℕ) → Result T E → (before after : Option ℕ) → Type 0
CountsFrom IsOver s at (Ok found) before after = CountsSearch (program_of s.compiled) s.view at before after
CountsFrom IsOver s at (Err e) before after = IsOver e → (after ≡ Some 0) × CountsSearch (program_of s.compiled) s.view at before after

-- the same by a step of an iterator from a position; from none nothing is counted
abbrev pub CountsStep : {T E : Type 0} → (IsOver : E → Type 0) → Search → Option ℕ → Option (Result T E) → (before after : Option ℕ) → Type 0
CountsStep IsOver s None given before after = after ≡ before
CountsStep IsOver s (Some at) None before after = CountsSearch (program_of s.compiled) s.view at before after
CountsStep IsOver s (Some at) (Some r) before after = CountsFrom IsOver s at r before after
