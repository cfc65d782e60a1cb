-- When the bound of a search stops it.
use Rattle.std.specs.Prelude.{◌≡◌, ℕ, List, Option, Some}
use Rattle.std.proofs.Common.{refl, sym, subst}
use Rattle.regress_engine_input.specs.Views.{Kind}
use Rattle.regress_engine_exec.specs.declared.error.SearchError.{SearchError}
use Rattle.regress_engine_exec.specs.declared.error.SearchError.TheVariants as search
use Rattle.regress_programs.specs.declared.compiled.Compiled.{Compiled}
use Rattle.regress_programs.specs.declared.slots.Anchored.{Anchored}
use Rattle.regress_programs.specs.Counting.{Stops}
use Rattle.regress_programs.specs.Tables.{byte_table_of, unit_table_of}
use Rattle.regress_bounded.specs.declared.bounded.Bounded.{Bounded}
use Rattle.regress_bounded.specs.Standing.{TakesAllInBytes, TakesAllInUnits, compiled_of, steps_of}
use Rattle.regress_bounded.specs.Stopping.{seen_by}
use Rattle.regress.specs.declared.api.Regex.{Regex}
use Rattle.regress_calls.specs.Codes.{of_search_error}
use Rattle.regress_calls.specs.Handles.{OfSearch}
use Rattle.regress_calls.specs.Refusals.{MayRefuseSearch}
use Rattle.regress_calls.specs.Stopping.{IsStopped}

-- A regex with a number of steps stops a search where the same programs do with as many.
module _ (r : Regex) (b : Bounded) (steps : ℕ) (same : compiled_of b ≡ r.compiled) (many : steps_of b ≡ steps) (anchored : Anchored) (kind : Kind) (units : List ℕ) (at : ℕ) where
  pub all-in-bytes : TakesAllInBytes b anchored kind units at
      → Stops (byte_table_of r.compiled) anchored r.compiled.byte_program (seen_by r.compiled.byte_program kind units) at (Some steps)
  all-in-bytes takes =
      subst (λ (x : Compiled). Stops (byte_table_of x) anchored x.byte_program (seen_by x.byte_program kind units) at (Some steps)) same
      (subst (λ (n : ℕ). Stops (byte_table_of (compiled_of b)) anchored (compiled_of b).byte_program (seen_by (compiled_of b).byte_program kind units) at (Some n)) many takes)

  pub all-in-units : TakesAllInUnits b anchored kind units at
      → Stops (unit_table_of r.compiled) anchored r.compiled.unit_program (seen_by r.compiled.unit_program kind units) at (Some steps)
  all-in-units takes =
      subst (λ (x : Compiled). Stops (unit_table_of x) anchored x.unit_program (seen_by x.unit_program kind units) at (Some steps)) same
      (subst (λ (n : ℕ). Stops (unit_table_of (compiled_of b)) anchored (compiled_of b).unit_program (seen_by (compiled_of b).unit_program kind units) at (Some n)) many takes)

-- what stops a search stops it where the same is held, and the search begins at the same offset
pub still-stopped : (r s : Regex) (bound other : Option ℕ) (anchored : Anchored) (kind : Kind) (units : List ℕ) (at next : ℕ) → r ≡ s → bound ≡ other → next ≡ at
    → IsStopped (OfSearch r bound) anchored kind units at → IsStopped (OfSearch s other) anchored kind units next
still-stopped r s bound other anchored kind units at next same alike here stopped =
    subst (λ (n : ℕ). IsStopped (OfSearch s other) anchored kind units n) (sym here)
    (subst (λ (x : Option ℕ). IsStopped (OfSearch s x) anchored kind units at) alike
    (subst (λ (x : Regex). IsStopped (OfSearch x bound) anchored kind units at) same stopped))

-- why a search that is held is refused
pub may-refuse : (r : Regex) (bound : Option ℕ) (anchored : Anchored) (kind : Kind) (units : List ℕ) (start : ℕ) (e : SearchError)
    → (e ≡ search.TooManySteps → IsStopped (OfSearch r bound) anchored kind units start) → MayRefuseSearch (OfSearch r bound) anchored kind units start (of_search_error e)
may-refuse r bound anchored kind units start search.OutOfMemory stopped = tt
may-refuse r bound anchored kind units start search.TooManySteps stopped = stopped refl
