-- What is told of an input is told of the text that it shows.
use Rattle.std.specs.Prelude.{IfErr, IsErrOf}
use Rattle.std.proofs.Common.{◌≡◌, ℕ, Bool, List, Option, Some, Result, option_map, IfOk, IfSome, refl, subst, ◌∙◌}
use Rattle.regress_meaning.specs.Flags.{is_unicode}
use Rattle.regress_meaning.specs.Table.{Table}
use Rattle.regress_front_core.specs.FlagWords.{options}
use Rattle.regress_front.specs.TableViews.{table}
use Rattle.regress_meaning.specs.Offsets.{Begins}
use Rattle.regress_front.specs.Trees.{Tree}
use Rattle.regress_match.specs.declared.found.Match.{Match}
use Rattle.regress_match.specs.Views.{item_of}
use Rattle.regress_engine_input.specs.Views.{Kind, View, reading_of}
use Rattle.regress_engine_code.specs.declared.compiled.CompiledRegex.{CompiledRegex}
use Rattle.regress_engine_linear.specs.declared.testing.LinearTable.{LinearTable}
use Rattle.regress_engine_exec.specs.declared.error.SearchError.{SearchError}
use Rattle.regress_engine_exec.specs.declared.error.SearchError.TheVariants.{TooManySteps}
use Rattle.regress_engine_search.specs.Search.{IsItemAtPlaces}
use Rattle.regress_programs.specs.declared.slots.Anchored.{Anchored}
use Rattle.regress_programs.specs.Counting.{Stops}
use Rattle.regress_programs.specs.Filling.{first_told}
use Rattle.regress_bounded.specs.Stopping.{seen_by}

module _ (v w : View) (same : v ≡ w) (r : Result (Option Match) SearchError) where
  -- the match is that of the tree in the text
  pub first-shown : (anchored : Anchored) (compiled : CompiledRegex) (n : ℕ) (t : Tree) (start : ℕ)
      → ((place : ℕ) → Begins (reading_of v) start place → IfOk r (λ found. option_map item_of found ≡ first_told anchored compiled (reading_of v) n t place))
      → (place : ℕ) → Begins (reading_of w) start place → IfOk r (λ found. option_map item_of found ≡ first_told anchored compiled (reading_of w) n t place)
  first-shown anchored compiled n t start =
      subst (λ (x : View). (place : ℕ) → Begins (reading_of x) start place
      → IfOk r (λ found. option_map item_of found ≡ first_told anchored compiled (reading_of x) n t place)) same

  -- and it lies at places of the text
  pub places-shown : IfOk r (λ found. IfSome found (λ m. IsItemAtPlaces (reading_of v) (item_of m))) → IfOk r (λ found. IfSome found (λ m. IsItemAtPlaces (reading_of w) (item_of m)))
  places-shown = subst (λ (x : View). IfOk r (λ found. IfSome found (λ m. IsItemAtPlaces (reading_of x) (item_of m)))) same

-- where a search errs with too few steps, it stops by the same table over what is shown too
pub takes-shown : {T : Type 0} (r : Result T SearchError) (given table : Option LinearTable) → given ≡ table → (anchored : Anchored) (compiled : CompiledRegex) (at steps : ℕ) (v w : View)
    → v ≡ w → IfErr r (λ e. e ≡ TooManySteps → Stops given anchored compiled v at (Some steps)) → IsErrOf r TooManySteps → Stops table anchored compiled w at (Some steps)
takes-shown r given table alike anchored compiled at steps v w same stopped err =
    subst (λ (x : Option LinearTable × View). Stops x.0 anchored compiled x.1 at (Some steps)) (λ i. (alike i, same i))
    (subst (λ x. IfErr x (λ e. e ≡ TooManySteps → Stops given anchored compiled v at (Some steps))) err stopped refl)

-- what an input of a program's table and mode shows is what the program reads
pub seen-as : (v : View) (compiled : CompiledRegex) (kind : Kind) (units : List ℕ) (t : Table) (u : Bool) → v ≡ record { kind = kind; units = units; table = t; unicode = u }
    → t ≡ table compiled.tables → u ≡ is_unicode (options compiled.flags) → v ≡ seen_by compiled kind units
seen-as v compiled kind units t u shown same mode = shown ∙ (λ i. record { kind = kind; units = units; table = same i; unicode = mode i })
