use Rattle.std.specs.Result.{result_transpose}
use Rattle.std.proofs.Common.{◌≡◌, ◌∙◌, ◌+◌, ◌≤◌, ℕ, length, subst, sym, Option, Some, None, Result, Ok, Err, IfOk, OnErr, OnOk}
use Rattle.regress_match.specs.declared.found.Match.{Match}
use Rattle.regress_match.specs.Iterating.{Finds}
use Rattle.regress_engine_search.specs.Search.{Search, items_from, IsMatchOf, Steps}
use Rattle.regress_engine_exec.specs.Searches.{search_in, table_in, tabled_in}
use Rattle.regress_engine_exec.specs.Turned.{ahead}
use Rattle.regress_engine_exec.proofs.TableLemmas.{unless-err}
use Rattle.regress_engine_exec.proofs.search.Backtracker.step.Goals as goal

-- what a search from a position gave is what a step gave
steps-found : {E : Type 0} (s : Search) (before next : Option ℕ) (at : ℕ) (x : Result (Option Match) E) (r : Option (Result Match E)) → before ≡ Some at → r ≡ result_transpose x
    → IfOk x (λ found. Finds (items_from s) (IsMatchOf s) at found next) → OnErr x (next ≡ None) → Steps s before r next
steps-found s before next at (Ok None) r from gives found last = rw (from, gives) found
steps-found s before next at (Ok (Some m)) r from gives found last = rw (from, gives) found
steps-found s before next at (Err e) r from gives found last = rw gives last

pub returns-clause-stepped : goal.returns-clause-stepped
returns-clause-stepped g c =
    steps-found (search_in c.args.self.now) c.args.position.now c.advance.new.next c.in_ok-from.from c.advance.result c.transpose.result (sym c.take.ensures.value ∙ c.in_ok-from.was)
    c.transpose.ensures c.advance.ensures.found c.advance.ensures.last

pub returns-clause-tabled : goal.returns-clause-tabled
returns-clause-tabled g c =
    let self = c.args.self.now in
    unless-err _ c.advance.result c.transpose.result c.transpose.ensures
    (subst (λ o. OnOk c.advance.result (tabled_in c.advance.new.self + ahead (table_in self) (length (search_in self).view.units) c.advance.new.next
    ≤ tabled_in self + ahead (table_in self) (length (search_in self).view.units) o)) (sym (sym c.take.ensures.value ∙ c.in_ok-from.was)) c.advance.ensures.tabled)
