use Rattle.std.proofs.Common.{◌≡◌, ◌+◌, ◌≤◌, arith, length, refl, rules, sym, subst}
use Rattle.std.specs.Prelude.{option_map, IfSome}
use Rattle.regress_match.specs.GroupViews.{names_of_match}
use Rattle.regress_match.specs.Views.{item_of}
use Rattle.regress_engine_code.specs.Standing.{names_of, program_of}
use Rattle.regress_engine_input.specs.Views.{input_of, reading_of}
use Rattle.regress_engine_runs.specs.Items.{Finds, goes_on}
use Rattle.regress_engine_search.specs.Search.{Search, IsItemAtPlaces}
use Rattle.regress_engine_search.proofs.ProducerLemmas.{read-place, read-none, goes-on}
use Rattle.regress_engine_runs.proofs.FoundItems.{finds-from}
use Rattle.regress_engine_search.proofs.PlaceLemmas.{moves}
use Rattle.regress_engine_search.proofs.SkipLemmas.{place-lies}
use Rattle.regress_engine_exec.specs.Searches.{budget_of, search_in, table_in, tabled_in}
use Rattle.regress_engine_exec.specs.Turned.{ends, most_walked}
use Rattle.regress_engine_exec.proofs.TableLemmas.{none-ahead, walk-ahead}
use Rattle.regress_engine_exec.specs.Counting.{CountsSearch}
use Rattle.regress_engine_exec.proofs.search.Backtracker.advance.Goals as goal

pub find_from-requires : goal.find_from-requires
find_from-requires g c =
    let context = c.args.self.now.context in
    let s : Search = record { compiled = context.program.now; view = g.Input.Shown.shown context.input; searchable = context.searchable } in
    read-place s (g.Input.InputIndexer.view context.input) (g.met.Input.ExecutorInput.shows context.input) (g.met.Input.InputIndexer.are_of_kind context.input) c.args.position c.requires

pub goes_on-requires : goal.goes_on-requires
goes_on-requires g c =
    let inside = subst (λ o. IfSome o (λ m. IsItemAtPlaces (reading_of (g.Input.InputIndexer.view c.args.self.now.context.input)) (item_of m))) c.in-Some.is c.in_ok-found.ensures.inside in
    subst (λ u. IsItemAtPlaces (reading_of (g.Input.InputIndexer.view u.input)) (item_of c.in-Some.found)) (sym c.find_from.ensures.kept) inside

pub returns-in_default-clause-found : goal.returns-in_default-clause-found
returns-in_default-clause-found g c =
    let context = c.args.self.now.context in
    let s : Search = record { compiled = context.program.now; view = g.Input.Shown.shown context.input; searchable = context.searchable } in
    let v = g.Input.InputIndexer.view context.input in (
      read-none s v (g.met.Input.ExecutorInput.shows context.input) (g.met.Input.InputIndexer.are_of_kind context.input) c.args.position c.requires
          (subst (λ o. Finds (program_of context.program.now) (input_of v) c.args.position (option_map item_of o)) c.in_default.is c.in_ok-found.ensures.found),
      refl,
    )

pub returns-in_default-clause-tabled : goal.returns-in_default-clause-tabled
returns-in_default-clause-tabled g c =
    let self = c.args.self.now in
    none-ahead (table_in self) (length (search_in self).view.units) c.args.position (tabled_in self) (tabled_in c.find_from.new.self)
    (subst (λ o. tabled_in c.find_from.new.self ≤ tabled_in self + most_walked (table_in self) (length (search_in self).view.units) (option_map (λ m. ends (item_of m)) o)) c.in_default.is c.in_ok-found.ensures.tabled)

pub returns : goal.returns
returns g c =
    let context = c.args.self.now.context in
    let v = g.Input.InputIndexer.view context.input in
    let s : Search = record { compiled = context.program.now; view = g.Input.Shown.shown context.input; searchable = context.searchable } in
    let i = item_of c.in-Some.found in
    let found = subst (λ o. Finds (program_of context.program.now) (input_of v) c.args.position (option_map item_of o)) c.in-Some.is c.in_ok-found.ensures.found in
    let inside = subst (λ o. IfSome o (λ m. IsItemAtPlaces (reading_of v) (item_of m))) c.in-Some.is c.in_ok-found.ensures.inside in
    let goes = subst (λ u. c.goes_on.result ≡ goes_on (program_of u.program.now) (input_of (g.Input.InputIndexer.view u.input)) i) c.find_from.ensures.kept c.goes_on.ensures in
    let named = subst (λ o. IfSome o (λ m. names_of_match m ≡ names_of context.program.now)) c.in-Some.is c.in_ok-found.ensures.named in
    let on = goes-on s v (g.met.Input.ExecutorInput.shows context.input) (g.met.Input.InputIndexer.are_of_kind context.input) c.args.position c.requires i c.goes_on.result found inside goes in
    record {
      found = (on.items, (on.inside, named));
      inside = on.position;
      nearer = on.nearer;
      kept = search rules;
      last = search rules;
      turns = c.find_from.ensures.turns;
      table = c.find_from.ensures.table;
      tabled =
          let self = c.args.self.now in
          let before = tabled_in self in
          let after = tabled_in c.find_from.new.self in
          let more = subst (λ o. after ≤ before + most_walked (table_in self) (length (search_in self).view.units) (option_map (λ m. ends (item_of m)) o)) c.in-Some.is c.in_ok-found.ensures.tabled in
          let last = subst (λ w. i.end ≤ length w.units) (sym (g.met.Input.ExecutorInput.shows context.input))
          (place-lies v (g.met.Input.InputIndexer.are_of_kind context.input) i.end inside.0.1) in
          let from : c.args.position ≤ i.start = finds-from (program_of context.program.now) (input_of v) (moves v) found in
          let walk = walk-ahead (program_of context.program.now) v i inside.0.2 (table_in self) (length s.view.units) c.args.position c.goes_on.result from last goes in
          omega (arith, more, walk);
      never = tt;
      counted = subst (λ x. CountsSearch (program_of context.program.now) x c.args.position (g.B.Budget.left (budget_of c.args.self.now)) (g.B.Budget.left (budget_of c.find_from.new.self))) (sym (g.met.Input.ExecutorInput.shows context.input)) c.in_ok-found.ensures.counted;
    }
