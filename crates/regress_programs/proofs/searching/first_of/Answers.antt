use Rattle.std.specs.Prelude.{IfErr}
use Rattle.std.proofs.Common.{◌≡◌, Some, IfOk, option_map, sym, ap, ◌∙◌, subst}
use Rattle.std.proofs.lemmas.Result.{IfOk-weaker}
use Rattle.regress_match.specs.Views.{item_of}
use Rattle.regress_engine_code.specs.Standing.{program_of}
use Rattle.regress_engine_input.specs.Views.{input_of, reading_of}
use Rattle.regress_engine_runs.specs.Items.{Finds, begins_at}
use Rattle.regress_engine_runs.specs.Meets.{IsAtPlace}
use Rattle.regress_engine_search.specs.Answering.{IsOutcome}
use Rattle.regress_engine_search.specs.Search.{Search, IsSearchable, IsItemAtPlaces}
use Rattle.regress_programs.specs.declared.slots.Anchored.TheVariants.{No, Yes}
use Rattle.regress_engine_exec.specs.Searches.{budget_of}
use Rattle.regress_programs.specs.Counting.{Counts}
use Rattle.regress_programs.specs.Filling.{first_told}
use Rattle.regress_programs.proofs.OutcomeLemmas.{outcome-begins}
use Rattle.regress_programs.proofs.SlotLemmas.{begun, found-told, run-told, takes-all, told-by, told-past}
use Rattle.regress_programs.proofs.searching.first_of.Goals as goal

pub returns-in_default-clause-of_tree : goal.returns-in_default-clause-of_tree
returns-in_default-clause-of_tree g c = λ n t laid place begins.
    let context = c.args.executor.now.context in
    let v = g.Input.InputIndexer.view context.input in
    let shows = g.met.Input.ExecutorInput.shows context.input in
    let s : Search = record { compiled = context.program.now; view = v; searchable = subst (IsSearchable (program_of context.program.now)) shows context.searchable } in
    let none = sym c.in_default.is ∙ c.initial_position.ensures.begins ∙ ap (λ w. begins_at (input_of w) c.args.start) shows in
    sym (told-past s (g.met.Input.InputIndexer.are_of_kind context.input) c.requires.made c.args.start place begins n t laid c.args.anchored none)

pub returns-in-No-clause-of_tree : goal.returns-in-No-clause-of_tree
returns-in-No-clause-of_tree g c = λ n t laid place begins.
    let context = c.args.executor.now.context in
    let v = g.Input.InputIndexer.view context.input in
    let all = g.met.Input.InputIndexer.are_of_kind context.input in
    let shows = g.met.Input.ExecutorInput.shows context.input in
    let s : Search = record { compiled = context.program.now; view = v; searchable = subst (IsSearchable (program_of context.program.now)) shows context.searchable } in
    let starts = sym c.in-Some.is ∙ c.initial_position.ensures.begins ∙ ap (λ w. begins_at (input_of w) c.args.start) shows in
    let here = (begun s all c.args.start c.in-Some.position starts).0 in
    let place_there : IsAtPlace (reading_of v) c.in-Some.position = subst (λ w. IsAtPlace (reading_of w) c.in-Some.position) shows c.in-Some.ensures.inside in
    subst (λ a. IfOk c.find_from.result (λ found. option_map item_of found ≡ first_told a s.compiled (reading_of v) n t place)) (sym c.in-No.is)
    (told-by (IsItemAtPlaces (reading_of v)) (Finds (program_of s.compiled) (input_of v) c.in-Some.position) (first_told No s.compiled (reading_of v) n t place)
    (λ i inside finds. found-told s all c.requires.made c.args.start place begins n t laid (subst (λ o. Some o ≡ begins_at (input_of v) c.args.start) here starts)
    (subst (IsAtPlace (reading_of v)) here place_there) i inside (subst (λ o. Finds (program_of s.compiled) (input_of v) o i) here finds))
    c.find_from.result c.find_from.ensures.found c.find_from.ensures.inside)

pub returns-in-No-clause-stopped : goal.returns-in-No-clause-stopped
returns-in-No-clause-stopped g c =
    let context = c.args.executor.now.context in
    let v = g.Input.InputIndexer.view context.input in
    let shows = g.met.Input.ExecutorInput.shows context.input in
    let s : Search = record { compiled = context.program.now; view = v; searchable = subst (IsSearchable (program_of context.program.now)) shows context.searchable } in
    let starts = sym c.in-Some.is ∙ c.initial_position.ensures.begins ∙ ap (λ w. begins_at (input_of w) c.args.start) shows in
    let here = (begun s (g.met.Input.InputIndexer.are_of_kind context.input) c.args.start c.in-Some.position starts).0 in
    let before = g.B.Budget.left (budget_of c.args.executor.now) in
    subst (λ a. IfErr c.find_from.result (λ e. g.B.SearchBudget.is_over e → Counts a s.compiled v c.args.start before (Some 0))) (sym c.in-No.is)
    (takes-all c.find_from.result g.B.SearchBudget.is_over (λ at after. Counts No s.compiled v at before after) c.in-Some.position c.args.start _ here c.find_from.ensures.stopped)

pub returns-in-Yes-clause-of_tree : goal.returns-in-Yes-clause-of_tree
returns-in-Yes-clause-of_tree g c = λ n t laid place begins.
    let context = c.args.executor.now.context in
    let v = g.Input.InputIndexer.view context.input in
    let all = g.met.Input.InputIndexer.are_of_kind context.input in
    let shows = g.met.Input.ExecutorInput.shows context.input in
    let s : Search = record { compiled = context.program.now; view = v; searchable = subst (IsSearchable (program_of context.program.now)) shows context.searchable } in
    let (here, low) = begun s all c.args.start c.in-Some.position (sym c.in-Some.is ∙ c.initial_position.ensures.begins ∙ ap (λ w. begins_at (input_of w) c.args.start) shows) in
    subst (λ a. IfOk c.match_at.result (λ found. option_map item_of found ≡ first_told a s.compiled (reading_of v) n t place)) (sym c.in-Yes.is)
    (told-by (IsItemAtPlaces (reading_of v)) (IsOutcome (program_of s.compiled) (input_of v) c.in-Some.position) (first_told Yes s.compiled (reading_of v) n t place)
    (λ i inside outcome. run-told s all c.requires.made c.args.start place begins n t laid low i inside (subst (λ o. IsOutcome (program_of s.compiled) (input_of v) o i) here outcome))
    c.match_at.result c.match_at.ensures.outcome c.match_at.ensures.inside)

pub returns-in-Yes-clause-begins : goal.returns-in-Yes-clause-begins
returns-in-Yes-clause-begins g c =
    let context = c.args.executor.now.context in
    let v = g.Input.InputIndexer.view context.input in
    let shows = g.met.Input.ExecutorInput.shows context.input in
    let s : Search = record { compiled = context.program.now; view = v; searchable = subst (IsSearchable (program_of context.program.now)) shows context.searchable } in
    let starts = sym c.in-Some.is ∙ c.initial_position.ensures.begins ∙ ap (λ w. begins_at (input_of w) c.args.start) shows in
    let here = (begun s (g.met.Input.InputIndexer.are_of_kind context.input) c.args.start c.in-Some.position starts).0 in
    λ _.
    IfOk-weaker c.match_at.result _ _
    (λ found outcome. outcome-begins (program_of s.compiled) (input_of v) c.args.start found
    (subst (λ o. IsOutcome (program_of s.compiled) (input_of v) o (option_map item_of found)) here outcome))
    c.match_at.ensures.outcome

pub returns-in-Yes-clause-stopped : goal.returns-in-Yes-clause-stopped
returns-in-Yes-clause-stopped g c =
    let context = c.args.executor.now.context in
    let v = g.Input.InputIndexer.view context.input in
    let shows = g.met.Input.ExecutorInput.shows context.input in
    let s : Search = record { compiled = context.program.now; view = v; searchable = subst (IsSearchable (program_of context.program.now)) shows context.searchable } in
    let starts = sym c.in-Some.is ∙ c.initial_position.ensures.begins ∙ ap (λ w. begins_at (input_of w) c.args.start) shows in
    let here = (begun s (g.met.Input.InputIndexer.are_of_kind context.input) c.args.start c.in-Some.position starts).0 in
    let before = g.B.Budget.left (budget_of c.args.executor.now) in
    subst (λ a. IfErr c.match_at.result (λ e. g.B.SearchBudget.is_over e → Counts a s.compiled v c.args.start before (Some 0))) (sym c.in-Yes.is)
    (takes-all c.match_at.result g.B.SearchBudget.is_over (λ at after. Counts Yes s.compiled v at before after) c.in-Some.position c.args.start _ here c.match_at.ensures.stopped)
