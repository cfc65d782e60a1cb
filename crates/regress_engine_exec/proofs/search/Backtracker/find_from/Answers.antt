use Rattle.std.proofs.Common.{◌≡◌, ◌+◌, ◌≤◌, ap, ◌∙◌, Some, subst, sym, refl}
use Rattle.regress_match.specs.Views.{item_of}
use Rattle.regress_engine_code.specs.Standing.{program_of}
use Rattle.regress_engine_input.specs.Views.{input_of}
use Rattle.regress_engine_search.specs.StateViews.{item_with}
use Rattle.regress_engine_search.specs.Answering.{IsFound}
use Rattle.regress_engine_undo.specs.Held.{held}
use Rattle.regress_engine_search.specs.Search.{IsSearchable}
use Rattle.regress_engine_search.proofs.SearchLemmas.{found-inside, found-item}
use Rattle.regress_engine_exec.specs.Searches.{tabled_in, walked_in}
use Rattle.regress_engine_exec.specs.Turned.{ends}
use Rattle.regress_engine_exec.proofs.search.Backtracker.find_from.Goals as goal

pub returns-clause-found : goal.returns-clause-found
returns-clause-found g c =
    let program = program_of c.args.self.now.context.program.now in
    let input = input_of (g.Input.InputIndexer.view c.args.self.now.context.input) in
    found-item program input c.args.offset c.in-Some.start c.in-Some.end (held c.search.new.self.scratch.memory).groups (item_of c.in_ok-found.found) c.search.new.self.scratch.memory.groups.items
    (subst (λ x. IsFound program input c.args.offset x (held c.search.new.self.scratch.memory).groups) c.in-Some.is c.in_ok-start.ensures.found)
    refl (c.in_ok-found.ensures.item ∙ ap (item_with c.in-Some.start c.in-Some.end) c.deref.ensures.value)

pub returns-clause-inside : goal.returns-clause-inside
returns-clause-inside g c =
    found-inside (program_of c.args.self.now.context.program.now) (g.Input.InputIndexer.view c.args.self.now.context.input)
    (subst (IsSearchable (program_of c.args.self.now.context.program.now)) (g.met.Input.ExecutorInput.shows c.args.self.now.context.input) c.args.self.now.context.searchable)
    c.args.offset c.requires (item_of c.in_ok-found.found) (returns-clause-found g c)

pub returns-in_default-clause-tabled : goal.returns-in_default-clause-tabled
returns-in_default-clause-tabled g c =
    let self = c.args.self.now in
    subst (λ x. tabled_in c.search.new.self ≤ tabled_in self + walked_in self x) c.in_default.is c.in_ok-start.ensures.tabled

pub returns-clause-tabled : goal.returns-clause-tabled
returns-clause-tabled g c =
    let self = c.args.self.now in
    let is : ends (item_of c.in_ok-found.found) ≡ (c.in-Some.start, c.in-Some.end) = ap ends (c.in_ok-found.ensures.item ∙ ap (item_with c.in-Some.start c.in-Some.end) c.deref.ensures.value) in
    subst (λ x. tabled_in c.search.new.self ≤ tabled_in self + walked_in self x) (c.in-Some.is ∙ ap Some (sym is)) c.in_ok-start.ensures.tabled
