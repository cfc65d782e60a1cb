use Rattle.std.proofs.Common.{◌∷◌, Some, None, length, map, ap, ◌∙◌, subst, refl}
use Rattle.regress_match.specs.Slots.{slots_of}
use Rattle.regress_engine_code.specs.Standing.{program_of}
use Rattle.regress_engine_input.specs.Views.{input_of}
use Rattle.regress_engine_runs.specs.States.{range_of}
use Rattle.regress_engine_search.specs.StateViews.{item_with, marks_of}
use Rattle.regress_engine_search.specs.Answering.{IsFound}
use Rattle.regress_engine_undo.specs.Held.{held}
use Rattle.regress_engine_search.specs.Search.{IsSearchable}
use Rattle.regress_engine_search.proofs.SearchLemmas.{found-inside, found-item}
use Rattle.regress_engine_exec.proofs.search.Backtracker.find_into.Goals as goal

pub returns-in_default-clause-found : goal.returns-in_default-clause-found
returns-in_default-clause-found g c =
    let program = program_of c.args.self.now.context.program.now in
    let input = input_of (g.Input.InputIndexer.view c.args.self.now.context.input) in
    let none = subst (λ x. IsFound program input c.args.offset x (held c.search.new.self.scratch.memory).groups) c.in_default.is c.in_ok-start.ensures.found in
    (None, none, tt, (refl, refl))

pub returns-clause-found : goal.returns-clause-found
returns-clause-found g c =
    let context = c.args.self.now.context in
    let program = program_of context.program.now in
    let v = g.Input.InputIndexer.view context.input in
    let start = c.in-Some.start in
    let end = c.in-Some.end in
    let groups = c.search.new.self.scratch.memory.groups.items in
    let i = item_with start end groups in
    let marks = (held c.search.new.self.scratch.memory).groups in
    let some = subst (λ x. IsFound program (input_of v) c.args.offset x marks) c.in-Some.is c.in_ok-start.ensures.found in
    let finds = found-item program (input_of v) c.args.offset start end marks i groups some refl refl in
    let searchable = subst (IsSearchable program) (g.met.Input.ExecutorInput.shows context.input) context.searchable in
    let filled = c.fill_slots.ensures
    ∙ ap (λ gs. slots_of (length c.args.slots.now) (Some (start, end) ∷ map (λ h. range_of (marks_of h)) gs)) c.deref.ensures.value in
    (Some i, finds, found-inside program v searchable c.args.offset c.requires i finds, (refl, filled))
