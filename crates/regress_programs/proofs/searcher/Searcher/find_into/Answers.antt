use Rattle.std.proofs.Common.{List, IfOk, length, option_map, slice_get, sym, subst}
use Rattle.regress_meaning.specs.Matches.{Item}
use Rattle.regress_meaning.specs.Offsets.{Begins, told}
use Rattle.regress_meaning.specs.Pattern.{names_of}
use Rattle.regress_match.specs.Slots.{Fills}
use Rattle.regress_engine_input.specs.Views.{View, AreOfKind, reading_of}
use Rattle.regress_engine_input.proofs.KindLemmas.{tells}
use Rattle.regress_programs.specs.declared.slots.Anchored.TheVariants.{No}
use Rattle.regress_programs.specs.Filling.{SlotsAreAtPlaces, first_told}
use Rattle.regress_programs.specs.Searchers.{reading_by, view_by}
use Rattle.regress_programs.proofs.ListedLemmas.{pattern-listed}
use Rattle.regress_programs.proofs.searcher.Searcher.find_into.Goals as goal

pub returns-clause-found_of_tree : goal.returns-clause-found_of_tree
returns-clause-found_of_tree g c = λ n t laid place.
    let context = c.args.self.now.executor.context in
    subst (λ (x : View). Begins (reading_of x) c.args.start place
    → IfOk c.next_into.result (λ found. Fills (first_told No context.program.now (reading_of x) n t place) found c.args.slots.now c.next_into.new.slots))
    (sym (g.met.Input.ExecutorInput.shows context.input)) (c.next_into.ensures.of_tree n t laid place)

pub returns-clause-found : goal.returns-clause-found
returns-clause-found g c = λ t o p stands place begins.
    let context = c.args.self.now.executor.context in
    let v : View = view_by c.args.self.now in
    let all : AreOfKind v.kind v.units = subst (λ (x : View). AreOfKind x.kind x.units) (sym (g.met.Input.ExecutorInput.shows context.input)) (g.met.Input.InputIndexer.are_of_kind context.input) in
    let r = reading_by c.args.self.now in
    subst (λ (items : List Item). IfOk c.next_into.result (λ found. Fills (option_map (told r) (slice_get items 0)) found c.args.slots.now c.next_into.new.slots))
    (sym (pattern-listed context.program.now t o p stands r.points (tells v.kind v.table v.unicode v.units all).points place))
    (returns-clause-found_of_tree g c (length (names_of p)) stands.node (stands.well_formed, stands.layout) place begins)

pub returns-clause-inside : goal.returns-clause-inside
returns-clause-inside g c =
    subst (λ (x : View). IfOk c.next_into.result (λ found. SlotsAreAtPlaces (reading_of x) found c.next_into.new.slots))
    (sym (g.met.Input.ExecutorInput.shows c.args.self.now.executor.context.input)) c.next_into.ensures.inside
