use Rattle.std.proofs.Common.{ap, refl, sym, ◌∙◌, subst, not, Some, length}
use Rattle.regress_meaning.specs.Flags.{is_unicode}
use Rattle.regress_front.specs.TableViews.{table}
use Rattle.regress_front_core.specs.FlagWords.{options}
use Rattle.regress_match.specs.Views.{item_of}
use Rattle.regress_engine_input.specs.Views.{View, reading_of, utf8}
use Rattle.regress_engine_search.specs.Search.{IsItemAtPlaces}
use Rattle.regress_engine_search.proofs.ProducerLemmas.{match-in_bytes}
use Rattle.regress_programs.proofs.IterationLemmas.{starts-inside}
use Rattle.regress_programs.proofs.ListedLemmas.{coming-searched, tree-searchable, searched-rises}
use Rattle.regress_engine_exec.specs.Turned.{enough_by, may_turn}
use Rattle.regress_bounded.specs.Coming.{search_by, next_from, budget_of, turns_of}
use Rattle.regress_bounded.specs.Standing.{steps_of, byte_program_of}
use Rattle.regress_bounded.specs.Stopping.{seen_by}
use Rattle.regress_bounded.proofs.TogetherLemmas.{stops-taken}
use Rattle.regress_bounded.proofs.IterationLemmas.{search-for, searched-along, each-given}
use Rattle.regress_bounded.proofs.ShownLemmas.{seen-as}
use Rattle.regress_bounded.proofs.bounded.Bounded.find_from.Goals as goal

pub returns-clause-over : goal.returns-clause-over
returns-clause-over c = c.new.ensures.text ∙ seen-as _ (byte_program_of c.args.self.now) utf8 c.args.text.now _ _ c.new-input.ensures (ap table c.tables.ensures) (c.is_unicode.ensures ∙ ap (λ f. is_unicode (options f)) c.flags.ensures)

pub returns-clause-matches_of_tree : goal.returns-clause-matches_of_tree
returns-clause-matches_of_tree c = λ n t laid place begins.
    let b = c.args.self.now in
    let bytes = c.args.text.now in
    let s = search_by c.new.result in
    let is = search-for (byte_program_of b) utf8 bytes (sym (ap not b.compiled.now.of_bytes)) s (returns-clause-over c) c.new.ensures.program in
    tree-searchable s (byte_program_of b) bytes is c.utf8.text c.args.start place begins (next_from c.new.result) c.new.ensures.begins n t laid

pub returns-clause-matches : goal.returns-clause-matches
returns-clause-matches c = λ t o p stands place begins.
    let b = c.args.self.now in
    let bytes = c.args.text.now in
    let s = search_by c.new.result in
    let is = search-for (byte_program_of b) utf8 bytes (sym (ap not b.compiled.now.of_bytes)) s (returns-clause-over c) c.new.ensures.program in
    coming-searched s (byte_program_of b) bytes is c.utf8.text c.args.start place begins (next_from c.new.result) c.new.ensures.begins t o p stands

pub returns-clause-along : goal.returns-clause-along
returns-clause-along c = record {
  at = λ given now yields. ap (λ s. s.view.units) (searched-along search_by next_from budget_of turns_of c.new.result now given yields) ∙ ap (λ (v : View). v.units) (returns-clause-over c);
}

pub returns-clause-inside : goal.returns-clause-inside
returns-clause-inside c =
    each-given search_by next_from budget_of turns_of _ c.new.result
    (λ m of. match-in_bytes utf8 c.args.text.now refl c.utf8.text m (subst (λ (v : View). IsItemAtPlaces (reading_of v) (item_of m)) (returns-clause-over c) of.0))

pub returns-clause-starts : goal.returns-clause-starts
returns-clause-starts c =
    each-given search_by next_from budget_of turns_of _ c.new.result
    (λ m of. starts-inside c.args.text.now c.utf8.text m
    (match-in_bytes utf8 c.args.text.now refl c.utf8.text m (subst (λ (v : View). IsItemAtPlaces (reading_of v) (item_of m)) (returns-clause-over c) of.0)))

pub returns-clause-rise : goal.returns-clause-rise
returns-clause-rise c =
    let b = c.args.self.now in
    let bytes = c.args.text.now in
    let s = search_by c.new.result in
    let is = search-for (byte_program_of b) utf8 bytes (sym (ap not b.compiled.now.of_bytes)) s (returns-clause-over c) c.new.ensures.program in
    let (place, begins) = c.requires in
    searched-rises s (byte_program_of b) bytes is c.utf8.text c.args.start place begins (next_from c.new.result) c.new.ensures.begins

pub returns-clause-turns : goal.returns-clause-turns
returns-clause-turns c =
    c.new.ensures.turns
    ∙ (λ i. may_turn (c.byte_table-table.ensures.table i) (length (c.new-input.ensures i).units) (Some (steps_of c.args.self.now)))

pub returns-clause-lowered : goal.returns-clause-lowered
returns-clause-lowered c = λ turns.
    c.new.ensures.lowered turns ∙ (λ i. enough_by (c.byte_table-table.ensures.table i) (length (c.new-input.ensures i).units))

pub returns-clause-stopped : goal.returns-clause-stopped
returns-clause-stopped c =
    let b = c.args.self.now in
    stops-taken search_by next_from budget_of turns_of (byte_program_of b) (seen_by (byte_program_of b) utf8 c.args.text.now) c.args.start (steps_of b) c.new.result
    c.new.ensures.program (returns-clause-over c) c.new.ensures.begins _ (returns-clause-turns c) c.new.ensures.steps
