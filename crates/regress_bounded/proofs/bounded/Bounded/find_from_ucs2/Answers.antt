use Rattle.std.proofs.Common.{ℕ, ◌<◌, All, length, arith, ap, sym, ◌∙◌, subst, not, Some}
use Rattle.std.proofs.lemmas.List.{get_or_default}
use Rattle.regress_meaning.specs.Flags.{is_unicode}
use Rattle.regress_meaning.specs.Offsets.{Begins, of_ucs2}
use Rattle.regress_front.specs.TableViews.{table}
use Rattle.regress_front_core.specs.FlagWords.{options}
use Rattle.regress_match.specs.Views.{item_of}
use Rattle.regress_engine_input.specs.Views.{View, reading_of, ucs2}
use Rattle.regress_engine_search.specs.Search.{IsItemAtPlaces}
use Rattle.regress_programs.proofs.ListedLemmas.{coming-searched, tree-searchable}
use Rattle.regress_programs.proofs.UnitLemmas.{begins-anywhere, match-in}
use Rattle.regress_engine_input.proofs.UnitTexts.{single_offset}
use Rattle.regress_engine_exec.specs.Turned.{enough_by, may_turn}
use Rattle.regress_bounded.specs.Coming.{search_by, next_from, budget_of, turns_of}
use Rattle.regress_bounded.specs.Standing.{steps_of, unit_program_of}
use Rattle.regress_bounded.specs.Stopping.{seen_by}
use Rattle.regress_bounded.proofs.TogetherLemmas.{stops-taken}
use Rattle.regress_bounded.proofs.IterationLemmas.{search-for, each-given}
use Rattle.regress_bounded.proofs.ShownLemmas.{seen-as}
use Rattle.regress_bounded.proofs.bounded.Bounded.find_from_ucs2.Goals as goal

pub new-requires-clause-start : goal.new-requires-clause-start
new-requires-clause-start c = subst (λ (x : View). (place : ℕ) × Begins (reading_of x) c.args.start place) (sym c.new-input.ensures) (begins-anywhere c.args.units.now c.args.start)

pub returns-clause-over : goal.returns-clause-over
returns-clause-over c = c.new.ensures.text ∙ seen-as _ (unit_program_of c.args.self.now) ucs2 c.args.units.now _ _ c.new-input.ensures (ap table c.tables.ensures) (c.is_unicode.ensures ∙ ap (λ f. is_unicode (options f)) c.flags.ensures)

pub returns-clause-matches_of_tree : goal.returns-clause-matches_of_tree
returns-clause-matches_of_tree c = λ n t laid place begins.
    let b = c.args.self.now in
    let units = c.args.units.now in
    let short : All (λ u. u < 0x1_0000) units = λ k d room. let same = get_or_default units k d 0 room in let fits = c.type_inv.units k in omega (arith, same, fits) in
    let s = search_by c.new.result in
    let is = search-for (unit_program_of b) ucs2 units (sym (ap not b.compiled.now.of_units)) s (returns-clause-over c) c.new.ensures.program in
    tree-searchable s (unit_program_of b) units is short c.args.start place begins (next_from c.new.result) c.new.ensures.begins n t laid

pub returns-clause-matches : goal.returns-clause-matches
returns-clause-matches c = λ t o p stands place begins.
    let b = c.args.self.now in
    let units = c.args.units.now in
    let short : All (λ u. u < 0x1_0000) units = λ k d room. let same = get_or_default units k d 0 room in let fits = c.type_inv.units k in omega (arith, same, fits) in
    let s = search_by c.new.result in
    let is = search-for (unit_program_of b) ucs2 units (sym (ap not b.compiled.now.of_units)) s (returns-clause-over c) c.new.ensures.program in
    coming-searched s (unit_program_of b) units is short c.args.start place begins (next_from c.new.result) c.new.ensures.begins t o p stands

pub returns-clause-inside : goal.returns-clause-inside
returns-clause-inside c =
    let units = c.args.units.now in
    each-given search_by next_from budget_of turns_of _ c.new.result
    (λ m of. match-in (of_ucs2 units) units (single_offset units (length units) (omega arith)) m (subst (λ (v : View). IsItemAtPlaces (reading_of v) (item_of m)) (returns-clause-over c) of.0))

pub returns-clause-turns : goal.returns-clause-turns
returns-clause-turns c =
    c.new.ensures.turns
    ∙ (λ i. may_turn (c.unit_table-table.ensures.table i) (length (c.new-input.ensures i).units) (Some (steps_of c.args.self.now)))

pub returns-clause-lowered : goal.returns-clause-lowered
returns-clause-lowered c = λ turns.
    c.new.ensures.lowered turns ∙ (λ i. enough_by (c.unit_table-table.ensures.table i) (length (c.new-input.ensures i).units))

pub returns-clause-stopped : goal.returns-clause-stopped
returns-clause-stopped c =
    let b = c.args.self.now in
    stops-taken search_by next_from budget_of turns_of (unit_program_of b) (seen_by (unit_program_of b) ucs2 c.args.units.now) c.args.start (steps_of b) c.new.result
    c.new.ensures.program (returns-clause-over c) c.new.ensures.begins _ (returns-clause-turns c) c.new.ensures.steps
