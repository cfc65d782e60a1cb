use Rattle.std.specs.Prelude.{option_map, IfOk}
use Rattle.std.specs.Str.{chars}
use Rattle.std.proofs.Common.{◌≡◌, Err, length, ap, ◌∙◌, subst}
use Rattle.regress_meaning.specs.Flags.{is_unicode}
use Rattle.regress_meaning.specs.Offsets.{of_utf8, told}
use Rattle.regress_meaning.specs.Pattern.{names_of}
use Rattle.regress_front.specs.TableViews.{table}
use Rattle.regress_front_core.specs.FlagWords.{options}
use Rattle.regress_match.specs.Views.{item_of}
use Rattle.regress_engine_input.specs.Views.{utf8}
use Rattle.regress_engine_exec.specs.declared.error.SearchError.TheVariants.{TooManySteps}
use Rattle.regress_programs.specs.declared.slots.Anchored.TheVariants.{No}
use Rattle.regress_programs.specs.Filling.{first_told}
use Rattle.regress_programs.proofs.AskingLemmas.{found-some}
use Rattle.regress_programs.proofs.ListedLemmas.{pattern-in_text}
use Rattle.regress_bounded.specs.Standing.{byte_program_of, steps_of, tree_list}
use Rattle.regress_bounded.proofs.ShownLemmas.{first-shown, seen-as, takes-shown}
use Rattle.regress_bounded.proofs.bounded.Bounded.is_match_from.Goals as goal

pub returns-in-Ok-clause-found_of_tree : goal.returns-in-Ok-clause-found_of_tree
returns-in-Ok-clause-found_of_tree c = λ n t laid place begins.
    let bytes = c.args.text.now in
    let program = byte_program_of c.args.self.now in
    let shown = first-shown _ _ c.new-input.ensures c.first_within.result No program n t c.args.start (c.first_within.ensures.of_tree n t laid) place begins in
    let found = subst (λ r. IfOk r (λ found. option_map item_of found ≡ first_told No program (of_utf8 bytes) n t place)) c.in-Ok.is shown in
    rw c.is_some.ensures (found-some (told (of_utf8 bytes)) (tree_list c.args.self.now n t (chars bytes) place) c.in-Ok.found found)

pub returns-in-Ok-clause-found : goal.returns-in-Ok-clause-found
returns-in-Ok-clause-found c = λ t o p stands place begins.
    rw (pattern-in_text (byte_program_of c.args.self.now) t o p stands c.args.text.now c.utf8.text place)
    (returns-in-Ok-clause-found_of_tree c (length (names_of p)) stands.node (stands.well_formed, stands.layout) place begins)

pub returns-in-Err-clause-stopped : goal.returns-in-Err-clause-stopped
returns-in-Err-clause-stopped c = λ err.
    let same = seen-as _ (byte_program_of c.args.self.now) utf8 c.args.text.now _ _ c.new-input.ensures (ap table c.tables.ensures) (c.is_unicode.ensures ∙ ap (λ f. is_unicode (options f)) c.flags.ensures) in
    takes-shown c.first_within.result _ _ c.byte_table-table.ensures.table No (byte_program_of c.args.self.now) c.args.start (steps_of c.args.self.now) _ _ same c.first_within.ensures.stopped (c.in-Err.is ∙ ap Err (let e : c.in-Err.error ≡ TooManySteps = cc in e))
