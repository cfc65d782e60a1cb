use Rattle.std.proofs.Common.{length, ap, ◌∙◌, ◌<◌, All, arith}
use Rattle.std.proofs.lemmas.Result.{IfOk-weaker}
use Rattle.regress_meaning.specs.Flags.{is_unicode}
use Rattle.regress_meaning.specs.Pattern.{names_of}
use Rattle.regress_front_core.specs.FlagWords.{options}
use Rattle.regress_front.specs.TableViews.{table}
use Rattle.regress_engine_input.specs.Views.{utf16}
use Rattle.regress_programs.specs.declared.slots.Anchored.TheVariants.{No}
use Rattle.regress_bounded.specs.Standing.{unit_program_of, steps_of}
use Rattle.regress_bounded.proofs.AlikeLemmas.{filled-shown, slots-shown}
use Rattle.regress_bounded.proofs.ShownLemmas.{seen-as, takes-shown}
use Rattle.std.proofs.lemmas.List.{get_or_default}
use Rattle.regress_meaning.specs.Offsets.{of_utf16}
use Rattle.regress_engine_input.proofs.KindLemmas.{tells}
use Rattle.regress_engine_code.specs.Standing.{target_of}
use Rattle.regress_programs.proofs.ListedLemmas.{pattern-listed}
use Rattle.regress_engine_input.proofs.Utf16Texts.{utf16_end}
use Rattle.regress_programs.proofs.ToldLemmas.{slots-in_units}
use Rattle.regress_bounded.proofs.bounded.Bounded.find_into_utf16.Goals as goal

pub returns-clause-found_of_tree : goal.returns-clause-found_of_tree
returns-clause-found_of_tree c = λ n t laid.
    filled-shown _ _ c.new-input.ensures c.find_into_within.result c.args.slots.now c.find_into_within.new.slots No (unit_program_of c.args.self.now) n t c.args.start
    (c.find_into_within.ensures.of_tree n t laid)

pub returns-clause-found : goal.returns-clause-found
returns-clause-found c = λ t o p stands place begins.
    let units = c.args.units.now in
    let short : All (λ u. u < 0x1_0000) units = λ k d room. let same = get_or_default units k d 0 room in let fits = c.type_inv.units k in omega (arith, same, fits) in
    let target = target_of (unit_program_of c.args.self.now) in
    rw (pattern-listed (unit_program_of c.args.self.now) t o p stands (of_utf16 units).points (tells utf16 target.table target.unicode units short).points place)
    (returns-clause-found_of_tree c (length (names_of p)) stands.node (stands.well_formed, stands.layout) place begins)

pub returns-clause-inside : goal.returns-clause-inside
returns-clause-inside c =
    let units = c.args.units.now in
    let short : All (λ u. u < 0x1_0000) units = λ k d room. let same = get_or_default units k d 0 room in let fits = c.type_inv.units k in omega (arith, same, fits) in
    IfOk-weaker c.find_into_within.result _ _ (λ found inside. slots-in_units (of_utf16 units) units (utf16_end units short) found c.find_into_within.new.slots inside)
    (slots-shown _ _ c.new-input.ensures c.find_into_within.result c.args.slots.now c.find_into_within.new.slots c.find_into_within.ensures.inside)

pub returns-clause-stopped : goal.returns-clause-stopped
returns-clause-stopped c =
    let same = seen-as _ (unit_program_of c.args.self.now) utf16 c.args.units.now _ _ c.new-input.ensures (ap table c.tables.ensures) (c.is_unicode.ensures ∙ ap (λ f. is_unicode (options f)) c.flags.ensures) in
    takes-shown c.find_into_within.result _ _ c.unit_table-table.ensures.table No (unit_program_of c.args.self.now) c.args.start (steps_of c.args.self.now) _ _ same c.find_into_within.ensures.stopped
