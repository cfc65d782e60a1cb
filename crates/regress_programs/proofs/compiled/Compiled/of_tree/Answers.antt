use Rattle.std.proofs.Common.{true, false, arith, sym, subst}
use Rattle.regress_meaning.specs.Flags.{is_unicode}
use Rattle.regress_front.specs.FlagWords.{options}
use Rattle.regress_front.specs.TableViews.{table}
use Rattle.regress_front.specs.Sizes.{spread}
use Rattle.regress_front.specs.Trees.{tree}
use Rattle.regress_engine_code.specs.declared.compiled.CompiledRegex.{CompiledRegex}
use Rattle.regress_programs.specs.Programs.{IsProgramOf, HaveFewInstructions}
use Rattle.std.proofs.lemmas.Result.{err_from_is_err_and}
use Rattle.regress_programs.proofs.ProgramLemmas.{as-rewritten, read-program, program-refused, refused-fits}
use Rattle.regress_programs.proofs.compiled.Compiled.of_tree.Goals as goal

pub emit-requires : goal.emit-requires
emit-requires c = let (n, formed) = c.requires in (n, (c.rewrite.ensures.rewritten n formed).well_formed)

pub emit_units-requires : goal.emit_units-requires
emit_units-requires c = let (n, formed) = c.requires in (n, (c.rewrite.ensures.rewritten n formed).well_formed)

pub returns-in_err-unit_program-clause-refused : goal.returns-in_err-unit_program-clause-refused
returns-in_err-unit_program-clause-refused c = λ made t o text p from.
    let read = as-rewritten made t o text p c.args.regex from c.rewrite.new.regex c.rewrite.ensures.rewritten c.rewrite.ensures.kept.0 c.rewrite.ensures.kept.1 in
    let refused = program-refused made t o text p c.rewrite.new.regex read true _ c.in_err-unit_program.ensures.refused in
    let answered = err_from_is_err_and c.from_residual-in_err-unit_program.result c.from_residual-in_err-unit_program.ensures.1 in
    rw (answered.1, answered.2) refused

pub returns-in_err-unit_program-clause-fits : goal.returns-in_err-unit_program-clause-fits
returns-in_err-unit_program-clause-fits c = λ made t o text p from plain short.
    let read = as-rewritten made t o text p c.args.regex from c.rewrite.new.regex c.rewrite.ensures.rewritten c.rewrite.ensures.kept.0 c.rewrite.ensures.kept.1 in
    let refused = program-refused made t o text p c.rewrite.new.regex read true _ c.in_err-unit_program.ensures.refused in
    let answered = err_from_is_err_and c.from_residual-in_err-unit_program.result c.from_residual-in_err-unit_program.ensures.1 in
    rw (answered.1, answered.2) (refused-fits made t o text _ refused plain short)

pub returns-in_err-byte_program-clause-refused : goal.returns-in_err-byte_program-clause-refused
returns-in_err-byte_program-clause-refused c = λ made t o text p from.
    let read = as-rewritten made t o text p c.args.regex from c.rewrite.new.regex c.rewrite.ensures.rewritten c.rewrite.ensures.kept.0 c.rewrite.ensures.kept.1 in
    let refused = program-refused made t o text p c.rewrite.new.regex read false _ c.in_err-byte_program.ensures.refused in
    let answered = err_from_is_err_and c.from_residual-in_err-byte_program.result c.from_residual-in_err-byte_program.ensures.1 in
    rw (answered.1, answered.2) refused

pub returns-in_err-byte_program-clause-fits : goal.returns-in_err-byte_program-clause-fits
returns-in_err-byte_program-clause-fits c = λ made t o text p from plain short.
    let read = as-rewritten made t o text p c.args.regex from c.rewrite.new.regex c.rewrite.ensures.rewritten c.rewrite.ensures.kept.0 c.rewrite.ensures.kept.1 in
    let refused = program-refused made t o text p c.rewrite.new.regex read false _ c.in_err-byte_program.ensures.refused in
    let answered = err_from_is_err_and c.from_residual-in_err-byte_program.result c.from_residual-in_err-byte_program.ensures.1 in
    rw (answered.1, answered.2) (refused-fits made t o text _ refused plain short)

pub returns-clause-accepted : goal.returns-clause-accepted
returns-clause-accepted c = λ made t o text p from.
    let read = as-rewritten made t o text p c.args.regex from c.rewrite.new.regex c.rewrite.ensures.rewritten c.rewrite.ensures.kept.0 c.rewrite.ensures.kept.1 in (
      subst (λ (x : CompiledRegex). IsProgramOf x t o (made p)) (sym c.of_programs.ensures.bytes)
          (read-program made t o text p c.rewrite.new.regex read c.in_ok-byte_program.byte_program c.in_ok-byte_program.ensures.emitted),
      subst (λ (x : CompiledRegex). IsProgramOf x t o (made p)) (sym c.of_programs.ensures.units)
          (read-program made t o text p c.rewrite.new.regex read c.in_ok-unit_program.unit_program c.in_ok-unit_program.ensures.emitted),
    )

pub returns-clause-small : goal.returns-clause-small
returns-clause-small c =
    let (n, formed) = c.requires in
    let rewritten = c.rewrite.ensures.rewritten n formed in
    let new = c.rewrite.new.regex in
    let bytes = c.in_ok-byte_program.byte_program in
    let units = c.in_ok-unit_program.unit_program in
    let few_bytes = c.spreads_bound_counts.ensures bytes.units (table new.tables.now) (is_unicode (options new.flags)) n (tree new.node) rewritten.well_formed.lawful in
    let few_units = c.spreads_bound_counts.ensures units.units (table new.tables.now) (is_unicode (options new.flags)) n (tree new.node) rewritten.well_formed.lawful in
    let few : HaveFewInstructions (spread (tree c.args.regex.node)) bytes units = (
      omega (arith, c.in_ok-byte_program.ensures.emitted.counted, few_bytes, rewritten.few_spread),
      omega (arith, c.in_ok-unit_program.ensures.emitted.counted, few_units, rewritten.few_spread),
    ) in
    subst (λ (x : CompiledRegex × CompiledRegex). HaveFewInstructions (spread (tree c.args.regex.node)) x.0 x.1)
    (λ i. (sym c.of_programs.ensures.bytes i, sym c.of_programs.ensures.units i)) few
