use Rattle.std.proofs.Common.{sym, subst, ap, ◌∙◌}
use Rattle.regress_programs.specs.declared.compiled.Compiled.{Compiled}
use Rattle.regress_engine_code.specs.declared.compiled.CompiledRegex.{CompiledRegex}
use Rattle.regress_programs.specs.Programs.{IsProgramOf}
use Rattle.regress_calls.specs.declared.text.Text.{Text}
use Rattle.regress_calls.specs.Texts.{StandsIn}
use Rattle.regress_calls.proofs.many.many_in.Goals as goal

pub returns-in-Utf8-clause-before : goal.returns-in-Utf8-clause-before
returns-in-Utf8-clause-before c = λ t o p stands groups count place begins.
    let stood : IsProgramOf c.args.regex.now.compiled.byte_program t o p = subst (λ (x : Text). StandsIn x c.args.regex.now t o p) c.in-Utf8.is stands in
    c.many_by-done.ensures.before t o p (subst (λ (x : CompiledRegex). IsProgramOf x t o p) (sym (c.over_utf8-by.ensures.0 ∙ ap (λ (x : Compiled). x.byte_program) c.compiled.ensures)) stood) groups count place begins

pub returns-in-Ascii-clause-before : goal.returns-in-Ascii-clause-before
returns-in-Ascii-clause-before c = λ t o p stands groups count place begins.
    let stood : IsProgramOf c.args.regex.now.compiled.byte_program t o p = subst (λ (x : Text). StandsIn x c.args.regex.now t o p) c.in-Ascii.is stands in
    c.many_by-done-in-Ascii.ensures.before t o p (subst (λ (x : CompiledRegex). IsProgramOf x t o p) (sym (c.over_utf8-by-in-Ascii.ensures.0 ∙ ap (λ (x : Compiled). x.byte_program) c.compiled-in-Ascii.ensures)) stood) groups count place begins

pub returns-in-Utf16-clause-before : goal.returns-in-Utf16-clause-before
returns-in-Utf16-clause-before c = λ t o p stands groups count place begins.
    let stood : IsProgramOf c.args.regex.now.compiled.unit_program t o p = subst (λ (x : Text). StandsIn x c.args.regex.now t o p) c.in-Utf16.is stands in
    c.many_by-done-in-Utf16.ensures.before t o p (subst (λ (x : CompiledRegex). IsProgramOf x t o p) (sym (c.over_utf16-by.ensures.0 ∙ ap (λ (x : Compiled). x.unit_program) c.compiled-in-Utf16.ensures)) stood) groups count place begins

pub returns-in-Ucs2-clause-before : goal.returns-in-Ucs2-clause-before
returns-in-Ucs2-clause-before c = λ t o p stands groups count place begins.
    let stood : IsProgramOf c.args.regex.now.compiled.unit_program t o p = subst (λ (x : Text). StandsIn x c.args.regex.now t o p) c.in-Ucs2.is stands in
    c.many_by-done-in-Ucs2.ensures.before t o p (subst (λ (x : CompiledRegex). IsProgramOf x t o p) (sym (c.over_ucs2-by.ensures.0 ∙ ap (λ (x : Compiled). x.unit_program) c.compiled-in-Ucs2.ensures)) stood) groups count place begins
