use Rattle.std.proofs.Common.{length, sym, ◌∙◌, ap, subst, [], ◌∷◌}
use Rattle.regress_meaning.specs.Pattern.{names_of}
use Rattle.regress_engine_code.specs.declared.compiled.CompiledRegex.{CompiledRegex}
use Rattle.regress.specs.Literals.{IsNowhereIn}
use Rattle.regress.proofs.ListedLemmas.{pattern-in_text}
use Rattle.regress.proofs.NeededLemmas.{no-match, never-near}
use Rattle.regress.proofs.api.Regex.required_literal.Goals as goal

pub returns-in-ByteNear-clause-needed_by_tree : goal.returns-in-ByteNear-clause-needed_by_tree
returns-in-ByteNear-clause-needed_by_tree c = λ n t laid text utf8 place nowhere.
    let compiled : CompiledRegex = c.args.self.now.compiled.byte_program in
    let byte = c.from_ref.ensures.value ∙ ap (λ b. b ∷ []) c.byte_of.ensures in
    no-match compiled c.args.self.now.compiled.of_bytes text utf8
    (never-near compiled.start_pred c.in-ByteNear.field-0 c.in-ByteNear.landmark (sym c.start_pred.ensures ∙ c.in-ByteNear.is) text (subst (λ bs. IsNowhereIn bs text) byte nowhere)) n t laid place

pub returns-in-ByteNear-clause-needed : goal.returns-in-ByteNear-clause-needed
returns-in-ByteNear-clause-needed c = λ t o p stands text utf8 place nowhere.
    pattern-in_text c.args.self.now.compiled.byte_program t o p stands text utf8 place
    ∙ returns-in-ByteNear-clause-needed_by_tree c (length (names_of p)) stands.node (stands.well_formed, stands.layout) text utf8 place nowhere
