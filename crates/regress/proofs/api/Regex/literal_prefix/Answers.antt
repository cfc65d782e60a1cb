use Rattle.std.proofs.Common.{length, sym, ◌∙◌, subst}
use Rattle.regress_meaning.specs.Pattern.{names_of}
use Rattle.regress_engine_code.specs.declared.compiled.CompiledRegex.{CompiledRegex}
use Rattle.regress.specs.Literals.{IsNowhereIn}
use Rattle.regress.proofs.ListedLemmas.{pattern-in_text}
use Rattle.regress.proofs.NeededLemmas.{no-match, never-begins}
use Rattle.regress.proofs.api.Regex.literal_prefix.Goals as goal

pub returns-in-ByteSeq-clause-needed_by_tree : goal.returns-in-ByteSeq-clause-needed_by_tree
returns-in-ByteSeq-clause-needed_by_tree c = λ n t laid text utf8 place nowhere.
    let compiled : CompiledRegex = c.args.self.now.compiled.byte_program in
    no-match compiled c.args.self.now.compiled.of_bytes text utf8
    (never-begins compiled.start_pred c.in-ByteSeq.bytes (sym c.start_pred.ensures ∙ c.in-ByteSeq.is) text (subst (λ bs. IsNowhereIn bs text) c.deref.ensures.value nowhere)) n t laid place

pub returns-in-ByteSeq-clause-needed : goal.returns-in-ByteSeq-clause-needed
returns-in-ByteSeq-clause-needed c = λ t o p stands text utf8 place nowhere.
    pattern-in_text c.args.self.now.compiled.byte_program t o p stands text utf8 place
    ∙ returns-in-ByteSeq-clause-needed_by_tree c (length (names_of p)) stands.node (stands.well_formed, stands.layout) text utf8 place nowhere
