use Rattle.std.proofs.Common.{sym, ap, ◌∙◌}
use Rattle.regress_unicode.specs.Casefold.{is_moved}
use Rattle.regress_unicode.proofs.CaseLemmas.{casefolded-scalar, casefolded-surrogate}
use Rattle.regress_unicode.proofs.casefold.is_casefolded.Goals as goal

pub returns-in-Some : goal.returns-in-Some
returns-in-Some c = c.is_moved.ensures ∙ ap is_moved c.in-Some.ensures.value.1 ∙ sym (casefolded-scalar c.args.c c.in-Some.ensures.cases)

pub returns-in-None : goal.returns-in-None
returns-in-None c = sym (casefolded-surrogate c.args.c c.requires c.in-None.ensures.cases)
