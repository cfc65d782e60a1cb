use Rattle.std.proofs.Common.{sym, ap, ◌∙◌, subst}
use Rattle.regress_meaning.specs.TableParts.{IsLawful}
use Rattle.regress_front_tables.specs.Listed.{parts_known}
use Rattle.regress_front_tables.proofs.tables.Tables.new.Goals as goal

pub invariant_of-result : goal.invariant_of-result
invariant_of-result c = record { lawful = subst IsLawful (sym (ap parts_known c.in_ok-shared.ensures.ok ∙ c.in_ok-known.ensures)) c.in_ok-check_laws.ensures.kept }

pub returns-clause-made : goal.returns-clause-made
returns-clause-made c = ap parts_known c.in_ok-shared.ensures.ok ∙ c.in_ok-known.ensures
