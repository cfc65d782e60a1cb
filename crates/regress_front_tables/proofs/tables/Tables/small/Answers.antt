use Rattle.std.proofs.Common.{sym, subst}
use Rattle.regress_meaning.specs.TableParts.{IsLawful}
use Rattle.regress_front_tables.specs.Parts.{parts_of}
use Rattle.regress_front_tables.proofs.LawLemmas.{IsOkUnless-lawful}
use Rattle.regress_front_tables.proofs.tables.Tables.small.Goals as goal

pub returns-clause-refused : goal.returns-clause-refused
returns-clause-refused c =
    IsOkUnless-lawful (parts_of c.in_ok-small.field-0) (subst IsLawful (sym c.in_ok-small.ensures.small) c.small_parts_are_lawful.ensures) c.new.result c.new.ensures.broken
