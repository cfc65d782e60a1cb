use Rattle.regress_front_tables.proofs.LawLemmas.{Keeps-lawful, tells_nothing}
use Rattle.regress_front_tables.proofs.tables.law.lawful_parts_break_no_law.Goals as goal

pub returns : goal.returns
returns c parts lawful law told = tells_nothing law parts (Keeps-lawful law parts lawful) told
