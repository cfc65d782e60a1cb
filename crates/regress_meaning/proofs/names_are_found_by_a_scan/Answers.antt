use Rattle.regress_meaning.proofs.ReadingLaws.{names-spelled}
use Rattle.regress_meaning.proofs.names_are_found_by_a_scan.Goals as goal

pub returns : goal.returns
returns c = names-spelled
