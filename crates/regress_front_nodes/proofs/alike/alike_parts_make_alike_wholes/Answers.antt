use Rattle.regress_front_nodes.proofs.DistinctLemmas.{make-alike}
use Rattle.regress_front_nodes.proofs.alike.alike_parts_make_alike_wholes.Goals as goal

pub returns : goal.returns
returns c w = make-alike w
