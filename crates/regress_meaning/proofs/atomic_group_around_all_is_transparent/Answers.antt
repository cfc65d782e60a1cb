use Rattle.regress_meaning.specs.Laws.{in_atomic_group}
use Rattle.regress_meaning.proofs.ReadingLaws.{one_tree}
use Rattle.regress_meaning.proofs.GroupLemmas.{transparent-atomic}
use Rattle.regress_meaning.proofs.atomic_group_around_all_is_transparent.Goals as goal

pub returns : goal.returns
returns c = λ table o source p q s t text place. transparent-atomic table o source p q (one_tree table o (in_atomic_group source)) s t text place
