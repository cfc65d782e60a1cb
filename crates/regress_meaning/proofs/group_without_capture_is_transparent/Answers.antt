use Rattle.regress_meaning.specs.Laws.{in_group}
use Rattle.regress_meaning.proofs.ReadingLaws.{one_tree}
use Rattle.regress_meaning.proofs.GroupLemmas.{transparent}
use Rattle.regress_meaning.proofs.group_without_capture_is_transparent.Goals as goal

pub returns : goal.returns
returns c = λ table o source p q s t text place. transparent table o source p q (one_tree table o (in_group source)) s t text place
