use Rattle.regress_engine_runs.proofs.WholeTree.{runs_as_tree}
use Rattle.regress_engine_runs.proofs.ItemLemmas.{lists-exactly}
use Rattle.regress_engine_runs.proofs.laws.layouts_list_matches.Goals as goal

pub returns : goal.returns
returns c target input reading tells told made whole n t formed layout =
    lists-exactly target.program input reading tells n t (runs_as_tree target input reading tells told made whole n t formed layout)
