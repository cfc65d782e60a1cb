use Rattle.regress_engine_runs.proofs.WholeTree.{runs_as_tree}
use Rattle.regress_engine_runs.proofs.laws.layouts_run_as_trees.Goals as goal

pub returns : goal.returns
returns c target input reading tells told made whole n t formed layout = runs_as_tree target input reading tells told made whole n t formed layout
