use Rattle.regress_engine_runs.proofs.WholeTree.{runs_as_tree}
use Rattle.regress_engine_runs.proofs.Progress.{stands-where_met}
use Rattle.regress_engine_runs.proofs.laws.layouts_have_progress.Goals as goal

pub returns : goal.returns
returns c target input reading tells told made whole n t formed layout p inside s met =
    let run = runs_as_tree target input reading tells told made whole n t formed layout p inside in
    stands-where_met target.program input met run.0 run.1
