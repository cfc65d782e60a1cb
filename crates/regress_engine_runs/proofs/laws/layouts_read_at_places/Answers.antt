use Rattle.regress_engine_runs.proofs.WholeTree.{runs_safely}
use Rattle.regress_engine_runs.proofs.SafeRuns.{reads-where_met}
use Rattle.regress_engine_runs.proofs.laws.layouts_read_at_places.Goals as goal

pub returns : goal.returns
returns c target input reading tells told made whole n t formed layout p inside s i met here reads =
    let run = runs_safely target input reading tells told made whole n t formed layout p inside in
    reads-where_met target.program input reading met run.0 run.1 i here reads
