use Rattle.std.proofs.Common.{ap}
use Rattle.regress_engine_runs.specs.States.{unset}
use Rattle.regress_engine_search.specs.StateViews.{marks_of}
use Rattle.regress_engine_ways.proofs.ExitWays.{filled}
use Rattle.regress_engine_walks.proofs.walking.reset.Goals as goal

pub returns-clause-marks : goal.returns-clause-marks
returns-clause-marks c =
    filled marks_of c.resize.new.self.items c.clear.new.self.items c.args.count _ c.new.result unset c.in_ok-resize.ensures.items c.clear.ensures.items c.clear.ensures.len
    (ap marks_of c.new.ensures)
