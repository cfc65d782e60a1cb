use Rattle.regress_engine_scanning.proofs.EndMarks.{end-marks}
use Rattle.regress_engine_scanning.proofs.units.ends_marked.Goals as goal

pub returns : goal.returns
returns c k =
    end-marks c.args.first c.args.last c.args.apart c.args.units.now c.args.at c.marks-begun.result c.marks-ended.result c.requires c.marks-begun.ensures c.marks-ended.ensures k
