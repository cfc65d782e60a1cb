use Rattle.std.proofs.Common.{rules}
use Rattle.regress_engine_scanning.proofs.ScanLemmas.{marks-one}
use Rattle.regress_engine_scanning.proofs.units.ArrayU81UnitSet.marks.Goals as goal

pub returns : goal.returns
returns c = marks-one c.args.self.now c.args.units c.fits-units.0 c.from.result (search rules) (search rules)
