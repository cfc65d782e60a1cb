use Rattle.std.proofs.Common.{rules}
use Rattle.regress_engine_scanning.proofs.ScanLemmas.{marks-beyond}
use Rattle.regress_engine_scanning.proofs.units.OrBeyondAsciiUnitSet.marks.Goals as goal

pub returns : goal.returns
returns c =
    marks-beyond c.args.self.now.0 c.args.units c.fits-units.0 c.from.result c.from-2.result c.from-3.result 0x80 (search rules) (search rules) (search rules) (search rules)
