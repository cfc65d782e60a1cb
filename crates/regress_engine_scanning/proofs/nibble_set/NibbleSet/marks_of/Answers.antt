use Rattle.regress_engine_scanning.proofs.NibbleLemmas.{low-positions, high-positions, table-marks}
use Rattle.regress_engine_scanning.proofs.nibble_set.NibbleSet.marks_of.Goals as goal

pub swizzle-low : goal.swizzle-low
swizzle-low c = low-positions c.args.bytes c.fits-bytes.0

pub swizzle-high : goal.swizzle-high
swizzle-high c = high-positions c.args.bytes c.fits-bytes.0 c.fits-bytes.1

pub returns : goal.returns
returns c = table-marks c.args.self.now.low c.args.self.now.high c.args.bytes c.fits-bytes.0 c.fits-bytes.1
