use Rattle.std.specs.Prelude.{slice_index}
use Rattle.std.proofs.Common.{rules}
use Rattle.memchr.specs.Find.{is_byte2}
use Rattle.regress_meaning.specs.Text.{holds}
use Rattle.regress_engine_scanning.proofs.ByteLemmas.{two-held, first-byte-by}
use Rattle.regress_engine_scanning.proofs.bytes.find_two.Goals as goal

pub returns : goal.returns
returns c = first-byte-by (is_byte2 (slice_index c.args.set 0) (slice_index c.args.set 1)) (holds c.args.set) (two-held c.args.set (search rules)) c.args.bytes.now c.memchr2.result c.memchr2.ensures
