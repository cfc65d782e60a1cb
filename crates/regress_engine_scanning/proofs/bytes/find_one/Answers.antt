use Rattle.std.specs.Prelude.{slice_index}
use Rattle.std.proofs.Common.{rules}
use Rattle.memchr.specs.Find.{is_byte}
use Rattle.regress_meaning.specs.Text.{holds}
use Rattle.regress_engine_scanning.proofs.ByteLemmas.{one-held, first-byte-by}
use Rattle.regress_engine_scanning.proofs.bytes.find_one.Goals as goal

pub returns : goal.returns
returns c = first-byte-by (is_byte (slice_index c.args.set 0)) (holds c.args.set) (one-held c.args.set (search rules)) c.args.bytes.now c.memchr.result c.memchr.ensures
