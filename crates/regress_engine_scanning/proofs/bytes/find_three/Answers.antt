use Rattle.std.specs.Prelude.{slice_index}
use Rattle.std.proofs.Common.{rules}
use Rattle.memchr.specs.Find.{is_byte3}
use Rattle.regress_meaning.specs.Text.{holds}
use Rattle.regress_engine_scanning.proofs.ByteLemmas.{three-held, first-byte-by}
use Rattle.regress_engine_scanning.proofs.bytes.find_three.Goals as goal

pub returns : goal.returns
returns c = first-byte-by (is_byte3 (slice_index c.args.set 0) (slice_index c.args.set 1) (slice_index c.args.set 2)) (holds c.args.set) (three-held c.args.set (search rules)) c.args.bytes.now c.memchr3.result c.memchr3.ensures
