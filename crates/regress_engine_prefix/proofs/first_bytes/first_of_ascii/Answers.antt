use Rattle.regress_front_bytes.specs.Bitmaps.{byte_bitmap_contains}
use Rattle.regress_engine_prefix.proofs.LeadLemmas.{AreFirstOf-ascii}
use Rattle.regress_engine_prefix.proofs.first_bytes.first_of_ascii.Goals as goal

pub returns : goal.returns
returns c = AreFirstOf-ascii c.args.bytes.now (byte_bitmap_contains c.new.result) c.requires c.new.ensures
