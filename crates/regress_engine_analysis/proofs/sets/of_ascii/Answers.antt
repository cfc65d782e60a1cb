use Rattle.regress_meaning.specs.Text.{holds}
use Rattle.regress_front_bytes.specs.Bitmaps.{ascii_bitmap_contains, byte_bitmap_contains}
use Rattle.regress_front_bytes.specs.ByteSets.{members}
use Rattle.regress_engine_analysis.proofs.FirstOfLemmas.{ascii-first}
use Rattle.regress_engine_analysis.proofs.sets.of_ascii.Goals as goal

pub returns : goal.returns
returns c =
    let held = ascii_bitmap_contains c.args.bitmap.now in
    c.where_read.ensures (holds (members held)) (ascii-first held (byte_bitmap_contains c.members.result) c.ascii_bitmap_holds_ascii.ensures c.members.ensures)
