use Rattle.regress_front_bytes.specs.Bitmaps.{ascii_bitmap_contains}
use Rattle.regress_front_sets.specs.Sets.{in_set}
use Rattle.regress_engine_insn.proofs.BitmapLemmas.{ascii-members}
use Rattle.regress_engine_code.proofs.brackets.ascii_bitmap.Goals as goal

pub returns : goal.returns
returns c = λ d.
    let low = c.is_ascii.ensures.0 c.if-not-is_ascii.false in
    rw c.if-contents.false (ascii-members (ascii_bitmap_contains c.ascii_members.result) (in_set c.args.contents.now.cps) c.ascii_members.ensures low d)
