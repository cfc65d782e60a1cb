use Rattle.std.proofs.Common.{◌&&◌, sym, ap, ◌∙◌}
use Rattle.regress_meaning.specs.Meaning.{is_line_end}
use Rattle.regress_front_bytes.specs.Bitmaps.{byte_bitmap_contains}
use Rattle.regress_engine_analysis.specs.MayBegin.{may_lead}
use Rattle.regress_engine_analysis.proofs.FirstOfLemmas.{line_end-first}
use Rattle.regress_engine_analysis.proofs.sets.of_line_end.Goals as goal

pub returns : goal.returns
returns c = λ b small.
    c.both.ensures b small
    ∙ ap (λ t. t && byte_bitmap_contains c.args.rest b) (c.where_read.ensures is_line_end (line_end-first (byte_bitmap_contains c.first_of_chars.result) c.first_of_chars.ensures) b)
    ∙ sym (ap (λ m. m && may_lead is_line_end b && byte_bitmap_contains c.args.rest b) c.if-not-multiline.false)
