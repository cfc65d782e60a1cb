use Rattle.std.proofs.Common.{◌||◌, ap, ◌∙◌}
use Rattle.regress_front_bytes.specs.Bitmaps.{byte_bitmap_contains}
use Rattle.regress_engine_analysis.proofs.FirstOfLemmas.{may_lead-told}
use Rattle.regress_engine_analysis.proofs.sets.where_read.Goals as goal

pub returns : goal.returns
returns c = λ test are b.
    let first = byte_bitmap_contains c.args.first in
    may_lead-told test first (byte_bitmap_contains c.either.result)
    (λ d. c.either.ensures d ∙ ap (λ t. first d || t) (c.inside_of_characters.ensures d)) are b
