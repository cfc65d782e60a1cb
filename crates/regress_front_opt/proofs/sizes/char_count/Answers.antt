use Rattle.std.proofs.Common.{◌∙◌}
use Rattle.std.proofs.lemmas.Iterator.Consumers.{count_from_yields_List}
use Rattle.std.proofs.lemmas.Iterator.{YieldsList-from_chars}
use Rattle.regress_front_opt.proofs.sizes.char_count.Goals as goal

pub returns : goal.returns
returns c =
    count_from_yields_List c.chars.result c.count.result c.count.ensures.ran
    (YieldsList-from_chars c.args.bytes.now c.requires (c.chars.ensures.rest ∙ c.in-Ok.ensures.cases.0))
