use Rattle.std.proofs.Common.{◌∙◌, ap, refl}
use Rattle.regress_replacing.specs.Replacing.{part_at}
use Rattle.regress_replacing.proofs.GroupTexts.{number-range, name-range, text_or_none}
use Rattle.regress_replacing.proofs.replacement.given.Goals as goal

pub returns-in-Numbered : goal.returns-in-Numbered
returns-in-Numbered c =
    let text = c.args.text.now in
    rw c.in-Numbered.is
    (text_or_none text _ _ _ _ c.unwrap_or.ensures refl c.group_str.ensures ∙ ap (part_at text) (number-range c.args.found.now c.in-Numbered.number))

pub returns-in-Named : goal.returns-in-Named
returns-in-Named c =
    let text = c.args.text.now in
    rw c.in-Named.is
    (text_or_none text _ _ _ _ c.unwrap_or-in-Named.ensures refl c.named_str.ensures ∙ ap (part_at text) (name-range c.args.found.now c.in-Named.name.now))
