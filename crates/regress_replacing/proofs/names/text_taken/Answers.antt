use Rattle.std.proofs.Common.{option_map, sym, ap, ◌∙◌}
use Rattle.regress_match.specs.Views.{ends}
use Rattle.regress_replacing.specs.Replacing.{part_at}
use Rattle.regress_replacing.proofs.NamedTexts.{taken-range}
use Rattle.regress_replacing.proofs.names.text_taken.Goals as goal

pub returns-in-Some : goal.returns-in-Some
returns-in-Some c =
    let is = ap (option_map ends) (sym c.in-Some.is ∙ c.name.ensures.value) ∙ taken-range c.args.found.now c.args.name.now in
    c.range.ensures.value ∙ ap (part_at c.args.text.now) is

pub returns-in-None : goal.returns-in-None
returns-in-None c =
    let is = ap (option_map ends) (sym c.in-None.is ∙ c.name.ensures.value) ∙ taken-range c.args.found.now c.args.name.now in
    ap (part_at c.args.text.now) is
