use Rattle.std.proofs.Common.{◌≡◌, ap, ◌∙◌}
use Rattle.regress_meaning.specs.Text.{holds}
use Rattle.regress_front_syntax.proofs.group.modifiers_of.Goals as goal

pub returns : goal.returns
returns c =
    let letters = c.args.letters.now in
    let i : c.contains.result ≡ holds letters 0x69 = c.contains.ensures.value ∙ ap (holds letters) c.from.ensures in
    let m : c.contains-2.result ≡ holds letters 0x6D = c.contains-2.ensures.value ∙ ap (holds letters) c.from-2.ensures in
    let s : c.contains-3.result ≡ holds letters 0x73 = c.contains-3.ensures.value ∙ ap (holds letters) c.from-3.ensures in
    λ j. record { icase = i j; multiline = m j; dot_all = s j }
