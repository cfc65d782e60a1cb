use Rattle.regress_replacing.proofs.DigitLemmas.{one-left, first-cut}
use Rattle.std.proofs.Common.{◌<◌, ◌∙◌, arith}
use Rattle.regress_replacing.specs.Replacing.{number_after}
use Rattle.regress_replacing.proofs.digits.group_number.Goals as goal

pub split_at-requires : goal.split_at-requires
split_at-requires c = first-cut c.args.digits.now.text.now c.args.digits.now.few

pub returns-clause-rest : goal.returns-clause-rest
returns-clause-rest c =
    let digits = c.args.digits.now in
    let above : c.args.groups < (number_after 0 digits.text.now).0 = omega (arith, c.number-both.ensures.number) in
    c.split_at.ensures.back ∙ one-left digits.text.now c.args.groups digits.few above
