use Rattle.std.proofs.Common.{refl, ◌∙◌, rules}
use Rattle.std.proofs.lemmas.Iterator.{YieldsList-from_slice}
use Rattle.std.proofs.lemmas.Iterator.Consumers.{fold_from_yields_List}
use Rattle.regress_front_tokens.proofs.NumberLemmas.{fold-stopping, stopping}
use Rattle.regress_front_tokens.proofs.numbers.number_of.Goals as goal

pub returns : goal.returns
returns c =
    let ds = c.args.digits.now in
    fold_from_yields_List _ (stopping c.args.radix) 0 _ c.fold.ensures.ran (YieldsList-from_slice ds (cc)) (λ a x b q k. search rules)
    ∙ fold-stopping c.args.radix ds 0 0 refl
