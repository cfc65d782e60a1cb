use Rattle.std.proofs.Common.{◌≡◌, [], Some, None, refl}
use Rattle.regress_matched.proofs.SplittingLemmas.{part-last}
use Rattle.regress.proofs.splitting.Split.rest.Goals as goal

pub returns-clause-left : goal.returns-clause-left
returns-clause-left c =
    let is : c.args.self.now.behind ≡ Some c.in_ok-behind.behind = cc in
    part-last c.args.self.now.source.now c.args.self.now.behind None c.in_ok-behind.behind [] [] c.range_from.result.now is refl c.range_from.ensures.value refl
