use Rattle.std.proofs.Common.{◌≡◌, ◌-◌, suc, arith}
use Rattle.regress.specs.Coming.{coming}
use Rattle.regress.specs.Splitting.{first_parts_left}
use Rattle.regress_matched.proofs.SplittingLemmas.{limited-none}
use Rattle.regress.proofs.SplittingLemmas.{limited-step, makes-progress}
use Rattle.regress.proofs.splitting.SplitNIterator.next.Goals as goal

pub returns-in_default-clause-steps : goal.returns-in_default-clause-steps
returns-in_default-clause-steps c =
    let old = c.args.self.now in
    let n = old.limit - 2 in
    let two : old.limit ≡ suc (suc n) = omega arith in
    let one : old.limit - 1 ≡ suc n = omega arith in
    record {
      first = limited-step old.limit (old.limit - 1) n old.parts.source.now _ old.parts.behind _ (coming old.parts.matches) (coming c.next.new.self.matches) c.next.result two one
          (c.next.ensures.steps.limited n);
      ended = λ none. c.next.ensures.steps.gives.ended (limited-none old.limit n old.parts.source.now old.parts.behind (coming old.parts.matches) two none);
    }

pub returns-in_default-clause-goes : goal.returns-in_default-clause-goes
returns-in_default-clause-goes c = makes-progress _ first_parts_left _ _ _ tt (returns-in_default-clause-steps c)
