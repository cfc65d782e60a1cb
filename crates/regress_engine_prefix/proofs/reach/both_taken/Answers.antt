use Rattle.std.proofs.Common.{drop, arith}
use Rattle.regress_engine_prefix.proofs.ReachLemmas.{Takes-both, in-left, in-right, both-exact}
use Rattle.regress_engine_prefix.proofs.reach.both_taken.Goals as goal

pub returns : goal.returns
returns c = λ text place mid end one other.
    Takes-both c.args.first c.args.second _ (drop place text) (drop mid text) (drop end text)
    (λ b held. in-left _ _ _ (c.bitor.ensures b) held) (λ b held. in-right _ _ _ (c.bitor.ensures b) held)
    (omega (arith, c.in-Some.ensures)) (λ e. both-exact _ _ e (omega (arith, c.in-Some.ensures))) one other
