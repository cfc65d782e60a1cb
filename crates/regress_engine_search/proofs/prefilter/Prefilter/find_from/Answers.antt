use Rattle.std.proofs.Common.{subst, sym}
use Rattle.regress_engine_search.specs.Prefiltering.{IsNextHit}
use Rattle.regress_engine_search.proofs.PrefilterLemmas.{other_than_near}
use Rattle.regress_engine_search.proofs.prefilter.Prefilter.find_from.Goals as goal

pub find_behind-requires-clause-near : goal.find_behind-requires-clause-near
find_behind-requires-clause-near c = other_than_near c.args.self.now.start.now c.in_default.not-ByteNear c.in_default-start.not-WordStart

pub returns-in-ByteNear : goal.returns-in-ByteNear
returns-in-ByteNear c =
    subst (λ p. IsNextHit p c.args.text.now c.args.offset c.find_near.result) (sym c.in-ByteNear.is) c.find_near.ensures.least

pub returns-in-WordStart : goal.returns-in-WordStart
returns-in-WordStart c =
    subst (λ p. IsNextHit p c.args.text.now c.args.offset c.find.result) (sym c.in-WordStart.is) c.find.ensures.least
