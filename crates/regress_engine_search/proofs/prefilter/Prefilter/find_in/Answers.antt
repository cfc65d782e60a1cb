use Rattle.std.specs.Prelude.{◌≡◌, Some}
use Rattle.std.proofs.Common.{subst, sym, ap, ◌∙◌}
use Rattle.memchr.specs.Find.{FindsNeedle}
use Rattle.regress_engine_search.specs.Prefiltering.{IsNextHit, literal_of}
use Rattle.regress_engine_scanning.proofs.ByteLemmas.{needle-least}
use Rattle.regress_engine_search.proofs.prefilter.Prefilter.find_in.Goals as goal

pub returns-in-Some-clause-first : goal.returns-in-Some-clause-first
returns-in-Some-clause-first c =
    let bytes = c.args.bytes.now in
    let same : Some c.in-Some.literal ≡ Some c.in-ByteSeq.field-0.items = sym c.in-Some.is ∙ c.args.self.now.prepared ∙ ap literal_of c.in-ByteSeq.is in
    let found = subst (λ needle. FindsNeedle bytes needle 0 c.find.result) (cc same) c.find.ensures in
    subst (λ p. IsNextHit p bytes 0 c.find.result) (sym c.in-ByteSeq.is) (needle-least bytes c.in-ByteSeq.field-0.items c.find.result found)

pub returns-in-ByteBracket-clause-first : goal.returns-in-ByteBracket-clause-first
returns-in-ByteBracket-clause-first c =
    subst (λ p. IsNextHit p c.args.bytes.now 0 c.find_set.result) (sym c.in-ByteBracket.is) c.find_set.ensures.least

pub returns-in-ByteNear-clause-first : goal.returns-in-ByteNear-clause-first
returns-in-ByteNear-clause-first c =
    subst (λ p. IsNextHit p c.args.bytes.now 0 c.find_near.result) (sym c.in-ByteNear.is) c.find_near.ensures.least

pub returns-in-BytePair-clause-first : goal.returns-in-BytePair-clause-first
returns-in-BytePair-clause-first c =
    subst (λ p. IsNextHit p c.args.bytes.now 0 c.find-in-BytePair.result) (sym c.in-BytePair.is) c.find-in-BytePair.ensures.least

pub returns-in-WordStart-clause-first : goal.returns-in-WordStart-clause-first
returns-in-WordStart-clause-first c =
    subst (λ p. IsNextHit p c.args.bytes.now 0 c.find-in-WordStart.result) (sym c.in-WordStart.is) c.find-in-WordStart.ensures.least
