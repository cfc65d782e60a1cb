use Rattle.std.proofs.Common.{ap, ◌∙◌}
use Rattle.std.specs.Ordering.{is_eq}
use Rattle.regress_front_bytes.proofs.EqualRangeLemmas.{compared_as}
use Rattle.regress_front_bytes.proofs.equal_range.fn.equal_range_by.is_equal.Goals as goal

pub returns : goal.returns
returns g c = λ ord computes.
    let call = (g.met.F.FnMut.1.post_iff _ _ _).0 c.compare.ensures in
    c.is_eq.ensures ∙ ap is_eq (compared_as g.F.Fn ord _ _ _ _ call.1 computes)
