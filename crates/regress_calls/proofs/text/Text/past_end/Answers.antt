use Rattle.std.proofs.Common.{refl, inr, arith}
use Rattle.regress_calls.proofs.text.Text.past_end.Goals as goal

pub returns : goal.returns
returns c = inr (refl, omega (arith, c.len-end.ensures.end, c.len-end.ensures.small))
