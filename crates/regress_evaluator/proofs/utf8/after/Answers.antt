use Rattle.std.proofs.Common.{refl}
use Rattle.std.specs.Str.{chars}
use Rattle.regress_evaluator.proofs.utf8.after.Goals as goal

pub returns-then-left-eq0-clause-value : goal.returns-then-left-eq0-clause-value
unfolding chars
returns-then-left-eq0-clause-value c = λ bs. rw (c.if-left-eq0.true, c.lead.ensures) refl
