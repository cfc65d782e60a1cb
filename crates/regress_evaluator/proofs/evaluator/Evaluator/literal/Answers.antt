use Rattle.regress_evaluator.proofs.evaluator.Evaluator.literal.Goals as goal

pub returns : goal.returns
returns c = rw (← c.in_ok-characters.ensures, ← c.deref.ensures.value) c.string.ensures
