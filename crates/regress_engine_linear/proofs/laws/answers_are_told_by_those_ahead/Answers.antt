use Rattle.regress_engine_linear.proofs.AnswerLemmas.{answers-by}
use Rattle.regress_engine_linear.proofs.laws.answers_are_told_by_those_ahead.Goals as goal

pub returns : goal.returns
returns c = answers-by
