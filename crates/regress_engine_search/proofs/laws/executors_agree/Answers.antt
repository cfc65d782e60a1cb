use Rattle.regress_engine_runs.proofs.ItemLemmas.{one_find}
use Rattle.regress_engine_search.proofs.AgreeLemmas.{outcomes-agree, executors-step}
use Rattle.regress_engine_search.proofs.laws.executors_agree.Goals as goal

pub returns-clause-outcome : goal.returns-clause-outcome
returns-clause-outcome c = outcomes-agree

pub returns-clause-found : goal.returns-clause-found
returns-clause-found c = λ program input at i j h k. one_find program input h k

pub returns-clause-stepped : goal.returns-clause-stepped
returns-clause-stepped c = executors-step _
