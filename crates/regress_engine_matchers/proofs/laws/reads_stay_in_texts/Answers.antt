use Rattle.regress_engine_matchers.proofs.ViewLemmas.{view_reads}
use Rattle.regress_engine_matchers.proofs.StayLemmas.{unit-stays, literal-stays}
use Rattle.regress_engine_matchers.proofs.laws.reads_stay_in_texts.Goals as goal

pub returns-clause-inside : goal.returns-clause-inside
returns-clause-inside c = λ v all o can. (view_reads v all).inside o can

pub returns-clause-characters : goal.returns-clause-characters
returns-clause-characters c = λ v all dir o d q can e. ((view_reads v all).on dir o (d, q) can e).0

pub returns-clause-unit : goal.returns-clause-unit
returns-clause-unit c = λ v dir o u room e. unit-stays v dir o u room e

pub returns-clause-units : goal.returns-clause-units
returns-clause-units c = λ v dir part o q room e. literal-stays v dir part o q room e
