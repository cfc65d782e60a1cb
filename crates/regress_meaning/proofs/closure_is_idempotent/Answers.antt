use Rattle.regress_meaning.proofs.TableLemmas.{closure-idempotent}
use Rattle.regress_meaning.proofs.closure_is_idempotent.Goals as goal

pub returns : goal.returns
returns c = closure-idempotent
