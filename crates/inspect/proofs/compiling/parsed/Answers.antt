use Rattle.std.proofs.lemmas.Result.{IfOk-weaker}
use Rattle.inspect.proofs.compiling.parsed.Goals as goal

pub returns : goal.returns
returns c = IfOk-weaker c.try_parse.result _ _ (λ re h. (_, h.1.whole.well_formed)) c.try_parse.ensures.accepted
