use Rattle.std.proofs.Common.{sym}
use Rattle.regress_engine_exec.proofs.TableLemmas.{counts-told, if-ok}
use Rattle.regress_engine_exec.proofs.turning.Turning.first_from.Goals as goal

pub returns-clause-counted : goal.returns-clause-counted
returns-clause-counted g c =
    let v = g.Input.InputIndexer.view c.args.context.now.input in
    if-ok c.first_from.result
    (λ found. counts-told v c.args.self.now c.tell.new.self c.in-Some.told c.first_from.new.steps found c.in-Some.is c.tell.ensures.table c.in_ok-tell.ensures.counted)
    c.first_from.ensures.counted
