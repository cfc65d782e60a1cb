use Rattle.std.proofs.Common.{sym}
use Rattle.regress_engine_walks.specs.Searched.{from_start}
use Rattle.regress_engine_exec.proofs.TableLemmas.{counts-told, if-ok}
use Rattle.regress_engine_exec.proofs.turning.Turning.run_from.Goals as goal

pub returns-clause-counted : goal.returns-clause-counted
returns-clause-counted g c =
    let v = g.Input.InputIndexer.view c.args.context.now.input in
    if-ok c.run_from.result
    (λ end. counts-told v c.args.self.now c.tell.new.self c.in-Some.told c.run_from.new.steps (from_start c.args.offset end) c.in-Some.is c.tell.ensures.table c.in_ok-tell.ensures.counted)
    c.run_from.ensures.counted
