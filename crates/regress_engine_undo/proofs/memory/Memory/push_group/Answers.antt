use Rattle.std.proofs.Common.{ap}
use Rattle.regress_engine_runs.specs.UndoStack.{old_group}
use Rattle.regress_engine_undo.specs.Held.{Held, held, pushed}
use Rattle.regress_engine_undo.proofs.MemoryLemmas.{ok-on}
use Rattle.regress_engine_undo.proofs.memory.Memory.push_group.Goals as goal

pub returns : goal.returns
returns c =
    let h : Held = held c.args.self.now in
    ok-on c.push.result (held c.push.new.self) _ _ (ap (λ x. pushed (old_group c.args.group x) h) c.group_data-data.ensures) c.push.ensures
