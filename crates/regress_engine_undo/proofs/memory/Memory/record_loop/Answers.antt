use Rattle.std.proofs.Common.{ap, get_or}
use Rattle.regress_engine_runs.specs.UndoStack.{old_loop}
use Rattle.regress_engine_undo.specs.Held.{Held, held, undo_of, pushed}
use Rattle.regress_engine_undo.proofs.MemoryLemmas.{recorded-none, recorded-some, ok-on}
use Rattle.regress_engine_undo.proofs.memory.Memory.record_loop.Goals as goal

pub returns-then-is_empty : goal.returns-then-is_empty
returns-then-is_empty c =
    let h : Held = held c.args.self.now in
    ap (λ s. record h { stack = s }) (recorded-none undo_of c.args.self.now.stack.items c.as_slice.result.now c.as_slice.ensures.value (old_loop c.args.id (get_or h.loops c.args.id (0, 0))) c.if-is_empty.ensures)

pub returns : goal.returns
returns c =
    let h : Held = held c.args.self.now in
    let on = recorded-some undo_of c.args.self.now.stack.items c.as_slice.result.now c.as_slice.ensures.value (old_loop c.args.id (get_or h.loops c.args.id (0, 0))) c.if-is_empty.ensures in
    ok-on c.push_loop.result (held c.push_loop.new.self) (pushed (old_loop c.args.id (get_or h.loops c.args.id (0, 0))) h) _ (ap (λ s. record h { stack = s }) on) c.push_loop.ensures
