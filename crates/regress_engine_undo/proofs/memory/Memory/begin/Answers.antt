use Rattle.std.proofs.Common.{map, ap}
use Rattle.regress_engine_runs.specs.States.{unset}
use Rattle.regress_engine_search.specs.StateViews.{loop_of, marks_of}
use Rattle.regress_engine_undo.specs.Held.{undo_of}
use Rattle.regress_engine_undo.proofs.MemoryLemmas.{filled}
use Rattle.regress_engine_undo.proofs.memory.Memory.begin.Goals as goal

pub returns : goal.returns
returns c =
    let loops = filled loop_of c.rewrite.new.list.items c.args.loops c.new.result (0, 0) c.in_ok-rewrite.ensures (ap loop_of c.new.ensures) in
    let groups = filled marks_of c.rewrite-2.new.list.items c.args.groups c.new-2.result unset c.in_ok-rewrite-2.ensures (ap marks_of c.new-2.ensures) in
    let empty = ap (λ xs. map undo_of (mathlib.Core.List.reverse xs)) c.clear.ensures.items in
    (λ i. record { stack = empty i; loops = loops i; groups = groups i })
