use Rattle.std.specs.Prelude.{◌≡◌, ◌≤◌, ◌-◌, take, replicate}
use Rattle.regress_engine_undo.proofs.memory.rewrite.Given as goal

abbrev pub invariant-loop-done : goal.invariant-loop-done
invariant-loop-done g l = (take l.done l.list.items ≡ replicate l.done l.value) × (l.list.len ≡ l.count) × (l.done ≤ l.count) × (l.count ≡ l.initial.count) × (l.value ≡ l.initial.value)

abbrev pub decreases-loop-done : goal.decreases-loop-done
decreases-loop-done g l = l.count - l.done
