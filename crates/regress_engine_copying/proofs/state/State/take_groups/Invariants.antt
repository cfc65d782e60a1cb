use Rattle.std.proofs.Common.{◌≡◌, ◌≤◌, length}
use Rattle.regress_engine_runs.specs.States.{mixed}
use Rattle.regress_engine_copying.specs.StateOf.{state_of}
use Rattle.regress_engine_copying.proofs.state.State.take_groups.Given as goal

-- the groups so far
abbrev pub invariant-loop-group : goal.invariant-loop-group
invariant-loop-group l = record {
  state : state_of l.self ≡ record (state_of l.initial.self) { groups = mixed 0 l.first l.group (state_of l.other).groups (state_of l.initial.self).groups };
  count : length (state_of l.self).groups ≡ length (state_of l.initial.self).groups;
  none : l.last ≤ l.first → l.group ≡ l.first;
}
