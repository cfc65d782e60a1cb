use Rattle.std.proofs.Common.{◌+◌, nat_lt, nat_le, ap, length, rules, of_calls, arith}
use Rattle.std.proofs.lemmas.List.Sorted.{IsPartitionPoint-from_clause}
use Rattle.regress_front_sets.proofs.SetLemmas.{IsRun-from_points, before_is_partitioned, not_after_is_partitioned}
use Rattle.regress_front_sets.proofs.code_point_set.CodePointSet.run.Goals as goal

pub returns : goal.returns
returns c =
    let xs = c.args.self.now.intervals.items in
    let interval = c.args.interval in
    let rise = c.args.self.now.canonical in
    let starts = IsPartitionPoint-from_clause (λ i. nat_lt (i.last + 1) interval.first) c.deref.result.now c.partition_point-start.result c.partition_point-start.ensures.partitioned
    (before_is_partitioned c.deref.result.now interval.first (rw c.deref.ensures.value rise)) (λ a r f k. search (rules, of_calls)) in
    let ends = IsPartitionPoint-from_clause (λ i. nat_le i.first (interval.last + 1)) c.deref-2.result.now c.partition_point-end.result c.partition_point-end.ensures.partitioned
    (not_after_is_partitioned c.deref-2.result.now (interval.last + 1) (rw c.deref-2.ensures.value rise)) (λ a r f k. search (rules, of_calls)) in
    IsRun-from_points xs interval c.partition_point-start.result c.partition_point-end.result
    (omega (arith, c.partition_point-start.ensures.bound, ap length c.deref.ensures.value))
    (omega (arith, c.partition_point-end.ensures.bound, ap length c.deref-2.ensures.value))
    (rw c.deref.ensures.value at starts) (rw c.deref-2.ensures.value at ends)
