use Rattle.std.proofs.Common.{◌≡◌, ◌-◌, length, take, drop, arith}
use Rattle.std.specs.Ordering.{is_lt, is_eq}
use Rattle.std.proofs.lemmas.List.Sorted.{IsPartitionPoint-from_clause}
use Rattle.std.proofs.lemmas.Grind.{common_steps}
use Rattle.regress_front_bytes.proofs.EqualRangeLemmas.{IsPartitionedBy-less, IsPartitionedBy-equal, IsEqualRange-from_parts}
use Rattle.regress_front_bytes.proofs.equal_range.equal_range_by.Goals as goal

pub returns-clause-equal : goal.returns-clause-equal
returns-clause-equal g c = λ ord computes rise.
    let xs = c.args.slice.now in
    let start = c.partition_point-start.result in
    let rest = take (length xs - start) (drop start xs) in
    let tail : rest ≡ drop start xs = grind (arith, common_steps) in
    let len = c.partition_point-len.result in
    let less = IsPartitionPoint-from_clause (λ x. is_lt (ord x)) xs start c.partition_point-start.ensures.partitioned
    (IsPartitionedBy-less ord xs rise) (λ a r f' called. (called.met.0 ord computes, called.met.1)) in
    let equal = IsPartitionPoint-from_clause (λ x. is_eq (ord x)) rest len c.partition_point-len.ensures.partitioned
    (IsPartitionedBy-equal ord xs rise start less rest tail) (λ a r f' called. (called.met.0 ord computes, called.met.1)) in
    IsEqualRange-from_parts ord xs rise start less rest tail len equal
