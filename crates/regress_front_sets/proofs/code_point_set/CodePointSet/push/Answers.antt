use Rattle.std.proofs.Common.{◌-◌, arith}
use Rattle.regress_front_sets.proofs.SetLemmas.{Adds-joined_last, Adds-push, all_below, rise_either}
use Rattle.regress_front_sets.proofs.code_point_set.CodePointSet.push.Goals.{then-len-gt0+else-next-last, else-len-gt0}
use Rattle.regress_front_sets.proofs.code_point_set.CodePointSet.push.Goals as goal

pub invariant_of-self : goal.invariant_of-self
invariant_of-self c =
    let set = c.args.self.now in
    let added = Adds-joined_last set.intervals.items c.args.next c.index-last.result.now c.hull.result (c.len-len.result - 1) set.canonical
    (omega (arith, set.intervals.ok.0)) c.index-last.ensures c.requires c.if-next-last.true c.hull.ensures.first c.hull.ensures.last in
    record { canonical = added.rise }

pub returns-then-next-last-clause-members : goal.returns-then-next-last-clause-members
returns-then-next-last-clause-members c =
    let set = c.args.self.now in
    let added = Adds-joined_last set.intervals.items c.args.next c.index-last.result.now c.hull.result (c.len-len.result - 1) set.canonical
    (omega (arith, set.intervals.ok.0)) c.index-last.ensures c.requires c.if-next-last.true c.hull.ensures.first c.hull.ensures.last in
    added.members

pub invariant_of-self-2 : goal.invariant_of-self-2
invariant_of-self-2 c =
    let set = c.args.self.now in
    let added = Adds-push set.intervals.items c.args.next set.canonical (elim c.if-len-gt0.branch [
      | then-len-gt0+else-next-last w ↦
          all_below set.intervals.items w.index-last.result.now (c.len-len.result - 1) c.args.next.first set.canonical
          (omega (arith, set.intervals.ok.0)) w.index-last.ensures w.if-next-last.false
      | else-len-gt0 w ↦ λ k d l. absurd (omega (arith, set.intervals.ok.0))
    ]) in
    record { canonical = rise_either _ set.intervals.items _ c.push.new.self.items set.canonical added.rise c.push.ensures.items }

pub returns-clause-members : goal.returns-clause-members
returns-clause-members c =
    let set = c.args.self.now in
    let added = Adds-push set.intervals.items c.args.next set.canonical (elim c.if-len-gt0.branch [
      | then-len-gt0+else-next-last w ↦
          all_below set.intervals.items w.index-last.result.now (c.len-len.result - 1) c.args.next.first set.canonical
          (omega (arith, set.intervals.ok.0)) w.index-last.ensures w.if-next-last.false
      | else-len-gt0 w ↦ λ k d l. absurd (omega (arith, set.intervals.ok.0))
    ]) in
    λ x. rw c.in_ok-push.ensures.items (added.members x)
