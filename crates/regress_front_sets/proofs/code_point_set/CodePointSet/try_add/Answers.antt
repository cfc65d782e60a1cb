use Rattle.std.proofs.Common.{◌∙◌, arith}
use Rattle.regress_front_sets.proofs.SetLemmas.{Adds-insert, Adds-hull, rise_either}
use Rattle.regress_front_sets.proofs.code_point_set.CodePointSet.try_add.Goals as goal

pub invariant_of-self : goal.invariant_of-self
invariant_of-self c =
    let set = c.args.self.now in
    let run = c.run-run.result in
    let added = Adds-insert set.intervals.items c.args.new_iv run.start run.end set.canonical c.run-run.ensures c.if-run.true in
    record { canonical = rise_either _ set.intervals.items _ c.insert.new.self.items set.canonical added.rise c.insert.ensures.items }

pub returns-then-run-clause-members : goal.returns-then-run-clause-members
returns-then-run-clause-members c =
    let set = c.args.self.now in
    let run = c.run-run.result in
    let added = Adds-insert set.intervals.items c.args.new_iv run.start run.end set.canonical c.run-run.ensures c.if-run.true in
    λ x. rw c.in_ok-insert.ensures.items (added.members x)

pub invariant_of-self-2 : goal.invariant_of-self-2
invariant_of-self-2 c =
    let set = c.args.self.now in
    let run = c.run-run.result in
    let added = Adds-hull set.intervals.items c.drop-drain.new.self.0.items c.args.new_iv c.index-first.result.now c.index-last.result.now
    c.hull-2.result run.start run.end set.canonical c.run-run.ensures c.if-run.false c.index-first.ensures c.index-last.ensures
    (omega arith) (omega arith) (c.drop-drain.ensures.items ∙ c.drain.ensures.kept) in
    record { canonical = added.rise }

pub returns-clause-members : goal.returns-clause-members
returns-clause-members c =
    let set = c.args.self.now in
    let run = c.run-run.result in
    let added = Adds-hull set.intervals.items c.drop-drain.new.self.0.items c.args.new_iv c.index-first.result.now c.index-last.result.now
    c.hull-2.result run.start run.end set.canonical c.run-run.ensures c.if-run.false c.index-first.ensures c.index-last.ensures
    (omega arith) (omega arith) (c.drop-drain.ensures.items ∙ c.drain.ensures.kept) in
    added.members
