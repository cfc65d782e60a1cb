use Rattle.std.proofs.Common.{arith}
use Rattle.regress_match.proofs.GroupLemmas.{groups-first}
use Rattle.regress_match.proofs.groups.GroupsIterator.next.Goals as goal

pub returns-clause-steps : goal.returns-clause-steps
returns-clause-steps c =
    let group = c.group-group.ensures in
    groups-first c.args.self.now.found.now c.args.self.now.index c.group-group.result (omega arith) group.whole group.capture
