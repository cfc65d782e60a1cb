use Rattle.std.specs.String.{string_cmp}
use Rattle.regress_front_tokens.proofs.GroupSteps.{next-shared}
use Rattle.regress_front_tokens.proofs.groups.shared.Goals as goal

pub loop-name-preserved : goal.loop-name-preserved
loop-name-preserved c = λ name.
    next-shared c.loop-name.lists c.pop_first.new.self c.loop-name.numbers c.insert.new.self c.in-Some.name c.in-Some.list _ _ name
    c.in-Some.ensures.value c.in_ok-from_vec.ensures c.in-Some.ensures.updates c.in_ok-insert.ensures.updates
    (c.loop-name.invariant name)

pub loop-name-preserved-in_ok-insert : goal.loop-name-preserved-in_ok-insert
loop-name-preserved-in_ok-insert c = λ name.
    next-shared c.loop-name.lists c.pop_first.new.self c.loop-name.numbers c.insert.new.self c.in-Some.name c.in-Some.list _ _ name
    c.in-Some.ensures.value c.in_ok-from_vec.ensures c.in-Some.ensures.updates c.in_ok-insert.ensures.updates
    (c.loop-name.invariant name)
