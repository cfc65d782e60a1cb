use Rattle.std.proofs.Common.{rules, arith}
use Rattle.std.proofs.lemmas.Grind.{common_steps}
use Rattle.caller_tests.proofs.loops.starts_behind.Goals as goal

pub first_start-requires : goal.first_start-requires
first_start-requires c =
    rw c.end.ensures
    (c.in_ok-found-items.ensures.starts c.loop-found.yielded c.loop-found.found-iterator c.next.new.self c.next.result c.in_ok-found.found
    (search rules) c.next.ensures.steps (grind (arith, common_steps))).1
