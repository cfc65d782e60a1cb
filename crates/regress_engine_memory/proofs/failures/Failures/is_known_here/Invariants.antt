use Rattle.std.proofs.Common.{◌≡◌}
use Rattle.regress_engine_memory.proofs.failures.Failures.is_known_here.Given as goal

-- nothing has to be kept
abbrev pub invariant-loop : goal.invariant-loop
invariant-loop l = record {}
