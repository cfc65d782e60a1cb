use Rattle.std.proofs.Common.{◌≡◌, length}
use Rattle.regress_engine_answers.proofs.rows.Rows.empty.Given as goal

-- there are as many rows as it has been through
abbrev pub invariant-loop : goal.invariant-loop
invariant-loop l = record {
  count : length l.rows.items ≡ l.counter;
}
