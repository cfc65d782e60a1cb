use Rattle.std.specs.Prelude.{slice_get}
use Rattle.std.proofs.Common.{◌≡◌, ℕ, false, length}
use Rattle.regress_engine_answers.specs.AnswerTables.{in_set}
use Rattle.regress_engine_answers.proofs.filling.empty_sets.Given as goal

-- all so far are empty
abbrev pub invariant-loop : goal.invariant-loop
invariant-loop l = record {
  count : length l.sets.items ≡ l.counter;
  empty : (k n : ℕ) → in_set (slice_get l.sets.items k) n ≡ false;
}
