use Rattle.std.proofs.Common.{◌≡◌}
use Rattle.regress_unicode.specs.Case.{fold_of, moved}
use Rattle.regress_unicode.proofs.case.fold_pairs.Given as goal

abbrev pub invariant-loop-c : goal.invariant-loop-c
invariant-loop-c l = l.pairs.items ≡ moved fold_of l.c
