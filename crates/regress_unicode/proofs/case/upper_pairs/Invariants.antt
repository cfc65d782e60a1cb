use Rattle.std.proofs.Common.{◌≡◌}
use Rattle.regress_unicode.specs.Case.{upper_of, moved}
use Rattle.regress_unicode.proofs.case.upper_pairs.Given as goal

abbrev pub invariant-loop-c : goal.invariant-loop-c
invariant-loop-c l = l.pairs.items ≡ moved upper_of l.c
