use Rattle.std.proofs.Common.{◌≡◌, ℕ, ◌&&◌, nat_lt}
use Rattle.regress_front_sets.specs.Sets.{in_set}
use Rattle.regress_unicode.specs.Casefold.{changes_when_nfkc_casefolded}
use Rattle.regress_unicode.proofs.casefold.casefolded.Given as goal

abbrev pub invariant-loop-c : goal.invariant-loop-c
invariant-loop-c l = (k : ℕ) → in_set l.moved k ≡ (nat_lt k l.c && changes_when_nfkc_casefolded k)
