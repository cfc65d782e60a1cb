use Rattle.std.proofs.Common.{◌≡◌, ℕ, ◌+◌, ◌<◌, get_or}
use Rattle.regress_engine_advance.proofs.literals.bytes_ahead.Given as goal

-- the bytes so far stand there
abbrev pub invariant-loop-k : goal.invariant-loop-k
invariant-loop-k g l = (j : ℕ) → j < l.k → get_or l.text (l.offset + j) 0 ≡ get_or l.bytes j 0
