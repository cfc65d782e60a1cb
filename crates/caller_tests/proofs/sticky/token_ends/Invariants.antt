use Rattle.std.proofs.Common.{ℕ, ◌-◌, length}
use Rattle.regress_meaning.specs.Offsets.{Begins, of_utf8}
use Rattle.caller_tests.proofs.sticky.token_ends.Given as goal

-- the next token may begin here
abbrev pub invariant-tokens : goal.invariant-tokens
invariant-tokens l = (place : ℕ) × Begins (of_utf8 l.text) l.at place

abbrev pub decreases-tokens : goal.decreases-tokens
decreases-tokens l = length l.text - l.at
