use Rattle.std.proofs.Common.{◌≡◌, ◌+◌, length, sum_by, take, Vec, Global, ℕ}
use Rattle.regress_front_costs.proofs.costs.strings_left.Given as goal

-- what is left, with what the strings so far cost
abbrev pub invariant-loop-string : goal.invariant-loop-string
invariant-loop-string l = l.left + sum_by (λ (s : Vec ℕ Global). length s.items + 3) (take l.string-index l.strings) ≡ l.amount
