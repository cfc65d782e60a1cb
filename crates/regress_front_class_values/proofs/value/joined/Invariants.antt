use Rattle.std.proofs.Common.{◌≡◌, vec_len}
use Rattle.regress_front_class_values.specs.ClassValues.{strings_of, united, all_united}
use Rattle.regress_front_class_values.proofs.value.joined.Given as goal

-- the values that are left, and what was joined behind them
abbrev pub invariant-loop-last : goal.invariant-loop-last
invariant-loop-last l = united (all_united l.values.items) (strings_of l.value) ≡ all_united l.fn.values.items

abbrev pub decreases-loop-last : goal.decreases-loop-last
decreases-loop-last l = vec_len l.values
