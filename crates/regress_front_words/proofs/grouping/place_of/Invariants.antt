use Rattle.std.proofs.Common.{◌-◌, length, drop, All}
use Rattle.regress_front_words.specs.Grouping.{IsOfOther}
use Rattle.regress_front_words.proofs.grouping.place_of.Given as goal

-- the groups passed are of other characters
abbrev pub invariant-loop-passed : goal.invariant-loop-passed
invariant-loop-passed l = All (IsOfOther l.letter) (drop (length l.groups - l.passed) l.groups)
