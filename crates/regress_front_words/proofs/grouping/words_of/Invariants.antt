use Rattle.std.proofs.Common.{◌≡◌, take, drop, length}
use Rattle.regress_front_words.specs.Sharing.{spelled}
use Rattle.regress_front_words.specs.Grouping.{joined}
use Rattle.regress_front_words.proofs.grouping.words_of.Given as goal

-- the words of the groups so far are moved, and the other groups are as they were
abbrev pub invariant-loop-group : goal.invariant-loop-group
invariant-loop-group l =
    (spelled l.words.items ≡ joined (take l.group-index l.initial.group-items))
    × (drop l.group-index l.group-items ≡ drop l.group-index l.initial.group-items)
    × (length l.group-items ≡ length l.initial.group-items)
