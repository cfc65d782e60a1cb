use Rattle.std.proofs.Common.{◌≡◌, take, length}
use Rattle.regress_front_words.specs.Sharing.{spelled, behind, AreLong}
use Rattle.regress_front_words.specs.Grouping.{joined, AreGrouped, IsRearranged}
use Rattle.regress_front_words.proofs.grouping.grouped.Given as goal

-- the groups hold the words so far
abbrev pub invariant-loop-word : goal.invariant-loop-word
invariant-loop-word l =
    AreGrouped l.place l.groups.items
    × AreLong l.place (joined l.groups.items)
    × (length (joined l.groups.items) ≡ l.word-index)
    × IsRearranged (behind l.place (joined l.groups.items)) (behind l.place (spelled (take l.word-index l.words)))
