use Rattle.std.proofs.Common.{◌≤◌, length, take, slice_range}
use Rattle.regress_front_words.specs.Sharing.{spelled, AreSame}
use Rattle.regress_front_words.proofs.sharing.shared_end.Given as goal

-- the words so far are the same up to there
abbrev pub invariant-loop-other : goal.invariant-loop-other
invariant-loop-other l =
    (l.from ≤ l.end) × (l.end ≤ length l.first) × AreSame l.from l.end (slice_range l.first l.from l.end) (spelled (take l.other-index l.others))
