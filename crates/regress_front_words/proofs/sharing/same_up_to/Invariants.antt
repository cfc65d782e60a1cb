use Rattle.std.proofs.Common.{◌≡◌, ◌≤◌, length, slice_range}
use Rattle.regress_front_words.proofs.sharing.same_up_to.Given as goal

-- the words are the same so far
abbrev pub invariant-loop-end : goal.invariant-loop-end
invariant-loop-end l = (l.end ≤ length l.second) × (slice_range l.second l.from l.end ≡ slice_range l.first l.from l.end)
