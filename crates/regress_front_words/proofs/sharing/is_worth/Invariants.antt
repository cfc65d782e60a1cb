use Rattle.std.proofs.Common.{◌≡◌, ◌≤◌, ◌==◌, length, take}
use Rattle.std.specs.List.{count_by}
use Rattle.regress_front_words.specs.Sharing.{spelled}
use Rattle.regress_front_words.proofs.sharing.is_worth.Given as goal

-- so many of the words so far are no longer
abbrev pub invariant-loop-word : goal.invariant-loop-word
invariant-loop-word l = (l.alone ≡ count_by (λ w. length w == l.end) (spelled (take l.word-index l.words))) × (l.alone ≤ l.word-index)
