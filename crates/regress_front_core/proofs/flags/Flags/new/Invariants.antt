use Rattle.std.proofs.Common.{◌≡◌}
use Rattle.regress_front_core.specs.FlagWords.{flags_of}
use Rattle.regress_front_core.proofs.flags.Flags.new.Given as goal

abbrev pub invariant-loop-letter : goal.invariant-loop-letter
invariant-loop-letter g l =
    (goal.iterator-loop-letter g).can_next l.letter-iterator
    × (goal.iterator-loop-letter g).is_finite l.letter-iterator
    × (l.flags ≡ flags_of l.yielded)
