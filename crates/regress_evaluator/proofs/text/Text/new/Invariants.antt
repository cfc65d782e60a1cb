use Rattle.std.specs.Str.Iter.{char_indices_rest, char_indices_offset}
use Rattle.regress_evaluator.proofs.ReadingLemmas.{IsReadTo}
use Rattle.regress_evaluator.proofs.text.Text.new.Given as goal

abbrev pub invariant-loop-start : goal.invariant-loop-start
invariant-loop-start l =
    IsReadTo l.text (char_indices_rest l.start-iterator) (char_indices_offset l.start-iterator) l.points.items l.offsets.items
