use Rattle.std.proofs.Common.{◌≡◌, length, option_map}
use Rattle.regress_meaning.specs.ReadingClass.{set_string_at}
use Rattle.regress_front_tokens.specs.Escapes.{mode_view}
use Rattle.regress_front_tokens.specs.Cursors.{unread}
use Rattle.regress_front_classes.proofs.SetLemmas.{after}
use Rattle.regress_front_classes.proofs.class.set_string.Given as goal

-- what is read from the beginning on is what was read so far and what is read from here on
abbrev pub invariant-loop-alloc : goal.invariant-loop-alloc
invariant-loop-alloc l = record {
  kept : l.cursor.points.now ≡ l.fn.cursor.points.now;
  state : set_string_at (mode_view l.mode) (unread l.fn.cursor) ≡ option_map (after l.string.items) (set_string_at (mode_view l.mode) (unread l.cursor));
}

abbrev pub decreases-loop-alloc : goal.decreases-loop-alloc
decreases-loop-alloc l = length (unread l.cursor)
