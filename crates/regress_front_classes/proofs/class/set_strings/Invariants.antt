use Rattle.std.proofs.Common.{◌≡◌, length, option_map}
use Rattle.regress_meaning.specs.ReadingClass.{set_strings_at}
use Rattle.regress_front_tokens.specs.Escapes.{mode_view}
use Rattle.regress_front_classes.specs.Classes.{strings_view}
use Rattle.regress_front_tokens.specs.Cursors.{unread}
use Rattle.regress_front_classes.proofs.SetLemmas.{after}
use Rattle.regress_front_classes.proofs.class.set_strings.Given as goal

-- what is read from the beginning on is what was read so far and what is read from here on
abbrev pub invariant-loop-strings : goal.invariant-loop-strings
invariant-loop-strings l = record {
  kept : l.cursor.points.now ≡ l.fn.cursor.points.now;
  state : set_strings_at (mode_view l.mode) (unread l.fn.cursor) ≡ option_map (after (strings_view l.strings)) (set_strings_at (mode_view l.mode) (unread l.cursor));
}

abbrev pub decreases-loop-strings : goal.decreases-loop-strings
decreases-loop-strings l = length (unread l.cursor)
