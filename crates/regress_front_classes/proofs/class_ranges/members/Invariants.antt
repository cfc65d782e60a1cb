use Rattle.std.proofs.Common.{◌≡◌, length, map, option_map}
use Rattle.regress_front_tokens.specs.Escapes.{mode_view}
use Rattle.regress_front_tokens.specs.Trees.{class_view}
use Rattle.regress_front_classes.specs.Classes.{members_at}
use Rattle.regress_front_tokens.specs.Cursors.{unread}
use Rattle.regress_front_classes.proofs.ClassLemmas.{before}
use Rattle.regress_front_classes.proofs.class_ranges.members.Given as goal

-- what is read from the beginning on is what was read so far and what is read from here on
abbrev pub invariant-loop-alloc : goal.invariant-loop-alloc
invariant-loop-alloc l = record {
  kept : l.cursor.points.now ≡ l.fn.cursor.points.now;
  state : members_at (mode_view l.mode) (unread l.fn.cursor) ≡ option_map (before (map class_view l.members.items)) (members_at (mode_view l.mode) (unread l.cursor));
}

abbrev pub decreases-loop-alloc : goal.decreases-loop-alloc
decreases-loop-alloc l = length (unread l.cursor)
