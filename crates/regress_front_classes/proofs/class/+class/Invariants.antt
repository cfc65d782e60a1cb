use Rattle.std.proofs.Common.{◌≡◌, ◌+◌, ◌-◌, ◌*◌, ◌≤◌, length, map, fold, option_map}
use Rattle.regress_meaning.specs.Class.{intersection, difference}
use Rattle.regress_meaning.specs.Limits.{class_depth}
use Rattle.regress_meaning.specs.ReadingClass.{union_from, union_at, intersection_at, difference_at}
use Rattle.regress_front_tokens.specs.Escapes.{mode_view}
use Rattle.regress_front_tokens.specs.Trees.{class_view, union_of}
use Rattle.regress_front_classes.specs.Classes.{item_view}
use Rattle.regress_front_tokens.specs.Cursors.{unread}
use Rattle.regress_front_classes.proofs.ClassLemmas.{before}
use Rattle.regress_front_classes.proofs.class.+class.Given as goal

-- The measure of the calls is the room that the limit on nesting leaves, so that limit bounds how deep they go.
abbrev pub decreases-bracketed : goal.decreases-bracketed
decreases-bracketed l = 5 * (256 - l.nesting)

abbrev pub decreases-set_operand : goal.decreases-set_operand
decreases-set_operand l = 5 * (256 - l.nesting) + 1

abbrev pub decreases-set_union : goal.decreases-set_union
decreases-set_union l = 5 * (256 - l.nesting) + 2

abbrev pub decreases-set_intersection : goal.decreases-set_intersection
decreases-set_intersection l = 5 * (256 - l.nesting) + 2

abbrev pub decreases-set_difference : goal.decreases-set_difference
decreases-set_difference l = 5 * (256 - l.nesting) + 2

abbrev pub decreases-set_contents : goal.decreases-set_contents
decreases-set_contents l = 5 * (256 - l.nesting) + 3

abbrev pub decreases-class_contents : goal.decreases-class_contents
decreases-class_contents l = 5 * (256 - l.nesting) + 4

-- what is read from the beginning on is what was read so far and what is read from here on
abbrev pub invariant-set_union-loop-cursor : goal.invariant-set_union-loop-cursor
invariant-set_union-loop-cursor l = record {
  kept : l.cursor.points.now ≡ l.fn.cursor.points.now;
  progress : length (unread l.cursor) ≤ length (unread l.fn.cursor);
  shallow : class_depth (union_of (map class_view l.members.items)) ≤ 256 - l.nesting;
  state : union_from (mode_view l.mode) (union_at (mode_view l.mode)) (item_view l.fn.first) (unread l.fn.cursor) ≡ option_map (before (map class_view l.members.items)) (union_at (mode_view l.mode) (unread l.cursor));
}

abbrev pub decreases-set_union-loop-cursor : goal.decreases-set_union-loop-cursor
decreases-set_union-loop-cursor l = length (unread l.cursor)

-- what is joined from the beginning on is what is joined from here on behind what was joined so far
abbrev pub invariant-set_intersection-loop-alloc : goal.invariant-set_intersection-loop-alloc
invariant-set_intersection-loop-alloc l = record {
  kept : l.cursor.points.now ≡ l.fn.cursor.points.now;
  progress : length (unread l.cursor) ≤ length (unread l.fn.cursor);
  shallow : l.nesting + class_depth (fold intersection (class_view l.first.value) (map class_view l.others.items)) ≤ 256;
  state : intersection_at (mode_view l.mode) (class_view l.fn.first.value) (unread l.fn.cursor) ≡ intersection_at (mode_view l.mode) (fold intersection (class_view l.first.value) (map class_view l.others.items)) (unread l.cursor);
}

abbrev pub decreases-set_intersection-loop-alloc : goal.decreases-set_intersection-loop-alloc
decreases-set_intersection-loop-alloc l = length (unread l.cursor)

abbrev pub invariant-set_difference-loop-alloc : goal.invariant-set_difference-loop-alloc
invariant-set_difference-loop-alloc l = record {
  kept : l.cursor.points.now ≡ l.fn.cursor.points.now;
  progress : length (unread l.cursor) ≤ length (unread l.fn.cursor);
  shallow : l.nesting + class_depth (fold difference (class_view l.first.value) (map class_view l.others.items)) ≤ 256;
  state : difference_at (mode_view l.mode) (class_view l.fn.first.value) (unread l.fn.cursor) ≡ difference_at (mode_view l.mode) (fold difference (class_view l.first.value) (map class_view l.others.items)) (unread l.cursor);
}

abbrev pub decreases-set_difference-loop-alloc : goal.decreases-set_difference-loop-alloc
decreases-set_difference-loop-alloc l = length (unread l.cursor)
