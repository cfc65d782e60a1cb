use Rattle.std.proofs.Common.{◌≡◌, ◌+◌, ◌-◌, ◌≤◌, false, ◌&&◌, Some, length, ℕ, suc, List, [], ◌∷◌, ◌++◌, map, drop, option_map, Err, refl, sym, ap, ◌∙◌, subst, arith, length-drop, le_refl}
use Rattle.std.proofs.Math.Nat.{max-le}
use Rattle.std.proofs.lemmas.Bool.{and_from}
use Rattle.std.proofs.lemmas.List.{map-append}
use Rattle.std.proofs.lemmas.Result.{err_from_is_err_and}
use Rattle.regress_meaning.specs.Class.{Class, intersection, difference, may_hold_strings}
use Rattle.regress_meaning.specs.Limits.{class_depth}
use Rattle.regress_meaning.specs.Reading.{class_opening}
use Rattle.regress_meaning.specs.ReadingClass.{any_class, union_from, operand_at, contents_at, union_at, intersection_at, difference_at, read_class}
use Rattle.regress_front_tokens.specs.Escapes.{mode_view}
use Rattle.regress_front_tokens.specs.Trees.{class_view}
use Rattle.regress_front_classes.specs.Classes.{boxed_view, item_view, item_depth, members_at}
use Rattle.regress_front_classes.specs.Nesting.{IsBracketAnswer}
use Rattle.regress_front_tokens.specs.Cursors.{unread}
use Rattle.regress_front_tokens.proofs.ClassViews.{class_view-Union, class_view-Intersection, class_view-Difference}
use Rattle.regress_front_classes.proofs.ClassLemmas.{before, before-alone, before-closed}
use Rattle.regress_front_classes.proofs.ContentsLemmas.{rests-there, rests-before, IsNested-stopped, IsNested-there, IsNested-flat, fewer, union_from-is, union_of-depth, member-shallow, union-closes, union-more, union-rests, intersection-refused, intersection-more, intersection-ends, intersection-part, difference-refused, difference-more, difference-ends, difference-part, both_marks, no_marks, third_mark, fold-push, joined-shallow, pushed-shallow, contents-rests, contents-intersection, contents-difference, contents-union, off-right, opened-refused, opened-single, class-members, class-rests, class-closed, opening-is, eaten-less, operand-nested, bracket-refused, opening-refused, opening-too_deep}
use Rattle.regress_front_classes.proofs.class.+class.Goals as goal
use Rattle.regress_front_classes.proofs.class.+class.Goals.{bracketed-else-negated-via-then-negated+else-may_hold_strings, bracketed-else-negated-via-else-negated, set_intersection-then-not-eat_pair-via-then-not-eat_pair, set_intersection-then-not-eat_pair-via-else-not-eat_pair+then-is_at}

-- brackets

pub bracketed-returns-then-nesting-eq-MAX_NESTING_DEPTH-clause-read :
    goal.bracketed-returns-then-nesting-eq-MAX_NESTING_DEPTH-clause-read
bracketed-returns-then-nesting-eq-MAX_NESTING_DEPTH-clause-read t c =
    opening-too_deep (mode_view c.args.mode.now) (unread c.args.cursor.now) c.args.nesting [] c.if-nesting-eq-MAX_NESTING_DEPTH.true

pub bracketed-returns-in_err-class-clause-read : goal.bracketed-returns-in_err-class-clause-read
bracketed-returns-in_err-class-clause-read t c =
    let m = mode_view c.args.mode.now in
    let from = unread c.args.cursor.now in
    let u = unread c.eat-negated.new.self in
    let r = unread c.class_contents.new.cursor in
    let opens = opening-is m from u c.eat-negated.result c.eat-negated.ensures.found c.eat-negated.ensures.read in
    let p = err_from_is_err_and c.from_residual.result c.from_residual.ensures.1 in
    rw (p.1, p.2) (opening-refused m from u c.eat-negated.result c.args.nesting c.in_err-class.field-0.0 r r opens
    (fewer c.args.cursor.now c.eat-negated.new.self c.eat-negated.ensures.kept (eaten-less c.eat-negated.result from u c.eat-negated.ensures.read))
    c.in_err-class.ensures.read)

pub bracketed-returns-then-may_hold_strings-clause-read :
    goal.bracketed-returns-then-may_hold_strings-clause-read
bracketed-returns-then-may_hold_strings-clause-read t c =
    let m = mode_view c.args.mode.now in
    let u = unread c.eat-negated.new.self in
    let both = and_from c.eat-negated.result (may_hold_strings (boxed_view c.in_ok-class.class)) c.if-negated.true (ap (λ s. may_hold_strings (class_view s)) (sym c.deref.ensures) ∙ sym c.may_hold_strings.ensures ∙ c.if-may_hold_strings.true) in
    opening-is m (unread c.args.cursor.now) u c.eat-negated.result c.eat-negated.ensures.found c.eat-negated.ensures.read
    ∙ opened-refused c.eat-negated.result (read_class m u) (boxed_view c.in_ok-class.class) (unread c.class_contents.new.cursor) c.in_ok-class.ensures.read.0 both

pub bracketed-returns-clause-read : goal.bracketed-returns-clause-read
bracketed-returns-clause-read t c =
    let m = mode_view c.args.mode.now in
    let u = unread c.eat-negated.new.self in
    let not_both : (c.eat-negated.result && may_hold_strings (boxed_view c.in_ok-class.class)) ≡ false = elim c.else-negated.branch [
      | bracketed-else-negated-via-then-negated+else-may_hold_strings w ↦ off-right c.eat-negated.result (may_hold_strings (boxed_view c.in_ok-class.class)) (ap (λ s. may_hold_strings (class_view s)) (sym w.deref.ensures) ∙ sym w.may_hold_strings.ensures ∙ w.if-may_hold_strings.false)
      | bracketed-else-negated-via-else-negated w ↦ ap (λ b. b && may_hold_strings (boxed_view c.in_ok-class.class)) w.if-negated.false
    ] in (
      opening-is m (unread c.args.cursor.now) u c.eat-negated.result c.eat-negated.ensures.found c.eat-negated.ensures.read
          ∙ opened-single c.eat-negated.result (read_class m u) (boxed_view c.in_ok-class.class) (unread c.class_contents.new.cursor) c.in_ok-class.ensures.read.0 not_both,
      omega (arith, c.in_ok-class.ensures.read.1),
    )

-- what stands behind them

pub class_contents-returns-then-not-mode-clause-read : goal.class_contents-returns-then-not-mode-clause-read
class_contents-returns-then-not-mode-clause-read t c =
    let m = mode_view c.args.mode.now in
    let from = unread c.args.cursor.now in
    IsNested-flat boxed_view class_depth c.args.nesting (read_class m) (members_at m) from from c.boxed_members.result (unread c.boxed_members.new.cursor)
    (class-members m from c.if-not-mode.true) c.requires.shallow (λ s q e. (c.contents_go_by_steps.ensures m from).members_flat (suc (length from)) s q e) c.boxed_members.ensures.read

pub class_contents-returns-in_err-class-clause-read : goal.class_contents-returns-in_err-class-clause-read
class_contents-returns-in_err-class-clause-read t c =
    let m = mode_view c.args.mode.now in
    let from = unread c.args.cursor.now in
    let r = unread c.set_contents.new.cursor in
    let p = err_from_is_err_and c.from_residual.result c.from_residual.ensures.1 in
    rw (p.1, p.2) (IsNested-stopped boxed_view class_depth boxed_view class_depth c.args.nesting (contents_at m) (read_class m) from from r r c.in_err-class.field-0.0
    (class-rests m from c.if-not-mode.false) (le_refl _) c.in_err-class.ensures.read)

pub class_contents-returns-clause-read : goal.class_contents-returns-clause-read
class_contents-returns-clause-read t c =
    let m = mode_view c.args.mode.now in
    let r = unread c.set_contents.new.cursor in
    let s = boxed_view c.in_ok-class.class in (
      class-closed m (unread c.args.cursor.now) s r c.if-not-mode.false c.in_ok-class.ensures.read.0 c.in_ok-class.ensures.ended ∙ ap (λ (v : List ℕ). Some (s, v)) (sym c.bump.ensures.read),
      c.in_ok-class.ensures.read.1,
    )

-- contents

pub set_contents-returns-in_err-first-clause-read :
    goal.set_contents-returns-in_err-first-clause-read
set_contents-returns-in_err-first-clause-read t c =
    let m = mode_view c.args.mode.now in
    let from = unread c.args.cursor.now in
    let r = unread c.set_operand.new.cursor in
    let p = err_from_is_err_and c.from_residual-in_err-first.result c.from_residual-in_err-first.ensures.1 in
    rw (p.1, p.2) (IsNested-stopped item_view item_depth boxed_view class_depth c.args.nesting (operand_at m) (contents_at m) from from r r c.in_err-first.field-0.0
    (contents-rests m from (c.contents_go_by_steps.ensures m from) (sym c.is_at.ensures ∙ c.if-is_at.false)) (le_refl _) c.in_err-first.ensures.read)

pub set_contents-returns-then-is_at_pair-clause-read :
    goal.set_contents-returns-then-is_at_pair-clause-read
set_contents-returns-then-is_at_pair-clause-read t c =
    let m = mode_view c.args.mode.now in
    let from = unread c.args.cursor.now in
    let u = unread c.set_operand.new.cursor in
    let i = item_view c.in_ok-first.first in
    let steps = c.contents_go_by_steps.ensures m from in
    let read = c.in_ok-first.ensures.read.0 in
    let less = steps.operand_less i u read in
    IsNested-there boxed_view class_depth c.args.nesting (contents_at m) (intersection_at m (class_view c.in_ok-first-2.first.value)) from u c.set_intersection.result (unread c.set_intersection.new.cursor)
    (contents-intersection m from steps i u (sym c.is_at.ensures ∙ c.if-is_at.false) read (sym c.is_at_pair.ensures ∙ c.if-is_at_pair.true) ∙ ap (λ a. intersection_at m a u) (sym c.in_ok-first-2.ensures))
    (fewer c.args.cursor.now c.set_operand.new.cursor c.set_operand.ensures.kept (omega (arith, less)))
    c.set_intersection.ensures.read

pub set_contents-returns-then-is_at_pair-2-clause-read :
    goal.set_contents-returns-then-is_at_pair-2-clause-read
set_contents-returns-then-is_at_pair-2-clause-read t c =
    let m = mode_view c.args.mode.now in
    let from = unread c.args.cursor.now in
    let u = unread c.set_operand.new.cursor in
    let i = item_view c.in_ok-first.first in
    let steps = c.contents_go_by_steps.ensures m from in
    let read = c.in_ok-first.ensures.read.0 in
    let less = steps.operand_less i u read in
    IsNested-there boxed_view class_depth c.args.nesting (contents_at m) (difference_at m (class_view c.in_ok-first-3.first.value)) from u c.set_difference.result (unread c.set_difference.new.cursor)
    (contents-difference m from steps i u (sym c.is_at.ensures ∙ c.if-is_at.false) read (sym c.is_at_pair.ensures ∙ c.if-is_at_pair.false) (sym c.is_at_pair-2.ensures ∙ c.if-is_at_pair-2.true)
    ∙ ap (λ a. difference_at m a u) (sym c.in_ok-first-3.ensures))
    (fewer c.args.cursor.now c.set_operand.new.cursor c.set_operand.ensures.kept (omega (arith, less)))
    c.set_difference.ensures.read

pub set_contents-returns-clause-read : goal.set_contents-returns-clause-read
set_contents-returns-clause-read t c =
    let m = mode_view c.args.mode.now in
    let from = unread c.args.cursor.now in
    let u = unread c.set_operand.new.cursor in
    let i = item_view c.in_ok-first.first in
    let steps = c.contents_go_by_steps.ensures m from in
    let read = c.in_ok-first.ensures.read.0 in
    let less = steps.operand_less i u read in
    IsNested-there boxed_view class_depth c.args.nesting (contents_at m) (union_from m (union_at m) i) from u c.set_union.result (unread c.set_union.new.cursor)
    (contents-union m from steps i u (sym c.is_at.ensures ∙ c.if-is_at.false) read (sym c.is_at_pair.ensures ∙ c.if-is_at_pair.false) (sym c.is_at_pair-2.ensures ∙ c.if-is_at_pair-2.false))
    (fewer c.args.cursor.now c.set_operand.new.cursor c.set_operand.ensures.kept (omega (arith, less)))
    c.set_union.ensures.read

-- what is joined

pub set_difference-returns-then-not-eat_pair-clause-read :
    goal.set_difference-returns-then-not-eat_pair-clause-read
set_difference-returns-then-not-eat_pair-clause-read t c =
    let m = mode_view c.args.mode.now in
    let now = unread c.loop-alloc.cursor in
    let steps = c.contents_go_by_steps.ensures m now in
    c.loop-alloc.invariant.state ∙ difference-refused m now steps _ (sym c.eat_pair.ensures.found ∙ c.if-not-eat_pair.true)

pub set_difference-returns-in_err-next-clause-read :
    goal.set_difference-returns-in_err-next-clause-read
set_difference-returns-in_err-next-clause-read t c =
    let m = mode_view c.args.mode.now in
    let now = unread c.loop-alloc.cursor in
    let steps = c.contents_go_by_steps.ensures m now in
    let eaten = c.if-not-eat_pair.ensures.read in
    let two = sym c.eat_pair.ensures.found ∙ c.if-not-eat_pair.false in
    let from = unread c.args.cursor.now in
    let u = unread c.eat_pair.new.cursor in
    let r = unread c.set_operand.new.cursor in
    let less : length u ≤ length from = omega (arith, ap length eaten, length-drop 2 now, c.loop-alloc.invariant.progress) in
    let p = err_from_is_err_and c.from_residual.result c.from_residual.ensures.1 in
    rw (p.1, p.2) (IsNested-stopped item_view item_depth boxed_view class_depth c.args.nesting (operand_at m) (difference_at m (class_view c.args.first.value)) from u r r c.in_err-next.field-0.0
    (difference-part m now steps _ (difference_at m (class_view c.args.first.value) from) u c.loop-alloc.invariant.state eaten two)
    (fewer c.args.cursor.now c.eat_pair.new.cursor (c.eat_pair.ensures.kept ∙ c.loop-alloc.invariant.kept) less)
    c.in_err-next.ensures.read)

pub set_difference-loop-alloc-preserved : goal.set_difference-loop-alloc-preserved
set_difference-loop-alloc-preserved t c =
    let m = mode_view c.args.mode.now in
    let now = unread c.loop-alloc.cursor in
    let steps = c.contents_go_by_steps.ensures m now in
    let eaten = c.if-not-eat_pair.ensures.read in
    let two = sym c.eat_pair.ensures.found ∙ c.if-not-eat_pair.false in
    let u = unread c.set_operand.new.cursor in
    let i = item_view c.in_ok-next.next in
    let read = ap (operand_at m) (sym eaten) ∙ c.in_ok-next.ensures.read.0 in
    let less = (c.contents_go_by_steps.ensures m (drop 2 now)).operand_less i u read in
    record {
      kept = c.set_operand.ensures.kept ∙ c.eat_pair.ensures.kept ∙ c.loop-alloc.invariant.kept;
      progress = omega (arith, less, length-drop 2 now, c.loop-alloc.invariant.progress);
      shallow = pushed-shallow difference _ _ _ _ _ c.args.nesting (λ a b. refl) c.in_ok-push.ensures c.into_class.ensures c.loop-alloc.invariant.shallow c.in_ok-next.ensures.read.1;
      state = c.loop-alloc.invariant.state ∙ difference-more m now steps _ i u two read (sym c.is_at.ensures ∙ c.if-is_at.false)
          ∙ ap (λ a. difference_at m a u) (sym (fold-push difference _ _ _ _ _ c.in_ok-push.ensures c.into_class.ensures));
    }

pub set_difference-returns-clause-read : goal.set_difference-returns-clause-read
set_difference-returns-clause-read t c =
    let m = mode_view c.args.mode.now in
    let now = unread c.loop-alloc.cursor in
    let steps = c.contents_go_by_steps.ensures m now in
    let eaten = c.if-not-eat_pair.ensures.read in
    let two = sym c.eat_pair.ensures.found ∙ c.if-not-eat_pair.false in
    let u = unread c.set_operand.new.cursor in
    let i = item_view c.in_ok-next.next in
    let read = ap (operand_at m) (sym eaten) ∙ c.in_ok-next.ensures.read.0 in
    let made = ap class_view c.in_ok-in_box.ensures ∙ class_view-Difference c.args.first c.push.new.classes
    ∙ fold-push difference _ _ _ _ _ c.in_ok-push.ensures c.into_class.ensures in (
      c.loop-alloc.invariant.state ∙ difference-ends m now steps _ i u two read (sym c.is_at.ensures ∙ c.if-is_at.true) ∙ ap (λ (a : Class). Some (a, u)) (sym made),
      subst (λ (a : Class). c.args.nesting + class_depth a ≤ 256) (sym made) (joined-shallow c.args.nesting _ (item_depth i) c.loop-alloc.invariant.shallow c.in_ok-next.ensures.read.1),
    )

pub set_intersection-returns-then-not-eat_pair-clause-read :
    goal.set_intersection-returns-then-not-eat_pair-clause-read
set_intersection-returns-then-not-eat_pair-clause-read t c =
    let m = mode_view c.args.mode.now in
    let now = unread c.loop-alloc.cursor in
    let steps = c.contents_go_by_steps.ensures m now in
    elim c.then-not-eat_pair.branch [
      | set_intersection-then-not-eat_pair-via-then-not-eat_pair w ↦
          c.loop-alloc.invariant.state ∙ intersection-refused m now steps _ (no_marks now (sym c.eat_pair.ensures.found ∙ w.if-not-eat_pair.true))
      | set_intersection-then-not-eat_pair-via-else-not-eat_pair+then-is_at w ↦
          c.loop-alloc.invariant.state ∙ intersection-refused m now steps _
          (third_mark now (unread c.eat_pair.new.cursor) (sym c.eat_pair.ensures.found ∙ w.if-not-eat_pair.false) w.if-not-eat_pair.ensures.read (sym w.is_at.ensures ∙ w.if-is_at.true))
    ]

pub set_intersection-returns-in_err-next-clause-read :
    goal.set_intersection-returns-in_err-next-clause-read
set_intersection-returns-in_err-next-clause-read t c =
    let m = mode_view c.args.mode.now in
    let now = unread c.loop-alloc.cursor in
    let steps = c.contents_go_by_steps.ensures m now in
    let eaten = c.if-not-eat_pair.ensures.read in
    let two = both_marks now (unread c.eat_pair.new.cursor) (sym c.eat_pair.ensures.found ∙ c.if-not-eat_pair.false) eaten (sym c.is_at.ensures ∙ c.if-is_at.false) in
    let from = unread c.args.cursor.now in
    let u = unread c.eat_pair.new.cursor in
    let r = unread c.set_operand.new.cursor in
    let less : length u ≤ length from = omega (arith, ap length eaten, length-drop 2 now, c.loop-alloc.invariant.progress) in
    let p = err_from_is_err_and c.from_residual.result c.from_residual.ensures.1 in
    rw (p.1, p.2) (IsNested-stopped item_view item_depth boxed_view class_depth c.args.nesting (operand_at m) (intersection_at m (class_view c.args.first.value)) from u r r c.in_err-next.field-0.0
    (intersection-part m now steps _ (intersection_at m (class_view c.args.first.value) from) u c.loop-alloc.invariant.state eaten two)
    (fewer c.args.cursor.now c.eat_pair.new.cursor (c.eat_pair.ensures.kept ∙ c.loop-alloc.invariant.kept) less)
    c.in_err-next.ensures.read)

pub set_intersection-loop-alloc-preserved : goal.set_intersection-loop-alloc-preserved
set_intersection-loop-alloc-preserved t c =
    let m = mode_view c.args.mode.now in
    let now = unread c.loop-alloc.cursor in
    let steps = c.contents_go_by_steps.ensures m now in
    let eaten = c.if-not-eat_pair.ensures.read in
    let two = both_marks now (unread c.eat_pair.new.cursor) (sym c.eat_pair.ensures.found ∙ c.if-not-eat_pair.false) eaten (sym c.is_at.ensures ∙ c.if-is_at.false) in
    let u = unread c.set_operand.new.cursor in
    let i = item_view c.in_ok-next.next in
    let read = ap (operand_at m) (sym eaten) ∙ c.in_ok-next.ensures.read.0 in
    let less = (c.contents_go_by_steps.ensures m (drop 2 now)).operand_less i u read in
    record {
      kept = c.set_operand.ensures.kept ∙ c.eat_pair.ensures.kept ∙ c.loop-alloc.invariant.kept;
      progress = omega (arith, less, length-drop 2 now, c.loop-alloc.invariant.progress);
      shallow = pushed-shallow intersection _ _ _ _ _ c.args.nesting (λ a b. refl) c.in_ok-push.ensures c.into_class.ensures c.loop-alloc.invariant.shallow c.in_ok-next.ensures.read.1;
      state = c.loop-alloc.invariant.state ∙ intersection-more m now steps _ i u two read (sym c.is_at-in-loop-alloc.ensures ∙ c.if-is_at-2.false)
          ∙ ap (λ a. intersection_at m a u) (sym (fold-push intersection _ _ _ _ _ c.in_ok-push.ensures c.into_class.ensures));
    }

pub set_intersection-returns-clause-read : goal.set_intersection-returns-clause-read
set_intersection-returns-clause-read t c =
    let m = mode_view c.args.mode.now in
    let now = unread c.loop-alloc.cursor in
    let steps = c.contents_go_by_steps.ensures m now in
    let eaten = c.if-not-eat_pair.ensures.read in
    let two = both_marks now (unread c.eat_pair.new.cursor) (sym c.eat_pair.ensures.found ∙ c.if-not-eat_pair.false) eaten (sym c.is_at.ensures ∙ c.if-is_at.false) in
    let u = unread c.set_operand.new.cursor in
    let i = item_view c.in_ok-next.next in
    let read = ap (operand_at m) (sym eaten) ∙ c.in_ok-next.ensures.read.0 in
    let made = ap class_view c.in_ok-in_box.ensures ∙ class_view-Intersection c.args.first c.push.new.classes
    ∙ fold-push intersection _ _ _ _ _ c.in_ok-push.ensures c.into_class.ensures in (
      c.loop-alloc.invariant.state ∙ intersection-ends m now steps _ i u two read (sym c.is_at-in-loop-alloc.ensures ∙ c.if-is_at-2.true) ∙ ap (λ (a : Class). Some (a, u)) (sym made),
      subst (λ (a : Class). c.args.nesting + class_depth a ≤ 256) (sym made) (joined-shallow c.args.nesting _ (item_depth i) c.loop-alloc.invariant.shallow c.in_ok-next.ensures.read.1),
    )

-- operands

pub set_operand-returns-in_err-negated-clause-read :
    goal.set_operand-returns-in_err-negated-clause-read
set_operand-returns-in_err-negated-clause-read t c =
    let m = mode_view c.args.mode.now in
    let from = unread c.args.cursor.now in
    let r = unread c.bracketed.new.cursor in
    let p = err_from_is_err_and c.from_residual.result c.from_residual.ensures.1 in
    rw (p.1, p.2) (bracket-refused m from (c.contents_go_by_steps.ensures m from) c.requires.sets (sym c.eat.ensures.found ∙ c.if-eat.true) c.args.nesting c.in_err-negated.field-0.0 r r
    (subst (λ u. IsBracketAnswer c.args.nesting m u (Err c.in_err-negated.field-0.0) r) c.if-eat.ensures.read c.in_err-negated.ensures.read))

pub set_operand-returns-then-eat-clause-read : goal.set_operand-returns-then-eat-clause-read
set_operand-returns-then-eat-clause-read t c =
    let m = mode_view c.args.mode.now in
    let from = unread c.args.cursor.now in
    let r = unread c.bracketed.new.cursor in
    let n = c.in_ok-negated.negated in
    let made = c.in_ok-class.ensures in (
      operand-nested m from (c.contents_go_by_steps.ensures m from) c.requires.sets (sym c.eat.ensures.found ∙ c.if-eat.true) n (boxed_view c.in_ok-negated.contents) r
          (ap (class_opening m) (sym c.if-eat.ensures.read) ∙ c.in_ok-negated.ensures.read.0)
          ∙ ap (λ (k : Class). Some (any_class k, r)) (sym made),
      subst (λ (k : Class). c.args.nesting + class_depth k ≤ 256) (sym made) (omega (arith, c.in_ok-negated.ensures.read.1)),
    )

-- unions

pub set_union-loop-cursor-init : goal.set_union-loop-cursor-init
set_union-loop-cursor-init t c =
    let m = mode_view c.args.mode.now in
    let from = unread c.args.cursor.now in
    let u = unread c.set_range.new.cursor in
    let i = item_view c.args.first in
    let a = class_view c.in_ok-member.member in
    let less = (c.contents_go_by_steps.ensures m from).range_less i a u c.in_ok-member.ensures.read in
    let items = c.in_ok-push.ensures ∙ ap (λ xs. xs ++ c.in_ok-member.member ∷ []) c.new-members.ensures.items in
    let deep = member-shallow m i from a u c.args.nesting c.in_ok-member.ensures.read c.requires.deep in
    record {
      kept = c.set_range.ensures.kept;
      progress = omega (arith, less);
      shallow = rw items (max-le {a = class_depth a} {b = 0} {k = 256 - c.args.nesting} (omega (arith, deep)) (omega arith));
      state = rw items (union_from-is m (union_at m) i from u a c.in_ok-member.ensures.read);
    }

pub set_union-returns-in_err-item-clause-read : goal.set_union-returns-in_err-item-clause-read
set_union-returns-in_err-item-clause-read t c =
    let m = mode_view c.args.mode.now in
    let from = unread c.args.cursor.now in
    let now = unread c.loop-cursor.cursor in
    let r = unread c.set_operand.new.cursor in
    let p = err_from_is_err_and c.from_residual-in_err-item.result c.from_residual-in_err-item.ensures.1 in
    rw (p.1, p.2) (IsNested-stopped item_view item_depth boxed_view class_depth c.args.nesting (operand_at m) (union_from m (union_at m) (item_view c.args.first)) from now r r c.in_err-item.field-0.0
    (rests-there c.loop-cursor.invariant.state (rests-before (map class_view c.loop-cursor.members.items) (union-rests m now (c.contents_go_by_steps.ensures m now) (sym c.is_at.ensures ∙ c.loop-cursor-test.true))))
    (fewer c.args.cursor.now c.loop-cursor.cursor c.loop-cursor.invariant.kept c.loop-cursor.invariant.progress)
    c.in_err-item.ensures.read)

pub set_union-loop-cursor-smaller : goal.set_union-loop-cursor-smaller
set_union-loop-cursor-smaller t c =
    let m = mode_view c.args.mode.now in
    let now = unread c.loop-cursor.cursor in
    let u = unread c.set_operand.new.cursor in
    let i = item_view c.in_ok-item.item in
    let less = (c.contents_go_by_steps.ensures m now).operand_less i u c.in_ok-item.ensures.read.0 in
    let no_more = (c.contents_go_by_steps.ensures m u).range_less i (class_view c.in_ok-member-2.member) (unread c.set_range-in-loop-cursor.new.cursor) c.in_ok-member-2.ensures.read in
    omega (arith, less, no_more)

pub set_union-loop-cursor-preserved : goal.set_union-loop-cursor-preserved
set_union-loop-cursor-preserved t c =
    let m = mode_view c.args.mode.now in
    let now = unread c.loop-cursor.cursor in
    let u = unread c.set_operand.new.cursor in
    let v = unread c.set_range-in-loop-cursor.new.cursor in
    let i = item_view c.in_ok-item.item in
    let a = class_view c.in_ok-member-2.member in
    let ks = map class_view c.loop-cursor.members.items in
    let read = c.in_ok-item.ensures.read.0 in
    let less = (c.contents_go_by_steps.ensures m now).operand_less i u read in
    let no_more = (c.contents_go_by_steps.ensures m u).range_less i a v c.in_ok-member-2.ensures.read in
    let deep = member-shallow m i u a v c.args.nesting c.in_ok-member-2.ensures.read c.in_ok-item.ensures.read.1 in
    record {
      kept = c.set_range-in-loop-cursor.ensures.kept ∙ c.set_operand.ensures.kept ∙ c.loop-cursor.invariant.kept;
      progress = omega (arith, less, no_more, c.loop-cursor.invariant.progress);
      shallow = rw (c.in_ok-push-2.ensures, map-append) (union_of-depth ks a (256 - c.args.nesting) c.loop-cursor.invariant.shallow (omega (arith, deep)));
      state = rw (c.in_ok-push-2.ensures, map-append)
          (c.loop-cursor.invariant.state
          ∙ ap (option_map (before ks)) (union-more m now (c.contents_go_by_steps.ensures m now) i u v a (sym c.is_at.ensures ∙ c.loop-cursor-test.true) read c.in_ok-member-2.ensures.read)
          ∙ before-alone ks a (union_at m v));
    }

pub set_union-returns-clause-read : goal.set_union-returns-clause-read
set_union-returns-clause-read t c =
    let m = mode_view c.args.mode.now in
    let now = unread c.loop-cursor.cursor in
    let made = ap class_view c.in_ok-boxed_union.ensures in
    let closes = union-closes m now (c.contents_go_by_steps.ensures m now) (sym c.is_at.ensures ∙ c.loop-cursor-test.false) in (
      c.loop-cursor.invariant.state ∙ before-closed c.loop-cursor.members (union_at m now) now closes ∙ ap (λ (k : Class). Some (k, now)) (sym made),
      subst (λ (k : Class). c.args.nesting + class_depth k ≤ 256) (sym (made ∙ class_view-Union c.loop-cursor.members)) (omega (arith, c.loop-cursor.invariant.shallow, c.requires.shallow)),
    )
