use Rattle.std.proofs.Common.{◌≡◌, false, true, drop, map, option_map, refl, sym, ap, ◌∙◌, length-drop, arith}
use Rattle.std.proofs.lemmas.List.{map-append}
use Rattle.std.proofs.lemmas.Result.{err_from_is_err_and}
use Rattle.regress_meaning.specs.Grammar.{member_class}
use Rattle.regress_meaning.specs.ReadingClass.{read_member, closes_class}
use Rattle.regress_front_tokens.specs.Escapes.{mode_view, escape_view}
use Rattle.regress_front_tokens.specs.Trees.{class_view}
use Rattle.regress_front_classes.specs.Classes.{members_at}
use Rattle.regress_front_tokens.specs.Cursors.{unread}
use Rattle.regress_front_classes.proofs.ClassLemmas.{before, before-none, before-alone, before-dashed, before-closed, dashed-refused, read_member-shorter, members_at-none, members_at-no_second, members_at-alone, members_at-dashed, members_at-closed, IsRead-stopped, AddsDashed-stopped}
use Rattle.regress_front_classes.proofs.class_ranges.members.Goals as goal

pub loop-alloc-init : goal.loop-alloc-init
loop-alloc-init c = record {
  kept = refl;
  state = rw c.new-members.ensures.items (before-none (members_at (mode_view c.args.mode.now) (unread c.args.cursor.now)));
}

pub returns-in_err-first-clause-read : goal.returns-in_err-first-clause-read
returns-in_err-first-clause-read c =
    let m = mode_view c.args.mode.now in
    let t = unread c.loop-alloc.cursor in
    let goes_on : closes_class t ≡ false = sym c.eat.ensures.found ∙ c.loop-alloc-test.true in
    let same : unread c.eat.new.self ≡ t = c.loop-alloc-test.ensures.read in
    let p = err_from_is_err_and c.from_residual.result c.from_residual.ensures.1 in
    rw (p.1, p.2) (IsRead-stopped escape_view class_view (read_member m) (members_at m) (unread c.args.cursor.now) (unread c.eat.new.self) (unread c.member.new.cursor) (unread c.member.new.cursor) c.in_err-first.field-0.0
    (λ none. c.loop-alloc.invariant.state ∙ ap (option_map (before (map class_view c.loop-alloc.members.items))) (members_at-none m t goes_on (ap (read_member m) (sym same) ∙ none)))
    c.in_err-first.ensures.read)

pub returns-in_err-first-clause-kept : goal.returns-in_err-first-clause-kept
returns-in_err-first-clause-kept c = c.member.ensures.kept ∙ c.eat.ensures.kept ∙ c.loop-alloc.invariant.kept

pub returns-in_err-last-clause-read : goal.returns-in_err-last-clause-read
returns-in_err-last-clause-read c =
    let m = mode_view c.args.mode.now in
    let t = unread c.loop-alloc.cursor in
    let goes_on : closes_class t ≡ false = sym c.eat.ensures.found ∙ c.loop-alloc-test.true in
    let same : unread c.eat.new.self ≡ t = c.loop-alloc-test.ensures.read in
    let dash = sym c.is_before_member.ensures ∙ c.if-is_before_member.true in
    let p = err_from_is_err_and c.from_residual-in_err-last.result c.from_residual-in_err-last.ensures.1 in
    rw (p.1, p.2) (IsRead-stopped escape_view class_view (read_member m) (members_at m) (unread c.args.cursor.now) (unread c.bump.new.self) (unread c.member-then-is_before_member.new.cursor) (unread c.member-then-is_before_member.new.cursor) c.in_err-last.field-0.0
    (λ none. c.loop-alloc.invariant.state ∙ ap (option_map (before (map class_view c.loop-alloc.members.items)))
    (members_at-no_second m t (unread c.member.new.cursor) (escape_view c.in_ok-first.first) goes_on (ap (read_member m) (sym same) ∙ c.in_ok-first.ensures.read) dash (ap (read_member m) (sym c.bump.ensures.read) ∙ none)))
    c.in_err-last.ensures.read)

pub returns-in_err-last-clause-kept : goal.returns-in_err-last-clause-kept
returns-in_err-last-clause-kept c = c.member-then-is_before_member.ensures.kept ∙ c.bump.ensures.kept ∙ c.member.ensures.kept ∙ c.eat.ensures.kept ∙ c.loop-alloc.invariant.kept

pub loop-alloc-smaller-in-Continue-branch-3 : goal.loop-alloc-smaller-in-Continue-branch-3
loop-alloc-smaller-in-Continue-branch-3 c =
    let m = mode_view c.args.mode.now in
    let t = unread c.loop-alloc.cursor in
    let u = unread c.member.new.cursor in
    let same : unread c.eat.new.self ≡ t = c.loop-alloc-test.ensures.read in
    let first = read_member-shorter m (c.reading_leaves_less.ensures m) t (escape_view c.in_ok-first.first) u (ap (read_member m) (sym same) ∙ c.in_ok-first.ensures.read) in
    let last = read_member-shorter m (c.reading_leaves_less.ensures m) (drop 1 u) (escape_view c.in_ok-last.last) (unread c.member-then-is_before_member.new.cursor) (ap (read_member m) (sym c.bump.ensures.read) ∙ c.in_ok-last.ensures.read) in
    omega (arith, first, last, length-drop 1 u)

pub loop-alloc-preserved-in-Continue-branch-3 : goal.loop-alloc-preserved-in-Continue-branch-3
loop-alloc-preserved-in-Continue-branch-3 c =
    let m = mode_view c.args.mode.now in
    let t = unread c.loop-alloc.cursor in
    let u = unread c.member.new.cursor in
    let v = unread c.member-then-is_before_member.new.cursor in
    let d = escape_view c.in_ok-first.first in
    let e = escape_view c.in_ok-last.last in
    let goes_on : closes_class t ≡ false = sym c.eat.ensures.found ∙ c.loop-alloc-test.true in
    let same : unread c.eat.new.self ≡ t = c.loop-alloc-test.ensures.read in
    let dash = sym c.is_before_member.ensures ∙ c.if-is_before_member.true in
    record {
      kept = c.member-then-is_before_member.ensures.kept ∙ c.bump.ensures.kept ∙ c.member.ensures.kept ∙ c.eat.ensures.kept ∙ c.loop-alloc.invariant.kept;
      state = c.loop-alloc.invariant.state
          ∙ ap (option_map (before (map class_view c.loop-alloc.members.items)))
          (members_at-dashed m (c.reading_leaves_less.ensures m) t u v d e goes_on (ap (read_member m) (sym same) ∙ c.in_ok-first.ensures.read) dash (ap (read_member m) (sym c.bump.ensures.read) ∙ c.in_ok-last.ensures.read))
          ∙ before-dashed m d e (map class_view c.loop-alloc.members.items) (map class_view c.push_dashed.new.members.items) (members_at m v) c.in_ok-push_dashed.ensures;
    }

pub returns-in_err-push_dashed-clause-read : goal.returns-in_err-push_dashed-clause-read
returns-in_err-push_dashed-clause-read c =
    let m = mode_view c.args.mode.now in
    let t = unread c.loop-alloc.cursor in
    let u = unread c.member.new.cursor in
    let v = unread c.member-then-is_before_member.new.cursor in
    let d = escape_view c.in_ok-first.first in
    let e = escape_view c.in_ok-last.last in
    let goes_on : closes_class t ≡ false = sym c.eat.ensures.found ∙ c.loop-alloc-test.true in
    let same : unread c.eat.new.self ≡ t = c.loop-alloc-test.ensures.read in
    let dash = sym c.is_before_member.ensures ∙ c.if-is_before_member.true in
    let p = err_from_is_err_and c.from_residual-in_err-push_dashed.result c.from_residual-in_err-push_dashed.ensures.1 in
    rw (p.1, p.2) (AddsDashed-stopped (Unit {0}) m d e c.loop-alloc.members.items c.push_dashed.new.members.items class_view (members_at m) (unread c.args.cursor.now) v c.in_err-push_dashed.field-0.0
    (λ none. c.loop-alloc.invariant.state ∙ ap (option_map (before (map class_view c.loop-alloc.members.items)))
    (members_at-dashed m (c.reading_leaves_less.ensures m) t u v d e goes_on (ap (read_member m) (sym same) ∙ c.in_ok-first.ensures.read) dash (ap (read_member m) (sym c.bump.ensures.read) ∙ c.in_ok-last.ensures.read) ∙ dashed-refused m d e (members_at m v) none))
    c.in_err-push_dashed.ensures)

pub returns-in_err-push_dashed-clause-kept : goal.returns-in_err-push_dashed-clause-kept
returns-in_err-push_dashed-clause-kept c = c.member-then-is_before_member.ensures.kept ∙ c.bump.ensures.kept ∙ c.member.ensures.kept ∙ c.eat.ensures.kept ∙ c.loop-alloc.invariant.kept

pub loop-alloc-smaller : goal.loop-alloc-smaller
loop-alloc-smaller c =
    let m = mode_view c.args.mode.now in
    let t = unread c.loop-alloc.cursor in
    let same : unread c.eat.new.self ≡ t = c.loop-alloc-test.ensures.read in
    read_member-shorter m (c.reading_leaves_less.ensures m) t (escape_view c.in_ok-first.first) (unread c.member.new.cursor) (ap (read_member m) (sym same) ∙ c.in_ok-first.ensures.read)

pub loop-alloc-preserved : goal.loop-alloc-preserved
loop-alloc-preserved c =
    let m = mode_view c.args.mode.now in
    let t = unread c.loop-alloc.cursor in
    let u = unread c.member.new.cursor in
    let d = escape_view c.in_ok-first.first in
    let ks = map class_view c.loop-alloc.members.items in
    let goes_on : closes_class t ≡ false = sym c.eat.ensures.found ∙ c.loop-alloc-test.true in
    let same : unread c.eat.new.self ≡ t = c.loop-alloc-test.ensures.read in
    let alone = sym c.is_before_member.ensures ∙ c.if-is_before_member.false in
    record {
      kept = c.member.ensures.kept ∙ c.eat.ensures.kept ∙ c.loop-alloc.invariant.kept;
      state = rw (c.in_ok-push.ensures.items, map-append, c.member_class.ensures)
          (c.loop-alloc.invariant.state
          ∙ ap (option_map (before ks)) (members_at-alone m (c.reading_leaves_less.ensures m) t u d goes_on (ap (read_member m) (sym same) ∙ c.in_ok-first.ensures.read) alone)
          ∙ before-alone ks (member_class d) (members_at m u));
    }

pub returns-in_err-push-clause-kept : goal.returns-in_err-push-clause-kept
returns-in_err-push-clause-kept c = c.member.ensures.kept ∙ c.eat.ensures.kept ∙ c.loop-alloc.invariant.kept

pub returns-clause-read : goal.returns-clause-read
returns-clause-read c =
    let m = mode_view c.args.mode.now in
    let t = unread c.loop-alloc.cursor in
    let closes : closes_class t ≡ true = sym c.eat.ensures.found ∙ c.loop-alloc-test.false in
    rw c.loop-alloc-test.ensures.read (c.loop-alloc.invariant.state ∙ before-closed c.loop-alloc.members (members_at m t) (drop 1 t) (members_at-closed m t closes))

pub returns-clause-kept : goal.returns-clause-kept
returns-clause-kept c = c.eat.ensures.kept ∙ c.loop-alloc.invariant.kept
