use Rattle.std.proofs.Common.{◌≡◌, ◌+◌, false, ◌++◌, length, sym, ap, ◌∙◌, arith, append-nil, length-drop}
use Rattle.regress_meaning.specs.Scan.{group_names}
use Rattle.regress_front_tables.specs.TableViews.{table}
use Rattle.regress_front_tokens.specs.Cursors.{unread}
use Rattle.regress_front_tokens.specs.Escapes.{texts}
use Rattle.regress_front_tokens.proofs.EscapeLemmas.{next-drop}
use Rattle.regress_front_tokens.proofs.ScanLemmas.{skipped-backslash, skipped-other, names-end, opened-shorter, found-in_class, found-nothing, found-name}
use Rattle.regress_front_tokens.proofs.scan.group_names.Goals as goal
use Rattle.regress_front_tokens.proofs.scan.group_names.Goals.{then-in_class+then-point-from, then-in_class+else-point-from, else-in_class+in_ok-name+in-Some-2+in_ok-push, else-in_class+in_ok-name+in_default-2}

pub loop-point-smaller : goal.loop-point-smaller
loop-point-smaller c =
    let r = unread c.next.new.self in
    let whole : length (unread c.loop-point.cursor) ≡ length r + 1 = ap length c.in-Some.ensures.read ∙ omega arith in
    elim c.if-in_class.branch [
      | then-in_class+then-point-from w ↦
          let rest = next-drop r w.next-then-point-from.result _ w.next-then-point-from.ensures.read in
          rw (w.cursor-is, rest, whole) (omega (arith, length-drop 1 r))
      | then-in_class+else-point-from w ↦ rw (w.cursor-is, whole) (omega arith)
      | else-in_class+in_ok-name+in-Some-2+in_ok-push w ↦
          let shorter = opened-shorter (table c.args.tables.now) c.args.named c.in-Some.point r _ _ w.in_ok-name.ensures in
          rw (w.cursor-is, whole) (omega (arith, shorter))
      | else-in_class+in_ok-name+in_default-2 w ↦
          let shorter = opened-shorter (table c.args.tables.now) c.args.named c.in-Some.point r _ _ w.in_ok-name.ensures in
          rw (w.cursor-is, whole) (omega (arith, shorter))
    ]

pub loop-point-preserved : goal.loop-point-preserved
loop-point-preserved c =
    let all = group_names (table c.args.tables.now) c.args.named false 0 c.args.points.now in
    let point = c.in-Some.point in
    let r = unread c.next.new.self in
    elim c.if-in_class.branch [
      | then-in_class+then-point-from w ↦
          let rest = next-drop r w.next-then-point-from.result _ w.next-then-point-from.ensures.read ∙ sym (skipped-backslash point r (w.if-point-from.true ∙ w.from.ensures)) in
          rw (w.names-is, w.cursor-is, c.is_in_class_behind-in_class.ensures, w.if-in_class.true, rest)
          (found-in_class _ c.args.named all c.loop-point.names point _ r c.in-Some.ensures.read (rw w.if-in_class.true at c.loop-point.invariant))
      | then-in_class+else-point-from w ↦
          let rest = skipped-other point r (λ e. w.if-point-from.false (e ∙ sym w.from.ensures)) in
          rw (w.names-is, w.cursor-is, c.is_in_class_behind-in_class.ensures, w.if-in_class.true, ← rest)
          (found-in_class _ c.args.named all c.loop-point.names point _ r c.in-Some.ensures.read (rw w.if-in_class.true at c.loop-point.invariant))
      | else-in_class+in_ok-name+in-Some-2+in_ok-push w ↦
          rw (w.names-is, w.cursor-is, c.is_in_class_behind-in_class.ensures, w.if-in_class.false)
          (found-name _ c.args.named all c.loop-point.names point _ r c.in-Some.ensures.read _ w.push.new.self w.in-Some-2.name (rw w.if-in_class.false at c.loop-point.invariant) (rw w.in-Some-2.is at w.in_ok-name.ensures) w.in_ok-push.ensures.items)
      | else-in_class+in_ok-name+in_default-2 w ↦
          rw (w.names-is, w.cursor-is, c.is_in_class_behind-in_class.ensures, w.if-in_class.false)
          (found-nothing _ c.args.named all c.loop-point.names point _ r c.in-Some.ensures.read _ (rw w.if-in_class.false at c.loop-point.invariant) (rw w.in_default-2.is at w.in_ok-name.ensures))
    ]

pub returns : goal.returns
returns c = sym (c.loop-point.invariant ∙ ap (λ found. texts c.loop-point.names ++ found) (names-end _ _ _ _ c.in_default.ensures.read.0) ∙ append-nil _)
