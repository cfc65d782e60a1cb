use Rattle.std.proofs.Common.{◌≡◌, Vec, Global, ℕ, ◌+◌, List, [], ◌++◌, drop, sym, ap, ◌∙◌, arith}
use Rattle.std.proofs.lemmas.List.{append-nil, drop_more, drop_all}
use Rattle.std.specs.Str.{chars, chars_after}
use Rattle.regress_evaluator.specs.Utf8Reading.{pending}
use Rattle.regress_evaluator.proofs.Utf8Lemmas.{chars_after-pending, pending-nil, pending-push}
use Rattle.regress_evaluator.proofs.utf8.characters.Goals.{then-left-eq0+in_ok-push, else-left-eq0}
use Rattle.regress_evaluator.proofs.utf8.characters.Goals as goal

pub loop-b-preserved : goal.loop-b-preserved
loop-b-preserved c =
    let bytes = c.args.bytes.now in
    let i = c.loop-b.b-index in
    let rest = drop (i + 1) bytes in
    let points = c.loop-b.points.items in
    let read : points ++ chars_after c.after.result.0 c.after.result.1 rest ≡ chars bytes =
    ap (λ (cs : List ℕ). points ++ cs) (sym (c.after.ensures.value rest) ∙ ap (pending c.loop-b.left c.loop-b.bits) (sym (drop_more bytes i 0 c.loop-b-test.true))) ∙ c.loop-b.invariant.1 in (
      c.after.ensures.pending,
      elim c.if-left-eq0.branch [
        | then-left-eq0+in_ok-push w ↦
            pending-push c.after.result.0 c.after.result.1 c.if-left-eq0.points.items points rest (chars bytes)
            (ap (λ (v : Vec ℕ Global). v.items) w.points-is ∙ w.in_ok-push.ensures.items) w.if-left-eq0.true read
        | else-left-eq0 w ↦
            ap (λ (v : Vec ℕ Global). v.items ++ pending c.after.result.0 c.after.result.1 rest) w.points-is
            ∙ ap (λ (cs : List ℕ). points ++ cs) (sym (chars_after-pending c.after.result.0 c.after.result.1 rest (omega (arith, w.if-left-eq0.false)))) ∙ read
      ],
    )

pub returns : goal.returns
returns c =
    let bytes = c.args.bytes.now in
    let points = c.loop-b.points.items in
    let none : drop c.loop-b.b-index bytes ≡ [] = drop_all c.loop-b.b-index bytes (omega arith) in
    sym (append-nil points) ∙ ap (λ (cs : List ℕ). points ++ cs) (sym (pending-nil c.loop-b.left c.loop-b.bits)) ∙ rw none at c.loop-b.invariant.1
