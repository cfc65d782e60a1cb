use Rattle.std.proofs.Common.{◌≡◌, OnOk, OnErr, sym, ◌∙◌, subst}
use Rattle.std.specs.Io.KnownBytes.{Appends}
use Rattle.regress_program.specs.Running.{output, AppendsFront}
use Rattle.regress_program.proofs.RunLemmas.{on_ok-at, on_err-at}
use Rattle.regress_program.proofs.FoundLemmas.{found-front, found-ok, found-err, found-failed-ok, found-failed-err, still-sound}
use Rattle.regress_program.proofs.program.write_lines.Goals as goal
use Rattle.regress_program.proofs.program.write_lines.Goals.{else-not-failed-via-then-not-failed+else-is_err, else-not-failed-via-else-not-failed}

pub returns-then-is_err-clause-err : goal.returns-then-is_err-clause-err
returns-then-is_err-clause-err g c = λ t o p s.
    let lines = c.put_lines-found in
    found-front lines.result (g.W.Sink.written c.args.sink.now) (g.W.Sink.written lines.new.sink) (g.W.Sink.written c.put_all.new.sink) lines.new.pending.items (output t o p c.args.text.now)
    (lines.ensures.ok t o p s) (lines.ensures.refused t o p s) lines.ensures.errors (λ h. still-sound _ _ c.failed.ensures c.if-not-failed.true (lines.ensures.write.0 h))
    (rw c.deref.ensures.value at (on_err-at _ (sym c.if-is_err.true ∙ c.is_err.ensures.value) c.put_all.ensures.err))

pub returns-clause-ok : goal.returns-clause-ok
returns-clause-ok g c = λ t o p s.
    let lines = c.put_lines-found in
    elim c.else-not-failed.branch [
      | else-not-failed-via-then-not-failed+else-is_err w ↦
          subst (λ k. OnOk lines.result (Appends (g.W.Sink.written c.args.sink.now) (g.W.Sink.written k) (output t o p c.args.text.now))) (sym w.sink-is)
          (found-ok lines.result (g.W.Sink.written c.args.sink.now) (g.W.Sink.written lines.new.sink) (g.W.Sink.written w.put_all.new.sink) lines.new.pending.items (output t o p c.args.text.now)
          (lines.ensures.ok t o p s) (rw w.deref.ensures.value at (on_ok-at _ (sym w.if-is_err.false ∙ w.is_err.ensures.value) w.put_all.ensures.ok)))
      | else-not-failed-via-else-not-failed w ↦ found-failed-ok lines.result _ (lines.ensures.write.1 (sym c.failed.ensures ∙ w.if-not-failed.false))
    ]

pub returns-clause-err : goal.returns-clause-err
returns-clause-err g c = λ t o p s.
    let lines = c.put_lines-found in
    elim c.else-not-failed.branch [
      | else-not-failed-via-then-not-failed+else-is_err w ↦
          subst (λ k. OnErr lines.result (AppendsFront (g.W.Sink.written c.args.sink.now) (g.W.Sink.written k) (output t o p c.args.text.now))) (sym w.sink-is)
          (found-err lines.result (g.W.Sink.written c.args.sink.now) (g.W.Sink.written lines.new.sink) (g.W.Sink.written w.put_all.new.sink) lines.new.pending.items (output t o p c.args.text.now)
          (lines.ensures.refused t o p s) lines.ensures.errors (λ h. still-sound _ _ c.failed.ensures w.if-not-failed.true (lines.ensures.write.0 h))
          (rw w.deref.ensures.value at (on_ok-at _ (sym w.if-is_err.false ∙ w.is_err.ensures.value) w.put_all.ensures.ok)))
      | else-not-failed-via-else-not-failed w ↦
          subst (λ k. OnErr lines.result (AppendsFront (g.W.Sink.written c.args.sink.now) (g.W.Sink.written k) (output t o p c.args.text.now))) (sym w.sink-is)
          (found-failed-err lines.result _ (lines.ensures.write.1 (sym c.failed.ensures ∙ w.if-not-failed.false))
          (lines.ensures.failed t o p s (lines.ensures.write.1 (sym c.failed.ensures ∙ w.if-not-failed.false))))
    ]
