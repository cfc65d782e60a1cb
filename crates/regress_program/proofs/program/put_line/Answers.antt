use Rattle.std.proofs.Common.{◌≡◌, ◌++◌, refl, sym, ap, ◌∙◌, append-nil}
use Rattle.std.proofs.KnownBytes.{Appends-trans}
use Rattle.regress_program.proofs.RunLemmas.{on_ok-more, on_err-more, front-behind}
use Rattle.regress_program.proofs.program.put_line.Goals as goal
use Rattle.regress_program.proofs.program.put_line.Goals.{After-put_all, else-len-lt-PENDING-via-then-len-lt-PENDING+else-is_ok, else-len-lt-PENDING-via-else-len-lt-PENDING}

-- what is written first is what waited, whether there was room for the line or not
waited : (g : _) (c : After-put_all g) → c.deref.result.now ≡ c.args.pending.now.items
waited g c = c.deref.ensures.value ∙ elim c.else-len-lt-PENDING.branch [
  | else-len-lt-PENDING-via-then-len-lt-PENDING+else-is_ok w ↦ rw (w.pending-is, w.extend_from_slice.ensures.items, sym w.is_ok.ensures.value ∙ w.if-is_ok.false) refl
  | else-len-lt-PENDING-via-else-len-lt-PENDING w ↦ ap (λ v. v.items) w.pending-is
]

pub returns-clause-ok : goal.returns-clause-ok
returns-clause-ok g c =
    let before = rw (waited g (goal.at.returns-clause-ok g c).After-put_all) at c.in_ok-put_all.ensures.ok in
    on_ok-more c.put_all-2.result (λ now. (c.args.pending.now.items ++ c.args.line.now, Appends-trans _ _ _ _ _ before now, rw c.clear.ensures.items (append-nil (c.args.pending.now.items ++ c.args.line.now)))) c.put_all-2.ensures.ok

pub returns-clause-err : goal.returns-clause-err
returns-clause-err g c =
    let before = rw (waited g (goal.at.returns-clause-err g c).After-put_all) at c.in_ok-put_all.ensures.ok in
    on_err-more c.put_all-2.result (front-behind _ _ _ c.args.pending.now.items c.args.line.now before) c.put_all-2.ensures.err
