use Rattle.std.proofs.Common.{◌≤◌, ◌<◌, ◌+◌, ◌≡◌, ℕ, inl, inr, refl, sym, subst, arith, ◌⊎◌}
use Rattle.std.proofs.lemmas.Bool.{cases_lt}
use Rattle.regress.specs.Coming.{IsStart}
use Rattle.regress.proofs.IterationLemmas.{start_of_boundary}
use Rattle.esgrep_patterns.proofs.SeveralLemmas.{begins-end, begins-next}
use Rattle.esgrep_patterns.proofs.patterns.behind.Goals as goal

pub returns-then-start-end-clause-start : goal.returns-then-start-end-clause-start
returns-then-start-end-clause-start c = λ within.
    subst (λ (at : ℕ). IsStart c.args.text.now at) (sym c.end-then-start-end.ensures)
    (start_of_boundary c.args.text.now c.utf8.text c.args.found.now.range.end c.requires.0.2)

pub returns-then-start-end-clause-next : goal.returns-then-start-end-clause-next
returns-then-start-end-clause-next c = λ h is. rw c.end-then-start-end.ensures
    (begins-end c.args.text.now c.utf8.text c.args.found.now h is (omega (arith, c.if-start-end.true, c.start.ensures, c.end.ensures)))

pub loop-next-preserved : goal.loop-next-preserved
loop-next-preserved c = record {
  after = omega (arith, c.loop-next.invariant.after);
  between = λ k after before is. go k after is (cases_lt k c.loop-next.next) before;
}
  where
    go : (k : ℕ) → c.args.found.now.range.end < k → IsStart c.args.text.now k → (k < c.loop-next.next) ⊎ (c.loop-next.next ≤ k) → k < c.loop-next.next + 1 → ⊥
    go k after is (inl less) before = c.loop-next.invariant.between k after less is
    go k after is (inr most) before =
        let same : k ≡ c.loop-next.next = omega (arith, most, before) in
        let here = subst (IsStart c.args.text.now) same is in
        let no = c.if-not-is_start.ensures.1 here in absurd (cc no)

pub returns-else-not-is_start-clause-next : goal.returns-else-not-is_start-clause-next
returns-else-not-is_start-clause-next c = λ h is.
    begins-next c.args.text.now c.utf8.text c.args.found.now h is (omega (arith, c.if-start-end.false, c.start.ensures, c.end.ensures)) c.loop-next.next
    (omega (arith, c.loop-next.invariant.after)) c.loop-next.invariant.between (inr (c.if-not-is_start.ensures.0 refl))

pub returns-after-loop-next-clause-next : goal.returns-after-loop-next-clause-next
returns-after-loop-next-clause-next c = λ h is.
    begins-next c.args.text.now c.utf8.text c.args.found.now h is (omega (arith, c.if-start-end.false, c.start.ensures, c.end.ensures)) c.loop-next.next
    (omega (arith, c.loop-next.invariant.after)) c.loop-next.invariant.between (inl (omega (arith, c.loop-next-test.false)))
