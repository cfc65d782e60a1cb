use Rattle.std.proofs.Common.{◌≡◌, ◌∙◌, ◌+◌, ℕ, length, max, subst, sym, inl, inr, ap, ap₂, arith}
use Rattle.std.proofs.lemmas.Bool.{cases_lt, false≢true}
use Rattle.regress_meaning.specs.Offsets.{Begins, offset}
use Rattle.regress_front_bytes.proofs.TextLemmas.{offset-le}
use Rattle.regress_calls.specs.Texts.{reading_of_text}
use Rattle.regress_calls.proofs.StartLemmas.{text-rises, next-found, next-past, begins-past}
use Rattle.regress_calls.proofs.text.Text.start_after.Goals as goal

pub loop-start-init : goal.loop-start-init
loop-start-init c = λ s place from to begins. absurd (omega (arith, from, to))

pub loop-start-preserved : goal.loop-start-preserved
loop-start-preserved c = λ s place from to begins. elim (cases_lt s c.loop-start.start) [
  | inl before ↦ c.loop-start.invariant s place from before begins
  | inr here ↦
      let same : s ≡ c.loop-start.start = omega (arith, to, here) in
      let found = c.is_start.ensures.1 (place, subst (λ (at : ℕ). Begins (reading_of_text c.args.self.now) at place) same begins) in
      absurd (false≢true (sym c.if-is_start.false ∙ found))
]

pub returns-then-is_start-clause-next : goal.returns-then-is_start-clause-next
returns-then-is_start-clause-next c = λ p within here.
    let r = reading_of_text c.args.self.now in
    let start = c.loop-start.start in
    let next = c.saturating_add-next.result in
    let begun = c.is_start.ensures.0 c.if-is_start.true in
    let end : offset r (length r.points) ≡ c.len-start-end.result = c.len-start-end.ensures.end in
    next-found r (text-rises c.args.self.now) p next start begun.0 within
    (omega (arith, here, c.loop-start.auto.start, c.saturating_add-next.ensures, c.loop-start-test.true, c.len-start-end.ensures.small))
    (omega (arith, here, c.saturating_add-next.ensures)) c.loop-start.invariant (omega (arith, end, c.loop-start-test.true)) begun.1

pub returns-clause-next : goal.returns-clause-next
returns-clause-next c = λ p within here.
    let r = reading_of_text c.args.self.now in
    let end : offset r (length r.points) ≡ c.len-start-end.result = c.len-start-end.ensures.end in
    let inside = offset-le r p (length r.points) within in
    let next : c.saturating_add-next.result ≡ offset r p + 1 = omega (arith, here, inside, end, c.len-start-end.ensures.small, c.saturating_add-next.ensures) in
    next-past r (text-rises c.args.self.now) p c.max.result within
    (λ s place from to begins. c.loop-start.invariant s place (omega (arith, from, next)) (omega (arith, to, end, c.loop-start-test.false)) begins)
    (c.max.ensures ∙ ap₂ max next (sym c.len.ensures.end))

pub returns-clause-start : goal.returns-clause-start
returns-clause-start c =
    begins-past (reading_of_text c.args.self.now) c.saturating_add-next.result c.max.result (c.max.ensures ∙ ap (max c.saturating_add-next.result) (sym c.len.ensures.end))
