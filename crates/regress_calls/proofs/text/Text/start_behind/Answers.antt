use Rattle.std.proofs.Common.{◌≡◌, ◌∙◌, ℕ, subst, sym, arith}
use Rattle.regress_meaning.specs.Offsets.{Begins, offset}
use Rattle.regress_calls.specs.Texts.{reading_of_text}
use Rattle.regress_calls.proofs.StartLemmas.{ends-at, next-empty, text-rises}
use Rattle.regress_calls.proofs.text.Text.start_behind.Goals as goal

pub returns-in-Some-2-clause-next : goal.returns-in-Some-2-clause-next
returns-in-Some-2-clause-next c = λ i inside is.
    let r = reading_of_text c.args.self.now in
    let (start, end) = ends-at r i c.args.found.now c.in-Some.range is c.in-Some.is in
    let (here, there) = ends-at r i c.args.found.now c.in-Some-2.range is c.in-Some-2.is in
    let empty : offset r i.start ≡ offset r i.end = sym start ∙ c.if-range.false ∙ end in
    subst (λ (n : ℕ). Begins r c.start_after.result n) (sym (next-empty r (text-rises c.args.self.now) i inside empty))
    (c.start_after.ensures.next i.start (omega (arith, inside.range.0, inside.range.1)) (empty ∙ sym there))
