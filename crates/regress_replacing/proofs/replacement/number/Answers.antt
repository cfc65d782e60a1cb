use Rattle.std.proofs.Common.{◌≡◌, ◌<◌, ℕ, true, length, drop, get_or, inl, inr, refl, sym, ap, ◌∙◌, arith}
use Rattle.std.specs.Char.{is_ascii_digit}
use Rattle.std.proofs.lemmas.Str.{IsCharBoundary-start, IsCharBoundary-after_ascii}
use Rattle.regress_replacing.specs.Replacing.{number_after}
use Rattle.regress_replacing.proofs.NumberLemmas.{number-step, number-stop, number-end, digit_is_small}
use Rattle.regress_replacing.proofs.replacement.number.Goals as goal
use Rattle.regress_replacing.proofs.replacement.number.Goals.{then-not-is_ascii_digit-via-then-not-is_ascii_digit, then-not-is_ascii_digit-via-else-not-is_ascii_digit+then-number-gt-MAX_CAPTURE_GROUPS}

pub loop-index-init : goal.loop-index-init
loop-index-init c = record { number = refl; taken = omega arith; small = omega arith; cut = IsCharBoundary-start c.args.text.now c.utf8.text }

pub loop-index-preserved : goal.loop-index-preserved
loop-index-preserved c =
    let text = c.args.text.now in
    let same = c.as_bytes-digit-items.ensures.value in
    let digit : is_ascii_digit (get_or text c.loop-index.index 0) ≡ true = rw same at (sym c.if-not-is_ascii_digit.ensures.value) in
    let here : c.loop-index.index < length text = omega (arith, ap length same) in
    let small = digit_is_small (get_or text c.loop-index.index 0) digit in
    let step = number-step c.loop-index.number text c.loop-index.index here digit c.if-number-gt-MAX_CAPTURE_GROUPS.false in
    rw (c.from.ensures, same) record {
      number = c.loop-index.invariant.number ∙ step.0;
      taken = omega (arith, c.loop-index.invariant.taken, step.1);
      small = omega (arith, small.1);
      cut = IsCharBoundary-after_ascii text c.loop-index.index c.utf8.text here small.0;
    }

-- the loop ends here
stops : (c : goal.After-t13-1) → number_after c.loop-index.number (drop c.loop-index.index c.args.text.now) ≡ (c.loop-index.number, 0)
stops c =
    let same = c.as_bytes-digit-items.ensures.value in
    number-stop c.loop-index.number c.args.text.now c.loop-index.index (omega (arith, ap length same))
    (elim c.then-not-is_ascii_digit.branch [
      | then-not-is_ascii_digit-via-then-not-is_ascii_digit w ↦ inl (rw same at (sym w.if-not-is_ascii_digit.ensures.value))
      | then-not-is_ascii_digit-via-else-not-is_ascii_digit+then-number-gt-MAX_CAPTURE_GROUPS w ↦ inr w.if-number-gt-MAX_CAPTURE_GROUPS.true
    ])

pub returns-then-not-is_ascii_digit-clause-number : goal.returns-then-not-is_ascii_digit-clause-number
returns-then-not-is_ascii_digit-clause-number c = sym (c.loop-index.invariant.number ∙ ap (λ (r : ℕ × ℕ). r.0) (stops c))

pub returns-then-not-is_ascii_digit-clause-rest : goal.returns-then-not-is_ascii_digit-clause-rest
returns-then-not-is_ascii_digit-clause-rest c =
    let taken : (number_after 0 c.args.text.now).1 ≡ c.loop-index.index = omega (arith, c.loop-index.invariant.taken, ap (λ (r : ℕ × ℕ). r.1) (stops c)) in
    rw taken c.range_from.ensures.value

pub returns-clause-number : goal.returns-clause-number
returns-clause-number c = sym (c.loop-index.invariant.number ∙ ap (λ (r : ℕ × ℕ). r.0) (number-end c.loop-index.number c.args.text.now c.loop-index.index (omega arith)))
