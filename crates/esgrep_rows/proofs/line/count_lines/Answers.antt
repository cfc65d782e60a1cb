use Rattle.std.proofs.Common.{◌≡◌, ◌||◌, true, false, sym, ap, ◌∙◌, refl, arith}
use Rattle.esgrep_rows.specs.Lines.{byte_of, is_last}
use Rattle.esgrep_rows.proofs.CuttingLemmas.{ends-counted, lines-ended, lines-open, lines-few}
use Rattle.esgrep_rows.proofs.line.count_lines.Goals as goal
use Rattle.esgrep_rows.proofs.line.count_lines.Goals.{then-is_empty, else-is_empty}

pub returns-then-is_ended-clause-value : goal.returns-then-is_ended-clause-value
returns-then-is_ended-clause-value c =
    let end = byte_of c.args.ending in
    let text = c.args.text.now in
    let counted = ends-counted end c.byte.result text c.as_bytes.result.now c.memchr_iter.result c.count-ends.result c.byte.ensures.value c.as_bytes.ensures.value c.memchr_iter.ensures.value c.count-ends.ensures in
    elim c.if-is_empty.branch [
      | then-is_empty w ↦ lines-ended end text c.count-ends.result c.is_empty.result (is_last end text) counted c.is_empty.ensures refl (ap (λ b. b || is_last end text) w.if-is_empty.true)
      | else-is_empty w ↦ lines-ended end text c.count-ends.result c.is_empty.result w.is_ended.result counted c.is_empty.ensures w.is_ended.ensures
          (ap (λ b. b || w.is_ended.result) w.if-is_empty.false ∙ sym w.value-is ∙ c.if-is_ended.true)
    ]

pub returns-else-is_ended-clause-value : goal.returns-else-is_ended-clause-value
returns-else-is_ended-clause-value c =
    let end = byte_of c.args.ending in
    let text = c.args.text.now in
    let counted = ends-counted end c.byte.result text c.as_bytes.result.now c.memchr_iter.result c.count-ends.result c.byte.ensures.value c.as_bytes.ensures.value c.memchr_iter.ensures.value c.count-ends.ensures in
    elim c.if-is_empty.branch [
      | then-is_empty w ↦ let bad : true ≡ false = sym w.if-is_empty.true ∙ sym w.value-is ∙ c.if-is_ended.false in absurd (cc bad)
      | else-is_empty w ↦ lines-open end text c.count-ends.result c.is_empty.result w.is_ended.result counted c.is_empty.ensures w.is_ended.ensures
          (ap (λ b. b || w.is_ended.result) w.if-is_empty.false ∙ sym w.value-is ∙ c.if-is_ended.false)
    ]

pub returns-else-is_ended-clause-few : goal.returns-else-is_ended-clause-few
returns-else-is_ended-clause-few c =
    let end = byte_of c.args.ending in
    let text = c.args.text.now in
    let counted = ends-counted end c.byte.result text c.as_bytes.result.now c.memchr_iter.result c.count-ends.result c.byte.ensures.value c.as_bytes.ensures.value c.memchr_iter.ensures.value c.count-ends.ensures in
    elim c.if-is_empty.branch [
      | then-is_empty w ↦ let bad : true ≡ false = sym w.if-is_empty.true ∙ sym w.value-is ∙ c.if-is_ended.false in absurd (cc bad)
      | else-is_empty w ↦ omega (
        arith,
        lines-few end text,
        lines-open end text c.count-ends.result c.is_empty.result w.is_ended.result counted c.is_empty.ensures w.is_ended.ensures
            (ap (λ b. b || w.is_ended.result) w.if-is_empty.false ∙ sym w.value-is ∙ c.if-is_ended.false),
      )
    ]
