use Rattle.std.proofs.Common.{◌≡◌, ◌+◌, true, false, [], length, sym, ap, ◌∙◌, arith}
use Rattle.std.specs.Prelude.{◌==◌}
use Rattle.esgrep_rows.specs.Lines.{byte_of, lines, numbered}
use Rattle.esgrep_rows.specs.Rows.{Progress, rows}
use Rattle.esgrep_rows.specs.Values.{progress_of}
use Rattle.esgrep_lines.proofs.PassingLemmas.{rows-passed, count-passed}
use Rattle.esgrep_lines.proofs.GivenUpLemmas.{behind-cut}
use Rattle.esgrep_lines.proofs.passing.pass_over.Goals as goal

pub returns-clause-rows : goal.returns-clause-rows
returns-clause-rows g c = λ template seen finds name most number start.
    let o = c.args.rows.options in
    let end = byte_of o.ending in
    let passed = c.pass.result.0.now in
    let rest = c.pass.result.1.now in
    let before : o.before ≡ 0 = omega (arith, c.if-options-gt0.false) in
    let behind : c.args.progress.now.behind ≡ 0 = omega (arith, c.if-progress-gt0.false) in
    let some : passed ≡ [] → ⊥ = λ none.
    let bad : false ≡ true = sym c.if-is_empty.false ∙ c.is_empty.ensures ∙ ap (λ t. length t == 0) none in absurd (cc bad) in
    ap (λ (q : Progress). rows o seen name most q (numbered (number + c.told_lines.result) (start + length passed) (lines end rest))) c.leave_out.ensures.value
    ∙ rows-passed o seen name end most number start c.told_lines.result c.args.text.now passed rest (progress_of c.args.progress.now)
    c.pass.ensures.lines (c.pass.ensures.unselected template seen finds) before behind some c.told_lines.ensures.value

pub returns-clause-counted : goal.returns-clause-counted
returns-clause-counted g c = λ template seen finds most start.
    let o = c.args.rows.options in
    count-passed o seen (byte_of o.ending) most start c.args.text.now c.pass.result.0.now c.pass.result.1.now c.pass.ensures.lines (c.pass.ensures.unselected template seen finds)

pub returns-clause-lines : goal.returns-clause-lines
returns-clause-lines g c = behind-cut c.args.rows.options.ending c.args.text.now c.pass.result.0.now c.pass.result.1.now c.pass.ensures.lines
