use Rattle.std.proofs.Common.{◌≡◌, ap, [], length, arith}
use Rattle.esgrep_rows.specs.Lines.{byte_of, lines}
use Rattle.esgrep_rows.proofs.LineLemmas.{lines-none}
use Rattle.esgrep_rows.proofs.CuttingLemmas.{lines-whole}
use Rattle.esgrep_lines.proofs.PassingLemmas.{before-unselected}
use Rattle.esgrep_lines.proofs.passing.pass.Goals as goal

pub returns-then-not-options-clause-unselected : goal.returns-then-not-options-clause-unselected
returns-then-not-options-clause-unselected g c = λ template seen finds.
    before-unselected c.args.options.now seen c.args.text.now c.candidate.result (lines (byte_of c.args.options.now.ending) c.lines_before.result.0.now)
    c.if-not-options.true (c.candidate.ensures.passed template seen.find finds) c.lines_before.ensures.before

pub returns-else-may_select-clause-lines : goal.returns-else-may_select-clause-lines
returns-else-may_select-clause-lines g c = lines-whole (byte_of c.args.options.now.ending) c.args.text.now

pub returns-else-may_select-clause-unselected : goal.returns-else-may_select-clause-unselected
returns-else-may_select-clause-unselected g c = λ template seen finds k d below start.
    let none : length (lines (byte_of c.args.options.now.ending) []) ≡ 0 = ap length (lines-none (byte_of c.args.options.now.ending)) in
    absurd (omega (arith, none, below))
