use Rattle.std.proofs.Common.{subst, sym, List, take, ℕ, All, Option}
use Rattle.esgrep_rows.specs.Lines.{byte_of, lines, body, EndsBefore}
use Rattle.esgrep_rows.proofs.CuttingLemmas.{lines-all}
use Rattle.esgrep_rows.proofs.PassingLemmas.{lines-before, lines-all_before, byte-ascii}
use Rattle.esgrep_rows.proofs.line.lines_before.Goals as goal

pub returns-in-Some-clause-before : goal.returns-in-Some-clause-before
returns-in-Some-clause-before c =
    let end = byte_of c.args.ending in
    let before = lines-before c.args.ending c.args.text.now c.in-Some.at c.line_start.result (byte-ascii c.args.ending) c.utf8.text c.line_start.ensures.boundary c.line_start.ensures.bound in
    let told = subst (λ (at : Option ℕ). All (λ line. EndsBefore c.args.text.now at (body c.args.ending line)) (lines end (take c.line_start.result c.args.text.now))) (sym c.in-Some.is) before in
    subst (λ (front : List ℕ). All (λ line. EndsBefore c.args.text.now c.args.at (body c.args.ending line)) (lines end front)) (sym c.split_at.ensures.front) told

pub returns-in-None-clause-lines : goal.returns-in-None-clause-lines
returns-in-None-clause-lines c = lines-all (byte_of c.args.ending) c.args.text.now

pub returns-in-None-clause-before : goal.returns-in-None-clause-before
returns-in-None-clause-before c =
    subst (λ (at : Option ℕ). All (λ line. EndsBefore c.args.text.now at (body c.args.ending line)) (lines (byte_of c.args.ending) c.args.text.now)) (sym c.in-None.is)
    (lines-all_before c.args.ending c.args.text.now (byte-ascii c.args.ending) c.utf8.text)
