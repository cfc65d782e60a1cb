use Rattle.std.proofs.Common.{rules, List, ℕ, subst}
use Rattle.std.specs.Io.KnownBytes.{Appends, append_known}
use Rattle.esgrep_rows.specs.Found.{but_for}
use Rattle.esgrep_lines.specs.Putting.{put_out, written, IsBeginning}
use Rattle.esgrep_lines.proofs.CountLemmas.{summary-counted}
use Rattle.esgrep_lines.proofs.searching.put_summary.Goals as goal

pub returns-clause-put : goal.returns-clause-put
returns-clause-put g c = λ template find finds.
    let told = summary-counted c.args.rows.options (but_for c.count.new.given_up.items find) c.args.rows.name.now c.args.text.now c.in_ok-count.count (c.in_ok-count.ensures.count template find finds) in
    subst (λ (row : List ℕ). Appends (put_out g.W.Write.contents c.args.output.now) (put_out g.W.Write.contents c.put_count.new.output) row) told c.in_ok-put_count.ensures.put

pub returns-in_err-put_count-clause-unwritten : goal.returns-in_err-put_count-clause-unwritten
returns-in_err-put_count-clause-unwritten g c = λ template find finds e.
    let told = summary-counted c.args.rows.options (but_for c.count.new.given_up.items find) c.args.rows.name.now c.args.text.now c.in_ok-count.count (c.in_ok-count.ensures.count template find finds) in
    subst (λ (row : List ℕ). IsBeginning (written g.W.Write.contents c.put_count.new.output) (append_known (put_out g.W.Write.contents c.args.output.now) row)) told (c.in_err-put_count.ensures.unwritten (search rules))
