use Rattle.esgrep_lines.proofs.PuttingLemmas.{front-beginning}
use Rattle.esgrep_lines.proofs.output.Output.flush.Goals as goal

pub returns-in-Err-clause-err : goal.returns-in-Err-clause-err
returns-in-Err-clause-err g c =
    front-beginning (g.W.Write.contents c.args.self.now.writer) (g.W.Write.contents c.write_all.new.writer) c.args.self.now.pending.items
    (rw c.deref.ensures.value at c.in-Err.ensures.err)
