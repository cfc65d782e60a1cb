use Rattle.esgrep_lines.proofs.PuttingLemmas.{front-behind}
use Rattle.esgrep_lines.proofs.output.Output.write.Goals as goal

pub returns-in-Err-clause-err : goal.returns-in-Err-clause-err
returns-in-Err-clause-err g c =
    front-behind (g.W.Write.contents c.args.self.now.writer) (g.W.Write.contents c.write_all.new.writer) c.args.self.now.pending.items c.args.bytes.now
    c.requires.none c.in-Err.ensures.err
