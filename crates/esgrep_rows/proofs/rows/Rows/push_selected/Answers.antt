use Rattle.esgrep_rows.specs.Lines.{body}
use Rattle.esgrep_rows.proofs.RewritingLemmas.{lie-inside}
use Rattle.esgrep_rows.proofs.rows.Rows.push_selected.Goals as goal

pub push_matches-requires-clause-inside : goal.push_matches-requires-clause-inside
push_matches-requires-clause-inside c =
    lie-inside (body c.args.self.now.options.ending c.args.line.text.now) 0 c.args.founds.now c.requires.order
