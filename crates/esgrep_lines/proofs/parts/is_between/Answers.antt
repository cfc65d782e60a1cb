use Rattle.esgrep_lines.proofs.PartLemmas.{between-same}
use Rattle.esgrep_lines.proofs.parts.is_between.Goals as goal

pub returns : goal.returns
returns c = between-same c.args.text.now c.args.at c.is_char_boundary.result c.requires c.is_char_boundary.ensures.test
