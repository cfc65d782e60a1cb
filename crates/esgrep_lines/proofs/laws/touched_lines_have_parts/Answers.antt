use Rattle.esgrep_lines.proofs.TouchedLemmas.{touched-lines}
use Rattle.esgrep_lines.proofs.laws.touched_lines_have_parts.Goals as goal

pub returns : goal.returns
returns c = touched-lines
