use Rattle.regress_meaning.proofs.ReadingLaws.{read_pattern-decides}
use Rattle.regress_meaning.proofs.reading_decides_the_grammar.Goals as goal

pub returns : goal.returns
returns c = read_pattern-decides
