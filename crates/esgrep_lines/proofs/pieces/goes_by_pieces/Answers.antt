use Rattle.esgrep_lines.proofs.PieceLemmas.{rows-pieces, count-pieces}
use Rattle.esgrep_lines.proofs.pieces.goes_by_pieces.Goals as goal

pub returns-then-is_whole-clause-rows : goal.returns-then-is_whole-clause-rows
returns-then-is_whole-clause-rows c = λ yes puts find anywhere name front rest pieces.
    rows-pieces c.args.options.now find anywhere name (c.knows_no_place.ensures.0 yes) front rest pieces.0 pieces.1

pub returns-then-is_whole-clause-count : goal.returns-then-is_whole-clause-count
returns-then-is_whole-clause-count c = λ yes find anywhere front rest pieces. count-pieces c.args.options.now find anywhere front rest pieces.0 pieces.1

pub returns-else-puts_rows-clause-count : goal.returns-else-puts_rows-clause-count
returns-else-puts_rows-clause-count c = λ yes find anywhere front rest pieces. count-pieces c.args.options.now find anywhere front rest pieces.0 pieces.1
