use Rattle.regress_engine_runs.proofs.InputsMove.{utf8-moves-on, ascii-moves-on, utf16-moves-on, ucs2-moves-on}
use Rattle.regress_engine_runs.proofs.laws.inputs_move_on.Goals as goal

pub returns-clause-utf8 : goal.returns-clause-utf8
returns-clause-utf8 c = utf8-moves-on

pub returns-clause-ascii : goal.returns-clause-ascii
returns-clause-ascii c = ascii-moves-on

pub returns-clause-utf16 : goal.returns-clause-utf16
returns-clause-utf16 c = utf16-moves-on

pub returns-clause-ucs2 : goal.returns-clause-ucs2
returns-clause-ucs2 c = ucs2-moves-on
