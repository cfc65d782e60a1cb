use Rattle.std.proofs.Common.{rules}
use Rattle.std.proofs.lemmas.Str.{chars-IsAscii}
use Rattle.regress_front_core.proofs.flags.flags_are_read_back.Goals as goal

pub returns-clause-text : goal.returns-clause-text
returns-clause-text c flags = chars-IsAscii _ (search rules)
