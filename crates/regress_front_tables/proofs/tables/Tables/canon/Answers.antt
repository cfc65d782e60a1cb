use Rattle.std.proofs.Common.{rules}
use Rattle.regress_meaning.specs.Table.{canon}
use Rattle.regress_front_tables.proofs.tables.Tables.canon.Goals as goal

pub returns-then-unicode : goal.returns-then-unicode
unfolding canon
returns-then-unicode c = search rules

pub returns-else-unicode : goal.returns-else-unicode
unfolding canon
returns-else-unicode c = search rules
