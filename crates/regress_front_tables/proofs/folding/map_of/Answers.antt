use Rattle.std.proofs.Common.{refl}
use Rattle.regress_meaning.specs.Table.{canon}
use Rattle.regress_front_tables.proofs.folding.map_of.Goals as goal

pub returns-then-unicode : goal.returns-then-unicode
unfolding canon
returns-then-unicode c = rw (c.if-unicode.true, c.deref.ensures) refl

pub returns-else-unicode : goal.returns-else-unicode
unfolding canon
returns-else-unicode c = rw (c.if-unicode.false, c.deref-else-unicode.ensures) refl
