use Rattle.std.proofs.Common.{arith}
use Rattle.regress_engine_leading.proofs.leading.behind_dead.Goals as goal

pub returns-then-is_empty : goal.returns-then-is_empty
returns-then-is_empty g c = record { low = omega arith; place = c.requires.place; on = λ offset finds. finds }
