use Rattle.std.proofs.Common.{arith}
use Rattle.regress_meaning.proofs.Shorter.{bounds_at-shorter, name_point-shorter, name_at-shorter, escape_at-shorter, class_escape_at-shorter, ClassBody-shorter}
use Rattle.regress_meaning.proofs.ReadClass.{read_class-sound}
use Rattle.regress_meaning.proofs.reading_leaves_less.Goals as goal

pub returns : goal.returns
returns c m text = record {
  bounds = λ b r e. bounds_at-shorter text e;
  name_point = λ p r e. name_point-shorter text e;
  name = λ name r e. name_at-shorter m.table text e;
  escape = λ e r h. let shorter = escape_at-shorter m text h in omega arith;
  class_escape = λ e r h. let shorter = class_escape_at-shorter m text h in omega arith;
  class = λ s r e. ClassBody-shorter m (read_class-sound m text e);
}
