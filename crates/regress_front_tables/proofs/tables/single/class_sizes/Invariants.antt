use Rattle.std.proofs.Common.{◌≡◌, ◌+◌, ℕ, unwrap_or, take}
use Rattle.std.specs.Ordering.{nat_cmp}
use Rattle.std.specs.BTreeMap.{get}
use Rattle.regress_front_tables.specs.Telling.{others_to}
use Rattle.regress_front_tables.proofs.tables.single.class_sizes.Given as goal

abbrev pub invariant-loop-c : goal.invariant-loop-c
invariant-loop-c l = (d : ℕ) → unwrap_or (get nat_cmp l.sizes d) 1 ≡ 1 + others_to (take l.c-index l.pairs) d
