use Rattle.std.proofs.Common.{refl}
use Rattle.regress_front_syntax.proofs.OpeningLemmas.{all_differ-append}
use Rattle.regress_front_syntax.proofs.group.differ.Goals.{then-all_differ, else-all_differ}
use Rattle.regress_front_syntax.proofs.group.differ.Goals as goal

pub returns-then-all_differ-2 : goal.returns-then-all_differ-2
returns-then-all_differ-2 c = elim c.if-all_differ.branch [
  | then-all_differ w ↦ rw (all_differ-append, ← c.all_differ.ensures, w.if-all_differ.true, ← w.all_differ-then-all_differ.ensures, ← w.value-is, c.if-all_differ-2.true, c.share_a_letter.ensures) refl
  | else-all_differ w ↦ let h = w.value-is in let k = c.if-all_differ-2.true in cc
]

pub returns-else-all_differ-2 : goal.returns-else-all_differ-2
returns-else-all_differ-2 c = elim c.if-all_differ.branch [
  | then-all_differ w ↦ rw (all_differ-append, ← c.all_differ.ensures, w.if-all_differ.true, ← w.all_differ-then-all_differ.ensures, ← w.value-is, c.if-all_differ-2.false) refl
  | else-all_differ w ↦ rw (all_differ-append, ← c.all_differ.ensures, w.if-all_differ.false, c.if-all_differ-2.false) refl
]
