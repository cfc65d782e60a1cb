use Rattle.std.proofs.Common.{map, reverse, ap, ◌∙◌}
use Rattle.regress_front_nodes.proofs.NodeLemmas.{map-reverse}
use Rattle.regress_engine_insn.specs.InsnViews.{instruction}
use Rattle.regress_engine_code.proofs.leaves.literal.Goals.{then-backward, else-backward}
use Rattle.regress_engine_code.proofs.leaves.literal.Goals as goal

pub returns : goal.returns
returns c = elim c.if-backward.branch [
  | then-backward w ↦
      rw (w.insns-is, w.if-backward.true)
      (ap (map instruction) w.reverse.ensures.items ∙ map-reverse instruction c.in_ok-insns.insns.items ∙ ap reverse c.in_ok-insns.ensures)
  | else-backward w ↦ rw (w.insns-is, w.if-backward.false) c.in_ok-insns.ensures
]
