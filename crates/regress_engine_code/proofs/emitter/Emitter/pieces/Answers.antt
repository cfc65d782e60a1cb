use Rattle.std.proofs.Common.{List, All, map, reverse, sym, ap, ◌∙◌, subst}
use Rattle.regress_front_nodes.specs.Trees.{Tree}
use Rattle.regress_front_nodes.specs.Pieces.{piece_tree}
use Rattle.regress_front_nodes.specs.WellFormed.{AreLawful}
use Rattle.regress_front_nodes.proofs.NodeLemmas.{map-reverse}
use Rattle.regress_engine_insn.proofs.StringLemmas.{All-reverse}
use Rattle.regress_engine_code.proofs.emitter.Emitter.pieces.Goals.{then-backward, else-backward}
use Rattle.regress_engine_code.proofs.emitter.Emitter.pieces.Goals as goal

pub returns-clause-ok : goal.returns-clause-ok
returns-clause-ok c = elim c.if-backward.branch [
  | then-backward w ↦
      rw (w.pieces-is, w.if-backward.true)
      (ap (map piece_tree) w.reverse.ensures.items ∙ map-reverse piece_tree c.in_ok-pieces.pieces.items ∙ ap reverse c.in_ok-pieces.ensures.pieces)
  | else-backward w ↦ rw (w.pieces-is, w.if-backward.false) c.in_ok-pieces.ensures.pieces
]

pub returns-clause-lawful : goal.returns-clause-lawful
returns-clause-lawful c = elim c.if-backward.branch [
  | then-backward w ↦
      rw w.pieces-is
      (subst (λ (ts : List Tree). All (AreLawful 0) ts) (sym (ap (map piece_tree) w.reverse.ensures.items ∙ map-reverse piece_tree c.in_ok-pieces.pieces.items))
      (All-reverse (AreLawful 0) (map piece_tree c.in_ok-pieces.pieces.items) c.in_ok-pieces.ensures.lawful))
  | else-backward w ↦ rw w.pieces-is c.in_ok-pieces.ensures.lawful
]
