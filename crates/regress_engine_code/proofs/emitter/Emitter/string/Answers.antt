use Rattle.std.proofs.Common.{List, ◌++◌, map, ap, ap₂, ◌∙◌, arith}
use Rattle.std.proofs.lemmas.List.{map-append, take_all}
use Rattle.regress_front_nodes.specs.Pieces.{piece_tree}
use Rattle.regress_front_nodes.specs.WellFormed.{AreLawful}
use Rattle.regress_engine_insn.specs.Instructions.{Instruction}
use Rattle.regress_engine_insn.specs.InsnViews.{instruction}
use Rattle.regress_engine_insn.specs.Layout.{pieces_code}
use Rattle.regress_engine_code.proofs.PieceLemmas.{among, pieces_code-told}
use Rattle.regress_engine_code.proofs.emitter.Emitter.string.Goals as goal

pub loop-piece-init : goal.loop-piece-init
loop-piece-init c = λ program same. ap (map instruction) c.new-insns.ensures.items

pub piece-requires : goal.piece-requires
piece-requires c = among piece_tree (AreLawful 0) c.deref-piece-items.result.now c.loop-piece.piece-index c.piece-item.result c.loop-piece-test.true c.piece-item.is (rw c.deref-piece-items.ensures.value c.in_ok-pieces.ensures.lawful)

pub loop-piece-preserved : goal.loop-piece-preserved
loop-piece-preserved c = λ program same.
    ap (map instruction) c.in_ok-append.ensures.items
    ∙ map-append instruction c.loop-piece.insns.items _
    ∙ ap₂ (λ (xs ys : List Instruction). xs ++ ys) (c.loop-piece.invariant program same) (c.in_ok-piece.ensures.ok program same)
    ∙ pieces_code-told program c.args.backward c.deref-piece-items.result.now c.loop-piece.piece-index c.piece-item.result c.loop-piece-test.true c.piece-item.is

pub returns-clause-ok : goal.returns-clause-ok
returns-clause-ok c = λ program same.
    c.loop-piece.invariant program same
    ∙ ap (λ ps. pieces_code program c.args.backward (map piece_tree ps)) (take_all c.loop-piece.piece-index c.deref-piece-items.result.now (omega (arith, c.loop-piece-test.false)))
    ∙ ap (λ ps. pieces_code program c.args.backward (map piece_tree ps)) c.deref-piece-items.ensures.value
    ∙ ap (pieces_code program c.args.backward) c.in_ok-pieces.ensures.ok
