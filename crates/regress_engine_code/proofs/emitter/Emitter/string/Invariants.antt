use Rattle.std.proofs.Common.{◌≡◌, map, take}
use Rattle.regress_front_nodes.specs.Pieces.{piece_tree}
use Rattle.regress_engine_insn.specs.Instructions.{Program}
use Rattle.regress_engine_insn.specs.InsnViews.{instruction}
use Rattle.regress_engine_insn.specs.Layout.{pieces_code}
use Rattle.regress_engine_code.proofs.emitter.Emitter.string.Given as goal

-- the instructions of the pieces so far
abbrev pub invariant-loop-piece : goal.invariant-loop-piece
invariant-loop-piece l =
    (program : Program) → program.units ≡ l.self.units → map instruction l.insns.items ≡ pieces_code program l.backward (map piece_tree (take l.piece-index l.piece-items))
