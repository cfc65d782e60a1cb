use Rattle.std.proofs.Common.{ap, ◌∙◌, arith}
use Rattle.regress_engine_insn.specs.Instructions.{byte_seq}
use Rattle.regress_engine_code.proofs.ChunkLemmas.{chunks-told}
use Rattle.regress_engine_code.proofs.leaves.byte_sequences.Goals as goal

pub loop-rest-preserved : goal.loop-rest-preserved
loop-rest-preserved c =
    rw (c.in_ok-push.ensures.items, c.split_at.ensures.back)
    (chunks-told c.loop-rest.insns.items c.byte_sequence.result c.loop-rest.rest.now c.min.result _ (grind arith) c.min.ensures
    (c.byte_sequence.ensures ∙ ap byte_seq c.split_at.ensures.front) c.loop-rest.invariant)
