use Rattle.std.proofs.Common.{◌≡◌, ◌++◌, length, map}
use Rattle.regress_engine_insn.specs.Instructions.{byte_seq}
use Rattle.regress_engine_insn.specs.InsnViews.{instruction}
use Rattle.regress_engine_insn.specs.Layout.{chunks}
use Rattle.regress_engine_code.proofs.leaves.byte_sequences.Given as goal

-- the instructions so far, and those of the rest, are all
abbrev pub invariant-loop-rest : goal.invariant-loop-rest
invariant-loop-rest l =
    map instruction l.insns.items ++ map byte_seq (chunks (length l.rest) l.rest) ≡ map byte_seq (chunks (length l.bytes) l.bytes)

abbrev pub decreases-loop-rest : goal.decreases-loop-rest
decreases-loop-rest l = length l.rest
