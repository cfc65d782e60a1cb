use Rattle.std.proofs.Common.{◌≡◌, ◌++◌, map}
use Rattle.regress_engine_insn.specs.declared.insn.Insn.TheVariants as insn
use Rattle.regress_engine_code.proofs.leaves.push_characters.Given as goal

-- those of the characters so far
abbrev pub invariant-loop-c : goal.invariant-loop-c
invariant-loop-c l = l.insns.items ≡ l.fn.insns.items ++ map (λ c. insn.Char c) l.yielded
