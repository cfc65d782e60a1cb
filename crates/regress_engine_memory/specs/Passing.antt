-- A test of each instruction of a program, at its address.
use Rattle.std.specs.Prelude.{ℕ, suc, ◌&&◌, Bool, true, List, [], ◌∷◌}
use Rattle.regress_engine_insn.specs.Instructions.{Instruction}

-- each of some instructions passes, from an address on
abbrev pub all_pass : (test : ℕ → Instruction → Bool) → (at : ℕ) → List Instruction → Bool
all_pass test at [] = true
all_pass test at (i ∷ is) = test at i && all_pass test (suc at) is
