-- Whether a program has submatches: lookarounds and atomic groups.
use Rattle.std.specs.Prelude.{Bool, true, false, List}
use Rattle.std.specs.List.{list_any}
use Rattle.regress_engine_insn.specs.Instructions.{Instruction}
use Rattle.regress_engine_insn.specs.Instructions as code
use Rattle.regress_engine_insn.specs.InsnViews.{instruction}
use Rattle.regress_engine_insn.specs.declared.insn.Insn.{Insn}

-- one begins with an instruction
abbrev pub begins_submatch : Instruction → Bool
begins_submatch (code.submatch kind first last continuation) = true
begins_submatch _ = false

-- one begins with any of some instructions
abbrev pub has_submatches : List Insn → Bool
has_submatches insns = list_any (λ i. begins_submatch (instruction i)) insns
