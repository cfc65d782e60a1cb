-- What an instruction takes: bytes, a character, or nothing.
use Rattle.std.specs.Prelude.{◌≡◌, ◌<◌, ◌⊎◌, ℕ, ◌∷◌, Bool, List, true, false}
use Rattle.regress_engine_insn.specs.Instructions.{Instruction}
use Rattle.regress_engine_insn.specs.Instructions as code
use Rattle.regress_engine_runs.specs.Closed.{takes_character}
use Rattle.regress_engine_analysis.specs.Planned.{is_class}

-- an instruction asks what stands beside an offset
abbrev pub is_assertion : Instruction → Bool
is_assertion (code.line_start multiline) = true
is_assertion (code.line_end multiline) = true
is_assertion (code.boundary inverted folded) = true
is_assertion _ = false

-- an instruction takes a character or bytes
abbrev pub is_taking : Instruction → Bool
is_taking (code.byte_seq bs) = true
is_taking i = takes_character i

-- an instruction takes bytes, or one of some characters: not one that takes any
abbrev pub takes_some : Instruction → Bool
takes_some code.any = false
takes_some code.any_in_line = false
takes_some i = is_taking i

-- an instruction takes the character ahead, where that is one of some
abbrev pub takes_one : Instruction → Bool
takes_one (code.byte_set cs) = true
takes_one (code.char_set cs) = true
takes_one i = is_class i

-- all that an instruction takes begins with a byte, or is this character of ASCII alone
abbrev pub IsFirstAlone : Instruction → ℕ → Type 0
IsFirstAlone i b = ((rest : List ℕ) × (i ≡ code.byte_seq (b ∷ rest))) ⊎ ((b < 0x80) × (i ≡ code.char b))
