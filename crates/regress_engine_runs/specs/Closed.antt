-- Programs in which is what their instructions name.
use Rattle.std.specs.Prelude.{◌≡◌, ℕ, suc, ◌<◌, ◌≤◌, Bool, true, false, length}
use Rattle.regress_front_nodes.specs.Singles.{is_one_character}
use Rattle.regress_engine_insn.specs.Instructions.{LoopFields, Instruction, Program, Stands}
use Rattle.regress_engine_insn.specs.Instructions as code

-- by itself an instruction takes one character
abbrev pub takes_character : Instruction → Bool
takes_character (code.char c) = true
takes_character (code.char_set cs) = true
takes_character (code.byte_set bs) = true
takes_character (code.byte_seq bs) = is_one_character bs
takes_character code.any = true
takes_character code.any_in_line = true
takes_character (code.bracket k) = true
takes_character (code.ascii_bracket cs) = true
takes_character code.goal = false
takes_character (code.line_start multiline) = false
takes_character (code.line_end multiline) = false
takes_character (code.boundary inverted folded) = false
takes_character (code.back k icase) = false
takes_character (code.enter_loop f) = false
takes_character (code.loop_again begin) = false
takes_character (code.single_loop least most greedy) = false
takes_character (code.jump a) = false
takes_character (code.alt a) = false
takes_character (code.begin_group k) = false
takes_character (code.end_group k) = false
takes_character (code.reset_group k) = false
takes_character (code.submatch kind first last continuation) = false
takes_character code.fail = false

-- An instruction at an address fits its program: bytes stand in a program of bytes, brackets, groups and loops are there, an iteration ends for a repetition
-- that begins where it says, and what a one-character loop repeats takes one character.
abbrev pub Fits : Program → (at : ℕ) → Instruction → Type 0
Fits program at (code.byte_seq bs) = program.units ≡ false
Fits program at (code.bracket k) = k < length program.brackets
Fits program at (code.back k icase) = k < program.groups
Fits program at (code.enter_loop f) = (f.loop_id < program.loops) × (f.least ≤ f.most)
Fits program at (code.loop_again begin) = (f : LoopFields) × Stands program begin (code.enter_loop f)
Fits program at (code.single_loop least most greedy) = (i : Instruction) × Stands program (suc at) i × (takes_character i ≡ true) × (least ≤ most)
Fits program at (code.begin_group k) = k < program.groups
Fits program at (code.end_group k) = k < program.groups
Fits program at (code.reset_group k) = k < program.groups
Fits program at (code.submatch kind first last continuation) = (k : ℕ) → first ≤ k → k < last → k < program.groups
Fits program at code.goal = Unit {0}
Fits program at (code.char c) = Unit {0}
Fits program at (code.char_set cs) = Unit {0}
Fits program at (code.byte_set bs) = Unit {0}
Fits program at code.any = Unit {0}
Fits program at code.any_in_line = Unit {0}
Fits program at (code.ascii_bracket cs) = Unit {0}
Fits program at (code.line_start multiline) = Unit {0}
Fits program at (code.line_end multiline) = Unit {0}
Fits program at (code.boundary inverted folded) = Unit {0}
Fits program at (code.jump a) = Unit {0}
Fits program at (code.alt a) = Unit {0}
Fits program at code.fail = Unit {0}

-- A program is closed: each of its instructions fits it.
abbrev pub IsClosed : Program → Type 0
IsClosed program = (at : ℕ) (i : Instruction) → Stands program at i → Fits program at i
