-- When what an instruction reads is there.
use Rattle.std.specs.Prelude.{◌≡◌, ℕ, ◌-◌, ◌<◌, Bool, true, false, List, [], length}
use Rattle.regress_engine_input.specs.Views.{View, reading_of}
use Rattle.regress_engine_insn.specs.Instructions.{Instruction, Program, Stands}
use Rattle.regress_engine_insn.specs.Instructions as code
use Rattle.regress_engine_runs.specs.States.{Marks}
use Rattle.regress_engine_runs.specs.Meets.{reads_character, IsAtPlace, ReadsPlaces}
use Rattle.regress_engine_runs.specs.Closed.{Fits, takes_character}
use Rattle.regress_engine_runs.specs.UndoStack.{whole}

-- An instruction may be asked at an offset: it fits the program, and what it reads is at places.
pub record IsReady (program : Program) (v : View) (i : Instruction) (groups : List Marks) (o : ℕ) : Type 0 where
  pub fits : Fits program 0 i
  pub count : length groups ≡ program.groups
  pub reads : reads_character i ≡ true → ReadsPlaces (reading_of v) i (whole 0 o [] groups)

-- an instruction changes nothing but the offset
abbrev pub is_simple : Instruction → Bool
is_simple code.goal = false
is_simple (code.jump a) = false
is_simple (code.alt a) = false
is_simple (code.begin_group k) = false
is_simple (code.end_group k) = false
is_simple (code.reset_group k) = false
is_simple (code.enter_loop f) = false
is_simple (code.loop_again begin) = false
is_simple (code.single_loop least most greedy) = false
is_simple (code.submatch kind first last continuation) = false
is_simple (code.char c) = true
is_simple (code.char_set cs) = true
is_simple (code.byte_set bs) = true
is_simple (code.byte_seq bs) = true
is_simple code.any = true
is_simple code.any_in_line = true
is_simple (code.bracket k) = true
is_simple (code.ascii_bracket cs) = true
is_simple (code.line_start multiline) = true
is_simple (code.line_end multiline) = true
is_simple (code.boundary inverted folded) = true
is_simple (code.back k icase) = true
is_simple code.fail = true

-- the instruction before an address takes one character, and may be asked at an offset
abbrev pub IsBody : Program → View → (at offset : ℕ) → Type 0
IsBody program v at offset = (i : Instruction) × Stands program (at - 1) i × (takes_character i ≡ true) × IsAtPlace (reading_of v) offset × (0 < at)
