-- How many units a run has to take from an address on, at least.
use Rattle.std.specs.Prelude.{ℕ, suc, ◌-◌, ◌<◌, ◌&&◌, Bool, true, false, List, length, Option, Some, None, get_or, nat_le, slice_get}
use Rattle.std.specs.List.{AllByRecursion}
use Rattle.regress_meaning.specs.Meaning.{Direction}
use Rattle.regress_front_nodes.specs.Trees.{lookaround, atomic}
use Rattle.regress_engine_insn.specs.Instructions.{LoopFields, Instruction, Program}
use Rattle.regress_engine_insn.specs.Instructions as code
use Rattle.regress_engine_runs.specs.States.{Whole}
use Rattle.regress_engine_runs.specs.Runs.{fields_of, room}
use Rattle.regress_engine_memory.specs.Passing.{all_pass}

-- at least so many units are taken by an instruction that takes characters or bytes
abbrev pub taken_by : Instruction → ℕ
taken_by (code.char c) = 1
taken_by (code.char_set cs) = 1
taken_by (code.byte_set bs) = 1
taken_by (code.byte_seq bs) = length bs
taken_by code.any = 1
taken_by code.any_in_line = 1
taken_by (code.bracket k) = 1
taken_by (code.ascii_bracket cs) = 1
taken_by _ = 0

module _ (needs : List ℕ) where
  -- how many units are needed from an address on
  abbrev pub need : ℕ → ℕ
  need at = get_or needs at 0

  -- from an address no more are needed than an instruction takes and are needed where it goes on
  abbrev pub covers : (at taken to : ℕ) → Bool
  covers at taken to = nat_le (need at - taken) (need to)

  -- an iteration ends, of the repetition that an instruction begins
  abbrev pub covers_iteration : (at begin : ℕ) → Option LoopFields → Bool
  covers_iteration at begin None = false
  covers_iteration at begin (Some f) = covers at 0 (suc begin) && covers at 0 f.exit

  -- an instruction at an address needs no more than it takes and what it leads to needs
  abbrev pub needs_at : Program → (at : ℕ) → Instruction → Bool
  needs_at program at code.goal = nat_le (need at) 0
  needs_at program at code.fail = true
  needs_at program at (code.back k icase) = nat_le (need at) 0
  needs_at program at (code.jump a) = covers at 0 a
  needs_at program at (code.alt a) = covers at 0 (suc at) && covers at 0 a
  needs_at program at (code.enter_loop f) = covers at 0 (suc at) && covers at 0 f.exit
  needs_at program at (code.loop_again begin) = covers_iteration at begin (fields_of (slice_get program.instructions begin))
  needs_at program at (code.single_loop least most greedy) = covers at least (suc (suc at))
  needs_at program at (code.submatch (lookaround negated backward) first last continuation) = covers at 0 continuation
  needs_at program at (code.submatch atomic first last continuation) = nat_le (need at) 0
  needs_at program at i = covers at (taken_by i) (suc at)

  -- the numbers are those of the program
  abbrev pub are_needs : Program → Bool
  are_needs program = all_pass (needs_at program) 0 program.instructions

  -- fewer units are left in the text than a state needs
  abbrev pub IsShort : (last : ℕ) → Direction → Whole → Type 0
  IsShort last dir s = room last dir s.offset < need s.at

  -- each of some states is short
  abbrev pub AreShort : (last : ℕ) → Direction → List Whole → Type 0
  AreShort last dir ss = AllByRecursion (IsShort last dir) ss
