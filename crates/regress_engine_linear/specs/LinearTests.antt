-- The test that a program is linear.
use Rattle.std.specs.Prelude.{◌≡◌, ℕ, suc, ◌+◌, ◌-◌, ◌<◌, ◌&&◌, ◌||◌, ◌==◌, if◌then◌else◌, Bool, true, false, not, List, get_or, length, nat_le, nat_lt}
use Rattle.regress_front_nodes.specs.Trees.{lookaround, atomic}
use Rattle.regress_engine_insn.specs.Instructions.{Instruction, Program}
use Rattle.regress_engine_insn.specs.Instructions as code
use Rattle.regress_engine_memory.specs.Deciding.{Table, calm_at, live_at}
use Rattle.regress_engine_memory.specs.Passing.{all_pass}
use Rattle.regress_engine_linear.specs.Linear.{few, is_visited_once, leads_through, leaves_none, loop_sizes, repeats, repeats_inside, stays_inside, too_long}
use Rattle.regress_engine_linear.specs.RankTables.{Heights, forward_at, rank_at}
use Rattle.regress_engine_linear.specs.declared.contents.Asked.{Asked}
use Rattle.regress_engine_linear.specs.declared.contents.Asked.TheVariants.{Through, Stay, NoRepetition, NoGroups}

-- for each address of a program it is told whether it is visited at most once
pub record AreOnce (once : List Bool) (program : Program) : Type 0 where
  pub count : length once ≡ length program.instructions
  pub each : (at : ℕ) → at < length program.instructions → get_or once at false ≡ is_visited_once program at

-- a greatest number is one that no text can reach
abbrev pub is_unbounded : ℕ → Bool
is_unbounded most = nat_le too_long most

-- an instruction may stand in a linear program
abbrev pub may_stand : Instruction → Bool
may_stand (code.enter_loop f) = is_unbounded f.most || (f.most == 1)
may_stand (code.single_loop least most greedy) = nat_le least few && (is_unbounded most || nat_le most few)
may_stand i = true

module _ (t : Table) where
  -- and it stands where no back reference can be reached
  abbrev pub fits_at : (at : ℕ) → Instruction → Bool
  fits_at at i = calm_at t at && may_stand i

  -- all of a program do, of which there are some, and a ranking has a rank for each; where it begins nothing is live, and it is read forward
  abbrev pub is_fit : Heights → Program → Bool
  is_fit h program = all_pass fits_at 0 program.instructions && ((length (live_at t 0) == 0) && (forward_at h 0
      && (nat_lt 0 (length h.ranks) && ((length h.ranks == length program.instructions) && (length h.order == length program.instructions)))))

-- an instruction is allowed inside of contents: where loops may stand it stays inside, else it leads through
abbrev pub is_allowed : (loops singles : Bool) → (at first last end : ℕ) → (b : ℕ) → Instruction → Bool
is_allowed true singles at first last end b i = stays_inside first last at end b i
is_allowed false singles at first last end b i = leads_through singles first last end b i

-- it stands outside of contents, from behind one address up to before another, or is allowed there
abbrev pub is_allowed_inside : (loops singles : Bool) → (at first last end : ℕ) → (b : ℕ) → Instruction → Bool
is_allowed_inside loops singles at first last end b i = nat_le b at || (nat_le end b || is_allowed loops singles at first last end b i)

-- there are contents, and each instruction inside is allowed
abbrev pub are_allowed : Program → (loops singles : Bool) → (at first last continuation : ℕ) → Bool
are_allowed program loops singles at first last continuation =
    nat_lt (suc at) continuation && all_pass (is_allowed_inside loops singles at first last continuation) 0 program.instructions

-- an instruction inside of contents is as it is asked to be
abbrev pub is_asked : Asked → (at first last end : ℕ) → (b : ℕ) → Instruction → Bool
is_asked (Through singles) at first last end b i = leads_through singles first last end b i
is_asked Stay at first last end b i = stays_inside first last at end b i
is_asked NoRepetition at first last end b i = not (repeats i)
is_asked NoGroups at first last end b i = leaves_none i

-- it stands outside of them, or is so
abbrev pub is_asked_inside : Asked → (at first last end : ℕ) → (b : ℕ) → Instruction → Bool
is_asked_inside asked at first last end b i = nat_le b at || (nat_le end b || is_asked asked at first last end b i)

-- as many ranks as they have instructions lie between where they stand and where it goes on behind them
abbrev pub have_ranks : Heights → (at continuation : ℕ) → Bool
have_ranks h at continuation = nat_le (rank_at h continuation + (continuation - at)) (rank_at h at)

module _ (program : Program) (at continuation : ℕ) where
  -- an instruction inside of contents is no lookaround that leaves groups
  abbrev pub is_alone : (b : ℕ) → Instruction → Bool
  is_alone b i = nat_le b at || (nat_le continuation b || leaves_none i)

  -- contents may have loops
  abbrev pub may_loop : (first last : ℕ) → Bool
  may_loop first last = is_visited_once program at && (are_allowed program true false at first last continuation && all_pass is_alone 0 program.instructions)

module _ (h : Heights) (program : Program) where
  -- what a lookaround or an atomic group leaves is as it has to be
  abbrev pub leaves_groups : (at : ℕ) → Instruction → Bool
  leaves_groups at (code.submatch (lookaround false backward) first last continuation) = nat_le last first
      || (if repeats_inside program at continuation then may_loop program at continuation first last
      else (are_allowed program false (is_visited_once program at) at first last continuation && have_ranks h at continuation))
  leaves_groups at (code.submatch atomic first last continuation) = are_allowed program true false at first last continuation
  leaves_groups at i = true

-- lookarounds whose contents have loops, and which leave groups, are together no longer than the program
abbrev pub are_short : Program → Bool
are_short program = nat_le (loop_sizes program 0 program.instructions) (length program.instructions)
