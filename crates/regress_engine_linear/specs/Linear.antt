-- Programs of which a search takes time that grows as program and text do.
use Rattle.std.specs.Prelude.{◌≡◌, ℕ, suc, ◌+◌, ◌-◌, ◌^◌, ◌<◌, ◌≤◌, ◌&&◌, ◌||◌, ◌⊎◌, Bool, true, false, not, drop, length, min, nat_le, nat_lt, List, [], ◌∷◌, Option, Some, if◌then◌else◌, slice_get}
use Rattle.regress_front_nodes.specs.Trees.{Submatch, lookaround, atomic}
use Rattle.regress_engine_insn.specs.Instructions.{LoopFields, Instruction, Program, Stands}
use Rattle.regress_engine_insn.specs.Instructions as code
use Rattle.regress_engine_memory.specs.Flow.{Flow, IsFlow}
use Rattle.regress_engine_memory.specs.Passing.{all_pass}
use Rattle.regress_engine_linear.specs.Ranks.{AreRanked}
use Rattle.regress_engine_linear.specs.RankTables.{Heights, ArePlaced, forward_at, rank_at, ranking_of}

-- so long is no text
abbrev pub too_long : ℕ
too_long = 2 ^ 63

-- a repetition has no greatest number that a text can reach, or has one iteration at most
abbrev pub IsUnboundedOrOnce : LoopFields → Type 0
IsUnboundedOrOnce f = (too_long ≤ f.most) ⊎ (f.most ≡ 1)

-- An instruction at an address, inside of contents that end before another, is no repetition and refers to no group. It leads further, but not
-- past that end, and it writes groups of a range alone: from the first up to before the last. It is a loop of one character only where such
-- may stand.
abbrev pub leads_through : (singles : Bool) → (first last end : ℕ) → (at : ℕ) → Instruction → Bool
leads_through singles first last end at code.goal = true
leads_through singles first last end at code.fail = true
leads_through singles first last end at (code.back k icase) = false
leads_through singles first last end at (code.enter_loop f) = false
leads_through singles first last end at (code.loop_again begin) = false
leads_through singles first last end at (code.single_loop least most greedy) = singles && nat_lt (suc (suc at)) end
leads_through singles first last end at (code.jump a) = nat_lt at a && nat_lt a end
leads_through singles first last end at (code.alt a) = nat_lt (suc at) end && (nat_lt at a && nat_lt a end)
leads_through singles first last end at (code.begin_group k) = nat_lt (suc at) end && (nat_le first k && nat_lt k last)
leads_through singles first last end at (code.end_group k) = nat_lt (suc at) end && (nat_le first k && nat_lt k last)
leads_through singles first last end at (code.reset_group k) = nat_lt (suc at) end && (nat_le first k && nat_lt k last)
leads_through singles first last end at (code.submatch kind low high continuation) =
    nat_lt (suc at) end && ((nat_lt at continuation && nat_lt continuation end) && (nat_le first low && nat_le high last))
leads_through singles first last end at i = nat_lt (suc at) end

-- The contents of what is matched by itself have no loop, but of one character where such may stand: each way through them goes from the front
-- to the back, and writes the groups inside alone.
pub record AreLoopFree (program : Program) (singles : Bool) (at first last continuation : ℕ) : Type 0 where
  pub some : suc at < continuation
  pub leads : (b : ℕ) (i : Instruction) → at < b → b < continuation → Stands program b i → leads_through singles first last continuation b i ≡ true

-- An instruction inside of contents, from behind one address up to before another, refers to no group. Each address that it leads to is inside,
-- and so is each group that it writes.
abbrev pub stays_inside : (first last at end : ℕ) → (b : ℕ) → Instruction → Bool
stays_inside first last at end b code.goal = true
stays_inside first last at end b code.fail = true
stays_inside first last at end b (code.back k icase) = false
stays_inside first last at end b (code.enter_loop f) = nat_lt (suc b) end && (nat_lt at f.exit && nat_lt f.exit end)
stays_inside first last at end b (code.loop_again begin) = nat_lt at begin && nat_lt begin end
stays_inside first last at end b (code.single_loop least most greedy) = nat_lt (suc (suc b)) end
stays_inside first last at end b (code.jump a) = nat_lt at a && nat_lt a end
stays_inside first last at end b (code.alt a) = nat_lt (suc b) end && (nat_lt at a && nat_lt a end)
stays_inside first last at end b (code.begin_group k) = nat_lt (suc b) end && (nat_le first k && nat_lt k last)
stays_inside first last at end b (code.end_group k) = nat_lt (suc b) end && (nat_le first k && nat_lt k last)
stays_inside first last at end b (code.reset_group k) = nat_lt (suc b) end && (nat_le first k && nat_lt k last)
stays_inside first last at end b (code.submatch kind low high continuation) =
    nat_lt (suc b) end && ((nat_lt at continuation && nat_lt continuation end) && (nat_le first low && nat_le high last))
stays_inside first last at end b i = nat_lt (suc b) end

-- The contents of what is matched by itself may have loops: no way leads out of them but from their end, and they write the groups inside
-- alone.
pub record StayInside (program : Program) (at first last continuation : ℕ) : Type 0 where
  pub some : suc at < continuation
  pub stays : (b : ℕ) (i : Instruction) → at < b → b < continuation → Stands program b i → stays_inside first last at continuation b i ≡ true

-- an instruction is the start of the text
abbrev pub is_text_start : Option Instruction → Bool
is_text_start (Some (code.line_start false)) = true
is_text_start _ = false

-- an instruction begins a repetition of more than one character
abbrev pub repeats : Instruction → Bool
repeats (code.enter_loop f) = true
repeats _ = false

-- how far back an instruction at an address may lead: an iteration goes on behind where its repetition begins
abbrev pub leads_back : (at : ℕ) → Instruction → ℕ
leads_back at (code.jump a) = a
leads_back at (code.alt a) = a
leads_back at (code.enter_loop f) = f.exit
leads_back at (code.loop_again begin) = begin
leads_back at (code.submatch kind first last continuation) = continuation
leads_back at i = suc at

-- the same of all instructions from an address on
abbrev pub lead_back : (at : ℕ) → List Instruction → ℕ
lead_back at [] = at
lead_back at (i ∷ is) = min (leads_back at i) (lead_back (suc at) is)

-- What stands at an address is visited at most once: a match begins at the start of the text alone, and from behind the address no way leads
-- back to it.
abbrev pub is_visited_once : Program → (at : ℕ) → Bool
is_visited_once program at = is_text_start (slice_get program.instructions 0) && nat_lt at (lead_back (suc at) (drop (suc at) program.instructions))

-- a repetition of more than one character begins at one of the addresses from behind one up to before another
abbrev pub repeats_inside : Program → (at end : ℕ) → Bool
repeats_inside program at end = not (all_pass (λ b i. nat_le b at || (nat_le end b || not (repeats i))) 0 program.instructions)

-- an instruction is no lookaround that leaves groups: it is negated, or none are inside
abbrev pub leaves_none : Instruction → Bool
leaves_none (code.submatch (lookaround false backward) first last continuation) = nat_le last first
leaves_none i = true

-- The contents of a lookaround may have loops where it is visited at most once, if no way leads out of them but from their end, they write the
-- groups inside alone, and no lookaround inside leaves groups.
pub record MayLoop (program : Program) (at first last continuation : ℕ) : Type 0 where
  pub once : is_visited_once program at ≡ true
  pub stay : StayInside program at first last continuation
  pub alone : (b : ℕ) (i : Instruction) → at < b → b < continuation → Stands program b i → leaves_none i ≡ true

-- So many addresses has a lookaround whose contents have loops, with its own, if it leaves groups.
abbrev pub loop_size : Program → (at : ℕ) → Instruction → ℕ
loop_size program at (code.submatch (lookaround false backward) first last continuation) =
    if nat_lt first last && repeats_inside program at continuation then continuation - at else 0
loop_size program at i = 0

-- those from an address on have together
abbrev pub loop_sizes : Program → (at : ℕ) → List Instruction → ℕ
loop_sizes program at [] = 0
loop_sizes program at (i ∷ is) = loop_size program at i + loop_sizes program (suc at) is

-- At least as many ranks lie between where contents stand and where it goes on behind them as they have instructions.
abbrev pub HaveRanks : Heights → (at continuation : ℕ) → Type 0
HaveRanks h at continuation = rank_at h continuation + (continuation - at) ≤ rank_at h at

-- Contents that leave groups may have loops, or have none, so that a way through them is as short as they are, and ranks lie between.
abbrev pub AreLeaving : (loops : Bool) → Heights → Program → (at first last continuation : ℕ) → Type 0
AreLeaving true h program at first last continuation = MayLoop program at first last continuation
AreLeaving false h program at first last continuation = AreLoopFree program (is_visited_once program at) at first last continuation × HaveRanks h at continuation

-- What a lookaround leaves is where it stands: it is negated, no groups are inside, or its contents have no loop, but where it is visited at
-- most once. No way leads out of the contents of an atomic group but from their end.
abbrev pub LeavesGroups : Heights → Program → (at : ℕ) → Submatch → (first last continuation : ℕ) → Type 0
LeavesGroups h program at (lookaround true backward) first last continuation = Unit {0}
LeavesGroups h program at (lookaround false backward) first last continuation =
    first < last → AreLeaving (repeats_inside program at continuation) h program at first last continuation
LeavesGroups h program at atomic first last continuation = StayInside program at first last continuation

-- of a one-character loop there are few iterations at least, and few or any number at most
abbrev pub few : ℕ
few = 256

abbrev pub AreFew : (least most : ℕ) → Type 0
AreFew least most = (least ≤ few) × ((too_long ≤ most) ⊎ (most ≤ few))

-- A program is linear, by what flows through it and by a ranking: no back reference can be reached, no way leads back to an address without
-- taking something, no repetition has a greatest number but 1, or a small one of one character, and of a lookaround nothing is left but whether
-- it matches, or what contents without loops leave, or such as are visited at most once; these are together no longer than the program.
pub record IsLinear (flow : Flow) (h : Heights) (program : Program) : Type 0 where
  pub flows : IsFlow flow program
  pub calm : (at : ℕ) → at < length program.instructions → flow.calm at ≡ true
  pub silent : (id : ℕ) → flow.live 0 id ≡ true → ⊥
  pub ranked : AreRanked flow (ranking_of h) program
  pub placed : ArePlaced h (length program.instructions)
  pub count : length h.ranks ≡ length program.instructions
  pub ranks : length h.order ≡ length program.instructions
  pub some : 0 < length program.instructions
  pub begins : forward_at h 0 ≡ true
  pub unbounded : (at : ℕ) (f : LoopFields) → Stands program at (code.enter_loop f) → IsUnboundedOrOnce f
  pub counts : (at least most : ℕ) (greedy : Bool) → Stands program at (code.single_loop least most greedy) → AreFew least most
  pub leaves : (at first last continuation : ℕ) (kind : Submatch) → Stands program at (code.submatch kind first last continuation)
      → LeavesGroups h program at kind first last continuation
  pub once : loop_sizes program 0 program.instructions ≤ length program.instructions
