-- A table of ranks, and the test that instructions lead on to what is ranked lower.
use Rattle.std.specs.Prelude.{◌≡◌, ◌+◌, ◌<◌, ◌⊎◌, ℕ, suc, ◌&&◌, ◌||◌, ◌==◌, not, Bool, true, false, List, [], ◌∷◌, Option, Some, None, if◌then◌else◌, length, get_or, slice_get, nat_lt, nat_le}
use Rattle.regress_meaning.specs.Text.{holds}
use Rattle.regress_front_nodes.specs.Trees.{Submatch, lookaround, atomic}
use Rattle.regress_engine_insn.specs.Instructions.{LoopFields, Instruction, Program}
use Rattle.regress_engine_insn.specs.Instructions as code
use Rattle.regress_engine_runs.specs.Runs.{fields_of}
use Rattle.regress_engine_memory.specs.Deciding.{Table, calm_at, live_at}
use Rattle.regress_engine_memory.specs.Needs.{taken_by}
use Rattle.regress_engine_memory.specs.Passing.{all_pass}
use Rattle.regress_engine_linear.specs.Ranks.{Ranking, asked_less, is_even}
use Rattle.regress_engine_linear.specs.declared.ranks.RankTable.{RankTable}

-- For each address its rank, its level, and where it goes on outside of the atomic group around it, or the address behind the last; for each
-- loop the rank of where its body begins; and the addresses in the order in which they are worked out, with the index of each.
pub record Heights : Type 0 where
  pub ranks : List ℕ
  pub levels : List ℕ
  pub outside : List ℕ
  pub tops : List ℕ
  pub order : List ℕ
  pub indices : List ℕ

-- what a table of the code is
abbrev pub heights_of : RankTable → Heights
heights_of t = record { ranks = t.ranks.items; levels = t.levels.items; outside = t.outside.items; tops = t.tops.items; order = t.order.items; indices = t.indices.items }

-- how many of some numbers are below another
abbrev pub below : ℕ → List ℕ → ℕ
below n [] = 0
below n (x ∷ xs) = (if nat_lt x n then 1 else 0) + below n xs

module _ (h : Heights) where
  -- so many addresses are inside of the contents of atomic groups
  abbrev pub inside_in : ℕ
  inside_in = below (length h.ranks) h.outside

  -- the rank of an address
  abbrev pub rank_at : ℕ → ℕ
  rank_at a = get_or h.ranks a 0

  -- the level of an address
  abbrev pub level_at : ℕ → ℕ
  level_at a = get_or h.levels a 0

  -- an address is read forward
  abbrev pub forward_at : ℕ → Bool
  forward_at a = is_even (level_at a)

  -- where it goes on outside of the atomic group around an address
  abbrev pub outside_at : ℕ → ℕ
  outside_at a = get_or h.outside a 0

  -- the rank of where a loop's body begins
  abbrev pub top_of : ℕ → ℕ
  top_of id = get_or h.tops id 0

  -- what the table tells
  abbrev pub ranking_of : Ranking
  ranking_of = record { count = length h.ranks; rank = rank_at; level = level_at; outside = outside_at; top = top_of }

  -- the index of an address in the order
  abbrev pub index_at : ℕ → ℕ
  index_at a = get_or h.indices a 0

  -- the address at an index
  abbrev pub address_at : ℕ → ℕ
  address_at k = get_or h.order k 0

  -- one address is worked out before another: it is of a deeper level, or of the same and ranked lower
  abbrev pub IsBefore : (a b : ℕ) → Type 0
  IsBefore a b = (level_at b < level_at a) ⊎ ((level_at b ≡ level_at a) × (rank_at a < rank_at b))

  -- Each of so many addresses has a rank, and stands in the order where its index tells; no others do, and each comes before those behind it.
  pub record ArePlaced (count : ℕ) : Type 0 where
    pub low : (at : ℕ) → at < count → rank_at at < length h.order
    pub index : (at : ℕ) → at < count → index_at at < length h.order
    pub address : (at : ℕ) → at < count → address_at (index_at at) ≡ at
    pub there : (k : ℕ) → k < length h.order → address_at k < count
    pub before : (j k : ℕ) → j < k → k < length h.order → IsBefore (address_at j) (address_at k)

  -- the test of one before another
  abbrev pub is_before : (a b : ℕ) → Bool
  is_before a b = nat_lt (level_at b) (level_at a) || ((level_at b == level_at a) && nat_lt (rank_at a) (rank_at b))

  -- an address is there and is read so
  abbrev pub is_read : (forward : Bool) → ℕ → Bool
  is_read forward at = nat_lt at (length h.ranks) && (if forward then forward_at at else not (forward_at at))

  -- an address is there and is of a level
  abbrev pub is_on : (level at : ℕ) → Bool
  is_on level at = nat_lt at (length h.ranks) && (level_at at == level)

  -- from an address it is led to another by taking so much at least, or the other is ranked lower
  abbrev pub lowers : (taken from to : ℕ) → Bool
  lowers taken from to = is_on (level_at from) to && ((outside_at to == outside_at from) && (nat_lt 0 taken || nat_lt (rank_at to) (rank_at from)))

  -- the contents of a lookaround or an atomic group are read as its kind says, and outside of an atomic group it goes on behind it
  abbrev pub turns : Submatch → (at continuation : ℕ) → Bool
  turns (lookaround negated backward) at continuation = is_read (not backward) (suc at)
  turns atomic at continuation = is_on (level_at at) (suc at) && (outside_at (suc at) == continuation)

  -- they are of the level of what is around them, and ranked lower, or of a deeper level
  abbrev pub is_apart : (at : ℕ) → Bool
  is_apart at = (is_on (level_at at) (suc at) && nat_lt (rank_at (suc at)) (rank_at at)) || nat_lt (level_at at) (level_at (suc at))

  -- both hold of them
  abbrev pub holds_inside : Submatch → (at continuation : ℕ) → Bool
  holds_inside kind at continuation = turns kind at continuation && is_apart at

  -- a goal is ranked above where it goes on outside of the atomic group whose contents it ends
  abbrev pub leaves : (at : ℕ) → Bool
  leaves at = nat_le (length h.ranks) (outside_at at) || nat_lt (rank_at (outside_at at)) (rank_at at)

  module _ (t : Table) where
    -- a repetition that begins at an address goes on from another
    abbrev pub is_cycle : (at begin : ℕ) → LoopFields → Bool
    is_cycle at begin f = nat_le f.least 1 && ((top_of f.loop_id == rank_at (suc begin))
        && (lowers 0 at (suc begin) && (lowers 0 at f.exit && not (holds (live_at t f.exit) f.loop_id))))

    -- where an instruction begins one
    abbrev pub cycles : (at begin : ℕ) → Option LoopFields → Bool
    cycles at begin None = false
    cycles at begin (Some f) = is_cycle at begin f

    -- an instruction at an address leads on to what is ranked lower, but where it takes something
    abbrev pub ranks : Program → (at : ℕ) → Instruction → Bool
    ranks program at code.goal = leaves at
    ranks program at code.fail = true
    ranks program at (code.back k icase) = false
    ranks program at (code.jump a) = lowers 0 at a
    ranks program at (code.alt a) = lowers 0 at (suc at) && lowers 0 at a
    ranks program at (code.enter_loop f) = is_cycle at at f
    ranks program at (code.loop_again begin) = cycles at begin (fields_of (slice_get program.instructions begin))
    ranks program at (code.single_loop least most greedy) = lowers least at (suc (suc at))
    ranks program at (code.submatch kind first last continuation) = lowers (asked_less kind) at continuation && holds_inside kind at continuation
    ranks program at i = lowers (taken_by i) at (suc at)

    -- it does where its address is calm
    abbrev pub ranks_if_calm : Program → (at : ℕ) → Instruction → Bool
    ranks_if_calm program at i = not (calm_at t at) || ranks program at i

    -- all of them do
    abbrev pub are_ranked : Program → Bool
    are_ranked program = all_pass (ranks_if_calm program) 0 program.instructions
