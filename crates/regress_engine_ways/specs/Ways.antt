-- The way along what is told to have an answer.
use Rattle.std.specs.Prelude.{◌≡◌, ℕ, suc, ◌<◌, ◌≤◌, Bool, true, false, List, [], ◌∷◌, length, Option, Some, None, if◌then◌else◌, get_or, nat_le, nat_lt, option_map, reverse, slice_get, slice_set}
use Rattle.std.specs.List.{AllByRecursion}
use Rattle.std.specs.Option.{option_or}
use Rattle.regress_meaning.specs.Meaning.{Direction}
use Rattle.regress_meaning.specs.Inputs.{Input}
use Rattle.regress_front_nodes.specs.Trees.{Submatch, lookaround, atomic}
use Rattle.regress_engine_input.specs.Views.{View, input_of}
use Rattle.regress_engine_insn.specs.Instructions.{LoopFields, Instruction, Program, Stands}
use Rattle.regress_engine_insn.specs.Instructions as code
use Rattle.regress_engine_runs.specs.Meets.{referred}
use Rattle.regress_engine_runs.specs.Runs.{Run, advance, fields_of, one_by_one, room}
use Rattle.regress_engine_runs.specs.States.{Marks, Whole, begun, ended, unset}
use Rattle.regress_engine_runs.specs.UndoStack.{at_each, whole}
use Rattle.regress_engine_memory.specs.Flow.{Flow, IsFlow}
use Rattle.regress_engine_linear.specs.Ranks.{AreRanked, AreRunning, AreUnboundedOrOnce}
use Rattle.regress_engine_linear.specs.RankTables.{ArePlaced, Heights, ranking_of}
use Rattle.regress_engine_linear.specs.Answered.{ReadsAlong, answer_at, exit_at}
use Rattle.regress_engine_linear.specs.Linear.{LeavesGroups}
use Rattle.regress_engine_ways.specs.declared.station.Station.{Station}

-- the group whose marks an instruction writes
abbrev pub written_by : Instruction → Option ℕ
written_by (code.begin_group k) = Some k
written_by (code.end_group k) = Some k
written_by (code.reset_group k) = Some k
written_by _ = None

-- the groups behind an instruction
abbrev pub marked : Direction → Instruction → (o : ℕ) → List Marks → List Marks
marked dir (code.begin_group k) o groups = slice_set groups k (begun dir o (get_or groups k unset))
marked dir (code.end_group k) o groups = slice_set groups k (ended dir o (get_or groups k unset))
marked dir (code.reset_group k) o groups = slice_set groups k unset
marked dir _ o groups = groups

-- contents are gone through: those of an atomic group, and of a lookaround that is not negated and has groups inside
abbrev pub is_entered : Instruction → Bool
is_entered (code.submatch (lookaround false backward) first last continuation) = nat_lt first last
is_entered (code.submatch atomic first last continuation) = true
is_entered _ = false

-- an address and an offset
abbrev pub station : (at offset : ℕ) → Station
station at offset = record { at = at; offset = offset }

-- an address, with an offset, if there is one
abbrev pub station_at : ℕ → Option ℕ → Option Station
station_at at None = None
station_at at (Some o) = Some (station at o)

module _ (told : ℕ → ℕ → Bool) where
  -- of two addresses the first, where it is told of there, else the second
  abbrev pub first_of : (o a b : ℕ) → ℕ
  first_of o a b = if told a o then a else b

  -- of a repetition where one more iteration begins and where it is left, the preferred one first
  abbrev pub either_of : (greedy : Bool) → (o more out : ℕ) → ℕ
  either_of greedy o more out = if greedy then first_of o more out else first_of o out more

  -- where a repetition begins
  abbrev pub entered_at : LoopFields → (at o : ℕ) → ℕ
  entered_at f at o = if nat_le f.least 0 then either_of f.greedy o (suc at) f.exit else suc at

  -- where an iteration ends
  abbrev pub again_at : (o begin : ℕ) → Option LoopFields → Option Station
  again_at o begin None = None
  again_at o begin (Some f) = Some (station (if nat_lt 1 f.most then either_of f.greedy o (suc begin) f.exit else f.exit) o)

  module _ (program : Program) (input : Input) (dir : Direction) (groups : List Marks) where
    -- Where the way goes on from an address and an offset, by what is told of those to which the instruction leads; the groups are asked
    -- by no instruction that it comes to.
    abbrev pub led : Instruction → (at o : ℕ) → Option Station
    led code.goal at o = None
    led code.fail at o = None
    led (code.submatch kind first last continuation) at o = Some (station continuation o)
    led (code.jump a) at o = Some (station a o)
    led (code.alt a) at o = Some (station (first_of o (suc at) a) o)
    led (code.begin_group k) at o = Some (station (suc at) o)
    led (code.end_group k) at o = Some (station (suc at) o)
    led (code.reset_group k) at o = Some (station (suc at) o)
    led (code.enter_loop f) at o = Some (station (entered_at f at o) o)
    led (code.loop_again begin) at o = again_at o begin (fields_of (slice_get program.instructions begin))
    led (code.single_loop least most greedy) at o = elim (slice_get program.instructions (suc at)) [
      | None ↦ None
      | Some i ↦ station_at (suc (suc at)) (exit_at told program input dir groups least most greedy i (suc (suc at)) o)
    ]
    led i at o = station_at (suc at) (advance program input i dir groups o)

-- What a program is to be so that ways through it may be followed.
pub record MayPass (flow : Flow) (h : Heights) (program : Program) (v : View) : Type 0 where
  pub closed : IsFlow flow program
  pub ranked : AreRanked flow (ranking_of h) program
  pub placed : ArePlaced h (length h.ranks)
  pub unbounded : AreUnboundedOrOnce (length v.units) program
  pub unreferring : (at : ℕ) (i : Instruction) → Stands program at i → referred i ≡ None
  pub leaves : (at first last continuation : ℕ) (kind : Submatch) → Stands program at (code.submatch kind first last continuation)
      → LeavesGroups h program at kind first last continuation

-- A run from an address and an offset, with some groups, has this answer.
pub record IsOnWay (flow : Flow) (h : Heights) (program : Program) (v : View) (dir : Direction) (answer : Whole) (at o : ℕ) (groups : List Marks) : Type 0 where
  pub loops : List (ℕ × ℕ)
  pub steps : ℕ
  pub running : AreRunning flow (ranking_of h) program (length v.units) dir (whole at o loops groups)
  pub there : at < length h.ranks
  pub within : o ≤ length v.units
  pub reads : ReadsAlong program v dir (whole at o loops groups ∷ [])
  pub run : Run program (input_of v) dir (whole at o loops groups ∷ []) steps (Some answer)

-- Groups are as many as others, and the same but for those from the first up to before the last.
abbrev pub AreKept : (first last : ℕ) → (new old : List Marks) → Type 0
AreKept first last new old = (length new ≡ length old) × ((k : ℕ) → (first ≤ k → k < last → ⊥) → get_or new k unset ≡ get_or old k unset)

-- ---- where runs end

-- A run from an address and an offset that reads at places ends at this offset, if it has an answer, whatever the groups are, and whatever the
-- loops that are under way there.
abbrev pub IsEndedAt : Flow → Heights → Program → View → Direction → (at o : ℕ) → Option ℕ → Type 0
IsEndedAt flow h program v dir at o end = (loops : List (ℕ × ℕ)) (groups : List Marks) → AreRunning flow (ranking_of h) program (length v.units) dir (whole at o loops groups)
    → ReadsAlong program v dir (whole at o loops groups ∷ []) → (n : ℕ) (a : Option Whole) → Run program (input_of v) dir (whole at o loops groups ∷ []) n a
    → option_map (λ w. w.offset) a ≡ end

-- it is told of an address, at an offset if there is one
abbrev pub told_if : (told : ℕ → ℕ → Bool) → (at : ℕ) → Option ℕ → Bool
told_if told at None = false
told_if told at (Some o) = told at o

-- where runs from an address end, at an offset if there is one
abbrev pub end_if : (ends : ℕ → ℕ → Option ℕ) → (at : ℕ) → Option ℕ → Option ℕ
end_if ends at None = None
end_if ends at (Some o) = ends at o

-- where runs end from where a way goes on, if it does
abbrev pub end_from : (ends : ℕ → ℕ → Option ℕ) → Option Station → Option ℕ
end_from ends None = None
end_from ends (Some x) = ends x.at x.offset

module _ (told : ℕ → ℕ → Bool) (ends : ℕ → ℕ → Option ℕ) (program : Program) (input : Input) (dir : Direction) where
  -- What is worked out of an address and an offset. Of an atomic group it is told by where its contents end.
  abbrev pub value_at : Instruction → (at o : ℕ) → Bool
  value_at (code.submatch atomic first last continuation) at o = told_if told continuation (ends (suc at) o)
  value_at i at o = answer_at told program input dir i at o

  -- Where runs that have an answer end, by where those end to which the instruction leads.
  abbrev pub end_at : (groups : List Marks) → Instruction → (at o : ℕ) → Option ℕ
  end_at groups code.goal at o = Some o
  end_at groups (code.submatch atomic first last continuation) at o = end_if ends continuation (ends (suc at) o)
  end_at groups i at o = end_from ends (led told program input dir groups i at o)

-- ---- where runs end from the exits of a one-character loop

-- of where a run ends from an exit, and from those behind it, the preferred one
abbrev pub preferred : (greedy : Bool) → (here beyond : Option ℕ) → Option ℕ
preferred greedy here beyond = if greedy then option_or beyond here else option_or here beyond

-- of all exits at some offsets
abbrev pub preferred_of : (ends : ℕ → Option ℕ) → (greedy : Bool) → List ℕ → Option ℕ
preferred_of ends greedy [] = None
preferred_of ends greedy (o ∷ os) = preferred greedy (ends o) (preferred_of ends greedy os)

-- of all exits behind at least one more character; the offset behind one is given
abbrev pub end_beyond : (ends exit_ends : ℕ → Option ℕ) → (greedy : Bool) → (next : Option ℕ) → Option ℕ
end_beyond ends exit_ends greedy None = None
end_beyond ends exit_ends greedy (Some q) = preferred greedy (ends q) (exit_ends q)

-- of all exits from some offset on, behind at most so many characters, in a text of so many units
abbrev pub end_near : (ends exit_ends : ℕ → Option ℕ) → Program → Input → Direction → (greedy : Bool) → (body : Instruction) → (times units : ℕ) → (near : Option ℕ) → Option ℕ
end_near ends exit_ends program input dir greedy body times units None = None
end_near ends exit_ends program input dir greedy body times units (Some q) =
    if nat_lt times units then preferred_of ends greedy (one_by_one program input times body dir [] q) else preferred greedy (ends q) (exit_ends q)

-- some offsets in the order in which they are tried
abbrev pub in_order : (greedy : Bool) → List ℕ → List ℕ
in_order greedy os = if greedy then reverse os else os

module _ (flow : Flow) (h : Heights) (program : Program) (v : View) (dir : Direction) where
  -- A run over some states that reads at places ends at this offset, if it has an answer.
  abbrev pub AreEndedAt : List Whole → Option ℕ → Type 0
  AreEndedAt ss end = AllByRecursion (AreRunning flow (ranking_of h) program (length v.units) dir) ss → ReadsAlong program v dir ss
      → (n : ℕ) (a : Option Whole) → Run program (input_of v) dir ss n a → option_map (λ w. w.offset) a ≡ end

  -- So do runs over all exits of a one-character loop, from an offset on.
  abbrev pub AreExitsEndedAt : (at : ℕ) → (greedy : Bool) → (body : Instruction) → (o : ℕ) → Option ℕ → Type 0
  AreExitsEndedAt at greedy body o end = (n : ℕ) → room (length v.units) dir o ≤ n → (loops : List (ℕ × ℕ)) (groups : List Marks)
      → AreEndedAt (at_each program (input_of v) (suc (suc at)) loops groups (in_order greedy (one_by_one program (input_of v) n body dir [] o))) end

  -- and from the offset behind one more character, if there is one
  abbrev pub AreEndedFrom : (at : ℕ) → (greedy : Bool) → (body : Instruction) → (next : Option ℕ) → Option ℕ → Type 0
  AreEndedFrom at greedy body None end = end ≡ None
  AreEndedFrom at greedy body (Some q) end = AreExitsEndedAt at greedy body q end

  -- so over those behind at least one more
  abbrev pub AreBeyondEndedAt : (at : ℕ) → (greedy : Bool) → (body : Instruction) → (o : ℕ) → Option ℕ → Type 0
  AreBeyondEndedAt at greedy body o end = AreEndedFrom at greedy body (advance program (input_of v) body dir [] o) end

  -- and over those behind at most so many characters from where it has as many as it needs
  abbrev pub AreNearEndedAt : (at : ℕ) → (greedy : Bool) → (body : Instruction) → (times : ℕ) → (near : Option ℕ) → Option ℕ → Type 0
  AreNearEndedAt at greedy body times None end = end ≡ None
  AreNearEndedAt at greedy body times (Some q) end = (loops : List (ℕ × ℕ)) (groups : List Marks)
      → AreEndedAt (at_each program (input_of v) (suc (suc at)) loops groups (in_order greedy (one_by_one program (input_of v) times body dir [] q))) end
