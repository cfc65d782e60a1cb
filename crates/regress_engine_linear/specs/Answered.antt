-- Whether runs from an address and an offset have an answer.
use Rattle.std.specs.Prelude.{◌≡◌, ℕ, suc, ◌-◌, ◌&&◌, ◌||◌, Bool, true, false, List, [], ◌∷◌, length, Option, Some, None, is_some, not, if◌then◌else◌, slice_get, nat_le, nat_lt}
use Rattle.regress_meaning.specs.Meaning.{Direction}
use Rattle.regress_meaning.specs.Inputs.{Input}
use Rattle.regress_front_nodes.specs.Trees.{lookaround, atomic}
use Rattle.regress_engine_input.specs.Views.{View, input_of, reading_of}
use Rattle.regress_engine_insn.specs.Instructions.{LoopFields, Instruction, Program, Stands}
use Rattle.regress_engine_insn.specs.Instructions as code
use Rattle.regress_engine_runs.specs.Closed.{takes_character}
use Rattle.regress_engine_runs.specs.Meets.{Meets, reads_character, IsAtPlace, ReadsPlaces}
use Rattle.regress_engine_runs.specs.Runs.{Run, advance, after_times, counted, fields_of, one_by_one}
use Rattle.regress_engine_runs.specs.States.{Marks, Whole}
use Rattle.regress_engine_runs.specs.UndoStack.{whole}
use Rattle.regress_engine_memory.specs.Flow.{Flow}
use Rattle.regress_engine_memory.specs.Under.{IsFurther}
use Rattle.regress_engine_linear.specs.Ranks.{Ranking, AreRunning}

-- a run over some states ends, with an answer or without one
abbrev pub Ends : Program → Input → Direction → List Whole → Bool → Type 0
Ends program input dir ss b = (n : ℕ) × (a : Option Whole) × Run program input dir ss n a × (is_some a ≡ b)

-- Wherever a run over some states comes to an instruction that reads characters, it reads at places.
abbrev pub ReadsAlong : Program → View → Direction → List Whole → Type 0
ReadsAlong program v dir ss = (u : Whole) (i : Instruction) → Meets program (input_of v) dir ss u → Stands program u.at i → reads_character i ≡ true
    → ReadsPlaces (reading_of v) i u

-- Runs from an address and an offset that read at places end so, whatever the groups are, and whatever the loops that are under way there.
abbrev pub IsAnswered : Flow → Ranking → Program → View → Direction → (at o : ℕ) → Bool → Type 0
IsAnswered flow r program v dir at o b = (loops : List (ℕ × ℕ)) (groups : List Marks) → AreRunning flow r program (length v.units) dir (whole at o loops groups)
    → ReadsAlong program v dir (whole at o loops groups ∷ []) → Ends program (input_of v) dir (whole at o loops groups ∷ []) b

-- one of some states stands where it is told that runs have an answer
abbrev pub one_answers : (told : ℕ → ℕ → Bool) → List Whole → Bool
one_answers told [] = false
one_answers told (u ∷ us) = told u.at u.offset || one_answers told us

-- the first of some states that stands where it is told so
abbrev pub first_told : (told : ℕ → ℕ → Bool) → List Whole → Option Whole
first_told told [] = None
first_told told (u ∷ us) = if told u.at u.offset then Some u else first_told told us

-- one of some offsets is told of at an address
abbrev pub one_at : (told : ℕ → ℕ → Bool) → (at : ℕ) → List ℕ → Bool
one_at told at [] = false
one_at told at (o ∷ os) = told at o || one_at told at os

-- behind an instruction that takes characters
abbrev pub behind : (told : ℕ → ℕ → Bool) → (at : ℕ) → Option ℕ → Bool
behind told at None = false
behind told at (Some o) = told (suc at) o

-- where an iteration ends a repetition goes on, with one more iteration if it has more than one, or behind it
abbrev pub again : (told : ℕ → ℕ → Bool) → (o begin : ℕ) → Option LoopFields → Bool
again told o begin None = false
again told o begin (Some f) = (nat_lt 1 f.most && told (suc begin) o) || told f.exit o

module _ (told : ℕ → ℕ → Bool) (program : Program) (input : Input) (dir : Direction) where
  -- Whether runs from an address and an offset have an answer, by what is told of those to which its instruction leads.
  abbrev pub answer_at : Instruction → (at o : ℕ) → Bool
  answer_at code.goal at o = true
  answer_at code.fail at o = false
  answer_at (code.back k icase) at o = false
  answer_at (code.submatch (lookaround negated backward) first last continuation) at o =
      let has = told (suc at) o in (if negated then not has else has) && told continuation o
  answer_at (code.submatch atomic first last continuation) at o = false
  answer_at (code.jump a) at o = told a o
  answer_at (code.alt a) at o = told (suc at) o || told a o
  answer_at (code.begin_group k) at o = told (suc at) o
  answer_at (code.end_group k) at o = told (suc at) o
  answer_at (code.reset_group k) at o = told (suc at) o
  answer_at (code.enter_loop f) at o = told (suc at) o || (nat_le f.least 0 && told f.exit o)
  answer_at (code.loop_again begin) at o = again told o begin (fields_of (slice_get program.instructions begin))
  answer_at (code.single_loop least most greedy) at o = elim (slice_get program.instructions (suc at)) [
    | None ↦ false
    | Some i ↦ one_at told (suc (suc at)) (counted program input least most greedy i dir [] o)
  ]
  answer_at i at o = behind told at (advance program input i dir [] o)

-- an instruction is a one-character loop
abbrev pub is_single : Instruction → Bool
is_single (code.single_loop least most greedy) = true
is_single _ = false

-- Whether one of the exits of a one-character loop has an answer behind at least one more character; the offset behind one is given.
abbrev pub exits_at : (told : ℕ → ℕ → Bool) → (exits : ℕ → Bool) → (at : ℕ) → (next : Option ℕ) → Bool
exits_at told exits at None = false
exits_at told exits at (Some q) = told (suc (suc at)) q || exits q

module _ (told exits : ℕ → ℕ → Bool) (program : Program) (input : Input) (dir : Direction) where
  -- where the instruction behind an address leads that is repeated there
  abbrev pub next_at : (at o : ℕ) → Option ℕ
  next_at at o = elim (slice_get program.instructions (suc at)) [ None ↦ None | Some i ↦ advance program input i dir [] o ]

  -- what is worked out of the exits of a one-character loop
  abbrev pub exits_value_at : Instruction → (at o : ℕ) → Bool
  exits_value_at (code.single_loop least most greedy) at o = exits_at told (exits at) at (next_at at o)
  exits_value_at i at o = false

-- An instruction takes a character, and stands where a one-character loop at an address has what it repeats.
abbrev pub IsRepeated : Program → (at : ℕ) → Instruction → Type 0
IsRepeated program at body = Stands program (suc at) body × (takes_character body ≡ true)

module _ (told : ℕ → ℕ → Bool) (program : Program) (v : View) (dir : Direction) (at : ℕ) where
  -- whether one of all exits of a one-character loop behind at least one more character has an answer
  abbrev pub one_beyond : (body : Instruction) → (o : ℕ) → Bool
  one_beyond body o = elim (advance program (input_of v) body dir [] o) [
    | None ↦ false
    | Some q ↦ one_at told (suc (suc at)) (one_by_one program (input_of v) (length v.units) body dir [] q)
  ]

module _ (told exits : ℕ → ℕ → Bool) (program : Program) (v : View) (dir : Direction) (at o : ℕ) where
  -- that is told of a loop that repeats this instruction at each place further than an offset
  abbrev pub AreExitsOf : Instruction → Type 0
  AreExitsOf body = (q : ℕ) → IsAtPlace (reading_of v) q → IsFurther (length v.units) dir o q → exits at q ≡ one_beyond told program v dir at body q

  -- and of the one-character loop that stands at the address, if one does
  abbrev pub AreExitsRight : Type 0
  AreExitsRight = (least most : ℕ) (greedy : Bool) (body : Instruction) → Stands program at (code.single_loop least most greedy) → Stands program (suc at) body → AreExitsOf body

-- ---- which exit is preferred

module _ (told : ℕ → ℕ → Bool) where
  -- the first of some offsets that is told of at an address
  abbrev pub first_at : (at : ℕ) → List ℕ → Option ℕ
  first_at at [] = None
  first_at at (o ∷ os) = if told at o then Some o else first_at at os

  -- the last of them, or another where there is none
  abbrev pub last_at : (at : ℕ) → List ℕ → Option ℕ → Option ℕ
  last_at at [] found = found
  last_at at (o ∷ os) found = last_at at os (if told at o then Some o else found)

  module _ (program : Program) (input : Input) (dir : Direction) (groups : List Marks) where
    -- the preferred of the exits of a one-character loop, that goes on at an address, if it has as many characters as it needs
    abbrev pub exit_at : (least most : ℕ) → (greedy : Bool) → Instruction → (at o : ℕ) → Option ℕ
    exit_at least most greedy i at o = elim (after_times program input least i dir groups o) [
      | None ↦ None
      | Some near ↦ if greedy then last_at at (one_by_one program input (most - least) i dir groups near) None
          else first_at at (one_by_one program input (most - least) i dir groups near)
    ]
