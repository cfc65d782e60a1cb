-- What a table of answers tells while it is filled: level by level, the deepest first, and of each offset by offset, and at each offset by rank.
use Rattle.std.specs.Prelude.{◌≡◌, ℕ, suc, ◌<◌, ◌≤◌, ◌⊎◌, Bool, true, false, length}
use Rattle.regress_meaning.specs.Meaning.{Direction}
use Rattle.regress_engine_input.specs.Views.{View, direction_of, reading_of}
use Rattle.regress_engine_insn.specs.Instructions.{Instruction, Program, Stands}
use Rattle.regress_engine_insn.specs.Instructions as code
use Rattle.regress_engine_runs.specs.Meets.{IsAtPlace, reads_character}
use Rattle.regress_engine_runs.specs.Runs.{room}
use Rattle.regress_engine_memory.specs.Flow.{Flow}
use Rattle.regress_engine_linear.specs.Answered.{IsAnswered, one_beyond}
use Rattle.regress_engine_answers.specs.AnswerTables.{ends_by, exit_ends_by, exits_by, told_by}
use Rattle.regress_engine_linear.specs.RankTables.{Heights, forward_at, index_at, outside_at, ranking_of}
use Rattle.regress_engine_ways.specs.Ways.{AreBeyondEndedAt, IsEndedAt}
use Rattle.regress_engine_linear.specs.declared.levels.Level.{Level}
use Rattle.regress_engine_answers.specs.declared.answers.Answers.{Answers}

-- Of what reads characters a table tells at places alone.
abbrev pub IsPlaced : Program → View → Answers → Type 0
IsPlaced program v a = (at o : ℕ) → told_by a at o ≡ true → (i : Instruction) × Stands program at i × (reads_character i ≡ true → IsAtPlace (reading_of v) o)

module _ (flow : Flow) (h : Heights) (program : Program) (v : View) where
  -- how an address is read
  abbrev pub way_of : ℕ → Direction
  way_of at = direction_of (forward_at h at)

  -- what a table tells of an address and an offset is so
  abbrev pub IsRight : Answers → (at o : ℕ) → Type 0
  IsRight a at o = IsAnswered flow (ranking_of h) program v (way_of at) at o (told_by a at o)

  -- What it tells of the exits of the one-character loop that stands at an address agrees with what it tells of each.
  abbrev pub IsExitRight : Answers → (at o : ℕ) → Type 0
  IsExitRight a at o = (least most : ℕ) (greedy : Bool) (body : Instruction) → Stands program at (code.single_loop least most greedy) → Stands program (suc at) body
      → IsAtPlace (reading_of v) o → exits_by a at o ≡ one_beyond (told_by a) program v (way_of at) at body o

  -- inside of an atomic group it is kept where runs from an address and an offset end
  abbrev pub IsEndRight : Answers → (at o : ℕ) → Type 0
  IsEndRight a at o = outside_at h at < length h.ranks → IsEndedAt flow h program v (way_of at) at o (ends_by a at o)

  -- and where they end from the exits of the one-character loop that stands there, behind at least one more character
  abbrev pub IsExitEndRight : Answers → (at o : ℕ) → Type 0
  IsExitEndRight a at o = outside_at h at < length h.ranks → (least most : ℕ) (greedy : Bool) (body : Instruction) → Stands program at (code.single_loop least most greedy)
      → Stands program (suc at) body → IsAtPlace (reading_of v) o → AreBeyondEndedAt flow h program v (way_of at) at greedy body o (exit_ends_by a at o)

  -- of a deeper level; or of this, further on in the text than an offset, or there and before an index of the order
  abbrev pub IsPast : Level → (k o : ℕ) → (at q : ℕ) → Type 0
  IsPast l k o at q = (index_at h at < l.from)
      ⊎ ((index_at h at < l.to) × ((room (length v.units) (direction_of l.forward) q < room (length v.units) (direction_of l.forward) o) ⊎ ((q ≡ o) × (index_at h at < k))))

  -- Of all that is past it is told and kept what is so, and of the rest nothing is told.
  pub record IsFilledBy (Past : (at q : ℕ) → Type 0) (a : Answers) : Type 0 where
    pub right : (at q : ℕ) → at < length h.ranks → q ≤ length v.units → Past at q → IsRight a at q × IsExitRight a at q
    pub fresh : (at q : ℕ) → q ≤ length v.units → (Past at q → ⊥) → (told_by a at q ≡ false) × (exits_by a at q ≡ false)
    pub spots : IsPlaced program v a
    pub ends : (at q : ℕ) → at < length h.ranks → q ≤ length v.units → Past at q → IsEndRight a at q × IsExitEndRight a at q

  -- it is filled so far: up to an index at an offset
  abbrev pub IsFilled : Answers → Level → (k o : ℕ) → Type 0
  IsFilled a l k o = IsFilledBy (IsPast l k o) a

  -- and at each offset up to an index
  abbrev pub IsFilledTo : Answers → (k : ℕ) → Type 0
  IsFilledTo a k = IsFilledBy (λ at q. index_at h at < k) a

  -- all that a table tells is so
  abbrev pub AreRight : Answers → Type 0
  AreRight a = (at q : ℕ) → at < length h.ranks → q ≤ length v.units → IsRight a at q

-- What is told of the exits of all one-character loops is so.
abbrev pub AreExitsKnown : Flow → Heights → Program → View → Answers → Type 0
AreExitsKnown flow h program v a = (at o : ℕ) → at < length h.ranks → o ≤ length v.units → IsExitRight flow h program v a at o
