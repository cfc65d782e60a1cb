-- Where a walk along what is told stands, inside and behind the contents of lookarounds and atomic groups.
use Rattle.std.specs.Prelude.{◌≡◌, ℕ, zero, suc, ◌+◌, ◌-◌, ◌*◌, ◌<◌, ◌≤◌, ◌&&◌, ◌==◌, Bool, true, false, nat_lt, not, List, [], ◌∷◌, drop, length, reverse, Option, Some, None, if◌then◌else◌}
use Rattle.regress_meaning.specs.Meaning.{Direction, Forward}
use Rattle.regress_front_nodes.specs.Trees.{Submatch, lookaround, atomic}
use Rattle.regress_engine_input.specs.Views.{View, direction_of, input_of, reading_of}
use Rattle.regress_engine_insn.specs.Instructions.{Instruction, Program, Stands}
use Rattle.regress_engine_insn.specs.Instructions as code
use Rattle.regress_engine_runs.specs.Items.{Answers as EndsIn}
use Rattle.regress_engine_runs.specs.Meets.{IsAtPlace}
use Rattle.regress_engine_runs.specs.Runs.{advance, one_by_one, room}
use Rattle.regress_engine_runs.specs.States.{Marks, Whole, mixed}
use Rattle.regress_engine_memory.specs.Flow.{Flow}
use Rattle.regress_engine_linear.specs.RankTables.{Heights, forward_at, outside_at, rank_at}
use Rattle.regress_engine_linear.specs.Answered.{one_at}
use Rattle.regress_engine_answers.specs.AnswerTables.{exits_by, told_by}
use Rattle.regress_engine_linear.specs.Linear.{AreLoopFree, StayInside, leaves_none, loop_sizes, repeats_inside}
use Rattle.regress_engine_ways.specs.Ways.{AreKept, IsOnWay, MayPass, is_entered}
use Rattle.regress_engine_answers.specs.Filled.{AreExitsKnown, AreRight}
use Rattle.regress_engine_answers.specs.declared.answers.Answers.{Answers}
use Rattle.regress_engine_walks.specs.declared.walker.Frame.{Frame}
use Rattle.regress_engine_ways.specs.declared.station.Station.{Station}
use Rattle.regress_engine_walks.specs.declared.walker.Walker.{Walker}

-- An address and an offset, whether it is read forward there, and for all contents around that are gone through, the innermost first, where
-- the way goes on behind them.
pub record Walk : Type 0 where
  pub at : ℕ
  pub offset : ℕ
  pub forward : Bool
  pub frames : List Frame

-- what a walker of the code is
abbrev pub walk_of : Walker → Walk
walk_of w = record { at = w.here.at; offset = w.here.offset; forward = w.forward; frames = reverse w.frames.items }

-- behind contents it goes on at the offset where they began, or, of an atomic group, where they end
abbrev pub returns : Submatch → Bool
returns (lookaround negated backward) = true
returns atomic = false

-- where the way goes on behind contents that stand behind an address and began at an offset, how it is read there, and whether it goes back to
-- that offset
abbrev pub frame : (opened continuation offset : ℕ) → (forward returning : Bool) → Frame
frame opened continuation offset forward returning = record { opened = opened; continuation = continuation; offset = offset; forward = forward; returns = returning }

-- the offset at which it goes on, where contents end at another
abbrev pub offset_behind : Frame → (o : ℕ) → ℕ
offset_behind f o = if f.returns then f.offset else o

-- whether contents are read forward
abbrev pub inside_forward : Submatch → (forward : Bool) → Bool
inside_forward (lookaround negated backward) forward = not backward
inside_forward atomic forward = forward

-- where contents begin that are gone through
abbrev pub entered : Instruction → Walk → Walk
entered (code.submatch kind first last continuation) w =
    record { at = suc w.at; offset = w.offset; forward = inside_forward kind w.forward; frames = frame w.at continuation w.offset w.forward (returns kind) ∷ w.frames }
entered i w = w

-- Where a walk goes on behind an instruction that leads to an address and an offset, or inside of its contents; and where it leads nowhere,
-- behind the innermost contents. Outside of all contents it has come to its end.
abbrev pub goes : Instruction → Option Station → Walk → Option Walk
goes i (Some x) w = Some (if is_entered i then entered i w else record w { at = x.at; offset = x.offset })
goes i None w = elim w.frames [ [] ↦ None | f ∷ fs ↦ Some (record { at = f.continuation; offset = offset_behind f w.offset; forward = f.forward; frames = fs }) ]

-- What is told of the exits of a one-character loop, from one address to another, is so: behind at least one more character one of them is
-- told of.
abbrev pub AreExitsTold : Program → View → Direction → List Marks → Answers → Instruction → (from to : ℕ) → Type 0
AreExitsTold program v dir groups a i from to = (o : ℕ) → IsAtPlace (reading_of v) o → exits_by a from o ≡ elim (advance program (input_of v) i dir groups o) [
  | None ↦ false
  | Some q ↦ one_at (told_by a) to (one_by_one program (input_of v) (length v.units) i dir groups q)
]

-- What a program, a text and a table of answers are to be so that it may be walked along what is told.
pub record MayWalk (flow : Flow) (h : Heights) (program : Program) (v : View) (a : Answers) : Type 0 where
  pub pass : MayPass flow h program v
  pub there : 0 < length h.ranks
  pub calm : flow.calm 0 ≡ true
  pub forward : forward_at h 0 ≡ true
  pub silent : (id : ℕ) → flow.live 0 id ≡ true → ⊥
  pub right : AreRight flow h program v a
  pub exits : AreExitsKnown flow h program v a
  pub once : loop_sizes program 0 program.instructions ≤ length h.order

-- No way leads out of contents that may have loops but from their end; others have no loops, or some of one character.
abbrev pub AreContents : (loops singles : Bool) → Program → (look first last continuation : ℕ) → Type 0
AreContents true singles program look first last continuation = StayInside program look first last continuation
AreContents false singles program look first last continuation = AreLoopFree program singles look first last continuation

-- An address lies in contents that stand behind another, behind which it goes on at a third, and the groups outside are as they were before them.
pub record IsInside (program : Program) (loops : Bool) (opened continuation at : ℕ) (groups before : List Marks) : Type 0 where
  pub first : ℕ
  pub last : ℕ
  pub singles : Bool
  pub free : AreContents loops singles program opened first last continuation
  pub after : opened < at
  pub ahead : at < continuation
  pub kept : AreKept first last groups before

-- no contents of a lookaround are gone through
abbrev pub are_atomic : List Frame → Bool
are_atomic [] = true
are_atomic (f ∷ fs) = not f.returns && are_atomic fs

-- Loops may stand in the innermost contents: in those of an atomic group where they may stand around it, and in those of a lookaround that is in
-- no other, and has some.
abbrev pub have_loops : Program → List Frame → Bool
have_loops program [] = true
have_loops program (f ∷ fs) = if f.returns then are_atomic fs && repeats_inside program f.opened f.continuation else have_loops program fs

-- Contents of an atomic group are read as what is around them, and outside of it it goes on behind them.
abbrev pub GoesOutside : Heights → Frame → (forward : Bool) → (at : ℕ) → Type 0
GoesOutside h f forward at = f.returns ≡ false → (forward ≡ f.forward) × (outside_at h at ≡ f.continuation)

-- an address stands behind the one behind which the innermost contents stand
abbrev pub IsWithin : List Frame → (at : ℕ) → Type 0
IsWithin [] at = Unit {0}
IsWithin (f ∷ fs) at = f.opened < at

-- In contents of a lookaround that have loops no other lookaround leaves groups.
abbrev pub AreAlone : Program → Frame → List Frame → Type 0
AreAlone program f fs = have_loops program (f ∷ fs) ≡ true → are_atomic (f ∷ fs) ≡ false → (b : ℕ) (i : Instruction) → f.opened < b → b < f.continuation → Stands program b i
    → leaves_none i ≡ true

module _ (flow : Flow) (h : Heights) (program : Program) (v : View) where
  -- A walk that began at an offset has come to an address and an offset, with some groups. Outside of all contents a run from there has the
  -- answer that the run from the begin of the walk has. Inside of some it has the answer of these contents, by which it is then on its way
  -- behind them.
  abbrev pub Walks : (start : ℕ) → List Frame → (forward : Bool) → (at o : ℕ) → List Marks → Type 0
  Walks start [] forward at o groups =
      (forward ≡ true) × ((answer : Whole) × IsOnWay flow h program v Forward answer at o groups × EndsIn program (input_of v) start (Some answer))
  Walks start (f ∷ fs) forward at o groups =
      (answer : Whole) × (before : List Marks) × IsOnWay flow h program v (direction_of forward) answer at o groups
      × (x : IsInside program (have_loops program (f ∷ fs)) f.opened f.continuation at groups before) × GoesOutside h f forward at × IsWithin fs f.opened × AreAlone program f fs
      × Walks start fs f.forward f.continuation (offset_behind f answer.offset) (mixed 0 x.first x.last answer.groups before)

-- the sizes of the lookarounds with loops that stand from an address on
abbrev pub sizes_from : Program → (at : ℕ) → ℕ
sizes_from program at = loop_sizes program at (drop at program.instructions)

-- how many of so many addresses from one on are ranked below a rank
abbrev pub lower_among : Heights → (rank from : ℕ) → (count : ℕ) → ℕ
lower_among h rank from zero = 0
lower_among h rank from (suc n) = (if nat_lt (rank_at h from) rank then 1 else 0) + lower_among h rank (suc from) n

module _ (h : Heights) (program : Program) (v : View) where
  -- so many addresses for each offset up to the end of the text, and the ranks below
  abbrev pub to_end : (at o : ℕ) → ℕ
  to_end at o = room (length v.units) Forward o * length h.order + rank_at h at

  -- for each offset of the text the addresses of lookarounds with loops that a walk may still come to, if it began where the text does
  abbrev pub in_loops : (start at : ℕ) → ℕ
  in_loops start at = if start == 0 then suc (length v.units) * sizes_from program at else 0

  -- So many addresses as contents have for each offset up to where the text ends in the direction in which they are read, and those of lower rank.
  abbrev pub far_inside : Frame → (at o : ℕ) → ℕ
  far_inside f at o =
      suc (room (length v.units) (direction_of (forward_at h at)) o * (f.continuation - suc f.opened) + lower_among h (rank_at h at) (suc f.opened) (f.continuation - suc f.opened))

  -- How far it is to the end of the text, in a walk that began at an offset: outside of lookarounds that, also inside of atomic groups. Inside of
  -- a lookaround without loops the addresses up to the end of the innermost contents, and how far it is behind them.
  abbrev pub far : (start : ℕ) → List Frame → (at o : ℕ) → ℕ
  far start [] at o = to_end at o + in_loops start at
  far start (f ∷ fs) at o =
      if have_loops program (f ∷ fs) then (if f.returns then far start fs f.continuation f.offset + far_inside f at o else far start fs at o)
      else far start fs f.continuation f.offset + (f.continuation - at)
