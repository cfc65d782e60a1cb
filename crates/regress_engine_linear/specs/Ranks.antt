-- Programs of which no run comes back to an address without taking something, so that it visits each address and offset once.
use Rattle.std.specs.Prelude.{◌≡◌, ℕ, suc, ◌+◌, ◌%◌, ◌==◌, ◌<◌, ◌≤◌, ◌⊎◌, Bool, true, List, [], ◌∷◌, length, get_or}
use Rattle.regress_meaning.specs.Meaning.{Direction}
use Rattle.regress_meaning.specs.Inputs.{Input}
use Rattle.regress_front_nodes.specs.Trees.{Submatch, lookaround, atomic}
use Rattle.regress_front_nodes.specs.TreeMeaning.{submatch_direction}
use Rattle.regress_engine_input.specs.Views.{direction_of}
use Rattle.regress_engine_insn.specs.Instructions.{LoopFields, Instruction, Program, Stands}
use Rattle.regress_engine_insn.specs.Instructions as code
use Rattle.regress_engine_runs.specs.Runs.{room}
use Rattle.regress_engine_runs.specs.States.{Marks, Whole}
use Rattle.regress_engine_runs.specs.UndoStack.{Fails, whole}
use Rattle.regress_engine_memory.specs.Flow.{Flow}
use Rattle.regress_engine_memory.specs.Needs.{taken_by}
use Rattle.regress_engine_memory.specs.Under.{IsFurther}

-- For each of so many addresses a rank, its level, and where it goes on outside of the atomic group whose contents it is in, or an address that
-- is not there; for each loop the rank of where its body begins. Contents that turn the direction are of a deeper level than where they stand.
pub record Ranking : Type 0 where
  pub count : ℕ
  pub rank : ℕ → ℕ
  pub level : ℕ → ℕ
  pub outside : ℕ → ℕ
  pub top : ℕ → ℕ

-- what is of an even level is read forward
abbrev pub is_even : ℕ → Bool
is_even level = (level % 2) == 0

-- how an address is read
abbrev pub way_in : Ranking → ℕ → Direction
way_in r at = direction_of (is_even (r.level at))

-- From an address it is led to another by taking at least so much: something, or the other is ranked lower. It is of the same level, in the
-- same atomic group.
pub record Lowers (r : Ranking) (taken from to : ℕ) : Type 0 where
  pub within : to < r.count
  pub level : r.level to ≡ r.level from
  pub same : r.outside to ≡ r.outside from
  pub rank : (1 ≤ taken) ⊎ (r.rank to < r.rank from)

-- The contents of a lookaround or an atomic group are read as their kind says. They are of the level of what is around them, and ranked lower
-- than where they stand; or of a deeper level. Those of an atomic group are of the same, and outside of them it goes on behind it.
pub record Inside (r : Ranking) (kind : Submatch) (at continuation : ℕ) : Type 0 where
  pub within : suc at < r.count
  pub way : way_in r (suc at) ≡ submatch_direction kind (way_in r at)
  pub rank : ((r.level (suc at) ≡ r.level at) × (r.rank (suc at) < r.rank at)) ⊎ (r.level at < r.level (suc at))
  pub level : kind ≡ atomic → r.level (suc at) ≡ r.level at
  pub outside : kind ≡ atomic → r.outside (suc at) ≡ continuation

-- A repetition that begins at an address goes on from another: its body begins with its rank, and behind it its loop is not live.
pub record IsCycle (flow : Flow) (r : Ranking) (at begin : ℕ) (f : LoopFields) : Type 0 where
  pub least : f.least ≤ 1
  pub top : r.top f.loop_id ≡ r.rank (suc begin)
  pub more : Lowers r 0 at (suc begin)
  pub out : Lowers r 0 at f.exit
  pub left : flow.live f.exit f.loop_id ≡ true → ⊥

-- Of the rank of where it goes on behind an atomic group nothing is asked, as behind what takes something: its contents lead there.
abbrev pub asked_less : Submatch → ℕ
asked_less (lookaround negated backward) = 0
asked_less atomic = 1

-- An instruction leads on to what is ranked lower, but where it takes something; and the goal of an atomic group's contents is ranked above
-- where it goes on outside.
abbrev pub Ranks : Flow → Ranking → Program → (at : ℕ) → Instruction → Type 0
Ranks flow r program at code.goal = r.outside at < r.count → r.rank (r.outside at) < r.rank at
Ranks flow r program at code.fail = Unit {0}
Ranks flow r program at (code.back k icase) = ⊥
Ranks flow r program at (code.jump a) = Lowers r 0 at a
Ranks flow r program at (code.alt a) = Lowers r 0 at (suc at) × Lowers r 0 at a
Ranks flow r program at (code.enter_loop f) = IsCycle flow r at at f
Ranks flow r program at (code.loop_again begin) = (f : LoopFields) × Stands program begin (code.enter_loop f) × IsCycle flow r at begin f
Ranks flow r program at (code.single_loop least most greedy) = Lowers r least at (suc (suc at))
Ranks flow r program at (code.submatch kind first last continuation) = Lowers r (asked_less kind) at continuation × Inside r kind at continuation
Ranks flow r program at i = Lowers r (taken_by i) at (suc at)

-- Each instruction at a calm address does.
abbrev pub AreRanked : Flow → Ranking → Program → Type 0
AreRanked flow r program = (at : ℕ) (i : Instruction) → flow.calm at ≡ true → Stands program at i → Ranks flow r program at i

-- Each repetition has no greatest number that a text of so many units lets it come to, or has one iteration at most.
abbrev pub AreUnboundedOrOnce : (last : ℕ) → Program → Type 0
AreUnboundedOrOnce last program = (at : ℕ) (f : LoopFields) → Stands program at (code.enter_loop f) → (suc last < f.most) ⊎ (f.most ≡ 1)

-- A loop is under way at an address and an offset: its iteration has begun there, at no lower rank, or behind.
pub record IsRunning (r : Ranking) (last : ℕ) (dir : Direction) (at o id : ℕ) (x : ℕ × ℕ) : Type 0 where
  pub begun : 1 ≤ x.0
  pub few : x.0 + room last dir x.1 ≤ suc last
  pub place : ((x.1 ≡ o) × (r.rank at ≤ r.top id)) ⊎ IsFurther last dir x.1 o

-- A state lies in the text, and the loops that are live there are under way.
pub record AreRunning (flow : Flow) (r : Ranking) (program : Program) (last : ℕ) (dir : Direction) (s : Whole) : Type 0 where
  pub inside : s.offset ≤ last
  pub calm : flow.calm s.at ≡ true
  pub way : way_in r s.at ≡ dir
  pub size : length s.loops ≡ program.loops
  pub loops : (id : ℕ) → flow.live s.at id ≡ true → IsRunning r last dir s.at s.offset id (get_or s.loops id (0, 0))

-- Two states stand at one address and offset, and the loops that are live there are under way in both.
pub record AreBeside (flow : Flow) (r : Ranking) (program : Program) (last : ℕ) (dir : Direction) (s t : Whole) : Type 0 where
  pub at : s.at ≡ t.at
  pub offset : s.offset ≡ t.offset
  pub first : AreRunning flow r program last dir s
  pub second : AreRunning flow r program last dir t

-- as many states do one by one
abbrev pub AllBeside : Flow → Ranking → Program → (last : ℕ) → Direction → List Whole → List Whole → Type 0
AllBeside flow r program last dir [] [] = Unit {0}
AllBeside flow r program last dir (s ∷ ss) [] = ⊥
AllBeside flow r program last dir [] (t ∷ ts) = ⊥
AllBeside flow r program last dir (s ∷ ss) (t ∷ ts) = AreBeside flow r program last dir s t × AllBeside flow r program last dir ss ts

-- One state is beyond another: further on in the text, or there at an address of lower rank.
abbrev pub IsBeyond : Ranking → (last : ℕ) → Direction → Whole → Whole → Type 0
IsBeyond r last dir s u = IsFurther last dir s.offset u.offset ⊎ ((u.offset ≡ s.offset) × (r.rank u.at < r.rank s.at))

-- From an address and an offset no run has an answer, whatever the groups are, and whatever the loops that are under way there.
abbrev pub FailsAnyhow : Flow → Ranking → Program → Input → (last : ℕ) → Direction → (at o : ℕ) → Type 0
FailsAnyhow flow r program input last dir at o = (loops : List (ℕ × ℕ)) (groups : List Marks) → AreRunning flow r program last dir (whole at o loops groups)
    → Fails program input dir (whole at o loops groups ∷ [])
