-- What is known of an address and an offset, by how many iterations have begun as far as that matters.
use Rattle.std.specs.Prelude.{◌≡◌, ℕ, ◌+◌, ◌<◌, ◌&&◌, ◌==◌, Bool, true, false, List, [], ◌∷◌, length, All, None, get_or, if◌then◌else◌, min, nat_lt}
use Rattle.regress_meaning.specs.Text.{holds}
use Rattle.std.specs.List.{list_all}
use Rattle.regress_meaning.specs.Meaning.{Direction}
use Rattle.regress_meaning.specs.Inputs.{Input}
use Rattle.regress_engine_insn.specs.Instructions.{Instruction, Program, Stands}
use Rattle.regress_engine_runs.specs.States.{Marks, Whole}
use Rattle.regress_engine_runs.specs.Runs.{is_plain, successors, one_by_one, room}
use Rattle.regress_engine_runs.specs.Meets.{Meets, referred}
use Rattle.regress_engine_runs.specs.UndoStack.{Fails, whole}
use Rattle.regress_engine_memory.specs.Flow.{Flow}
use Rattle.regress_engine_memory.specs.Under.{AreOnward, HasMoved}

-- What is told of a program, and which of its loops are counted: of these a key has the exact count.
pub record Keyed : Type 0 where
  pub flow : Flow
  pub counted : ℕ → Bool

-- how many iterations of a loop have begun, as far as a key tells: of one that is counted the number, of another up to the least
abbrev pub class_of : Keyed → (id count : ℕ) → ℕ
class_of keyed id c = if keyed.counted id then c else min c (keyed.flow.least id)

-- An address and an offset, read in a direction, and of each loop that is live there the class of its count.
pub record Key : Type 0 where
  pub dir : Direction
  pub at : ℕ
  pub offset : ℕ
  pub classes : ℕ → ℕ

-- the loops that are live have the classes of a key
abbrev pub HaveKey : Keyed → Key → List (ℕ × ℕ) → Type 0
HaveKey keyed k loops = (id : ℕ) → keyed.flow.live k.at id ≡ true → class_of keyed id (get_or loops id (0, 0)).0 ≡ k.classes id

-- A loop is fresh at an offset: its iteration that is under way has begun there and is past the least number, so that it may not end there.
abbrev pub is_fresh : Flow → (id o : ℕ) → ℕ × ℕ → Bool
is_fresh flow id o x = nat_lt (flow.least id) x.0 && (x.1 == o)

-- each of some loops is fresh at an offset
abbrev pub are_fresh : Flow → (o : ℕ) → List ℕ → List (ℕ × ℕ) → Bool
are_fresh flow o ids loops = list_all (λ id. is_fresh flow id o (get_or loops id (0, 0))) ids

-- they are
abbrev pub AreFresh : Flow → (o : ℕ) → List ℕ → List (ℕ × ℕ) → Type 0
AreFresh flow o ids loops = are_fresh flow o ids loops ≡ true

-- the iteration of each loop that is live may end, but of some that may be fresh
abbrev pub HaveMoved : Keyed → (last : ℕ) → (fresh : List ℕ) → Key → List (ℕ × ℕ) → Type 0
HaveMoved keyed last fresh k loops = (id : ℕ) → keyed.flow.live k.at id ≡ true → holds fresh id ≡ false → HasMoved keyed.flow last id k.dir k.offset (get_or loops id (0, 0))

-- of each of them that is not counted more may begin as long as there is text
abbrev pub HaveRoom : Keyed → (last : ℕ) → Key → List (ℕ × ℕ) → Type 0
HaveRoom keyed last k loops = (id : ℕ) → keyed.flow.live k.at id ≡ true → keyed.counted id ≡ false
    → (get_or loops id (0, 0)).0 + 1 + room last k.dir k.offset < keyed.flow.most id

-- Loops show that no state with a key may do more in which some of them are fresh: they have its classes, these are fresh and the others may
-- end their iterations, and they may begin more.
pub record AreFree (keyed : Keyed) (last : ℕ) (fresh : List ℕ) (k : Key) (loops : List (ℕ × ℕ)) : Type 0 where
  pub key : HaveKey keyed k loops
  pub begun : AreFresh keyed.flow k.offset fresh loops
  pub moved : HaveMoved keyed last fresh k loops
  pub room : HaveRoom keyed last k loops

module _ (program : Program) (input : Input) where
  -- each state that a run meets at an instruction that refers to no group leads only onward, whichever way it is read
  abbrev pub IsSteady : (last : ℕ) → Direction → List Whole → Type 0
  IsSteady last dir ts = (u : Whole) (i : Instruction) → Meets program input dir ts u → Stands program u.at i → is_plain i ≡ true
      → referred i ≡ None → (d : Direction) → AreOnward last d u.offset (successors program input i d u)

  -- From a key no run has an answer, whatever the groups are, and whatever the loops that have its classes.
  abbrev pub FailsAt : Keyed → Key → Type 0
  FailsAt keyed k = (loops : List (ℕ × ℕ)) (groups : List Marks) → length loops ≡ program.loops → HaveKey keyed k loops
      → Fails program input k.dir (whole k.at k.offset loops groups ∷ [])

  -- From a key no run has an answer, whatever the groups are, and whatever the loops that have its classes and of which some are fresh.
  abbrev pub FailsWhere : Keyed → (fresh : List ℕ) → Key → Type 0
  FailsWhere keyed fresh k = (loops : List (ℕ × ℕ)) (groups : List Marks) → length loops ≡ program.loops → HaveKey keyed k loops
      → AreFresh keyed.flow k.offset fresh loops → Fails program input k.dir (whole k.at k.offset loops groups ∷ [])

  -- from each of some keys no run has an answer
  abbrev pub AllFail : Keyed → List Key → Type 0
  AllFail keyed ks = All (FailsAt keyed) ks

  -- From a key no run has an answer, nor behind however many further iterations of an instruction.
  abbrev pub ExitsFail : Keyed → Instruction → Key → Type 0
  ExitsFail keyed i k = (n : ℕ) (groups : List Marks) → All (λ o. FailsAt keyed (record k { offset = o })) (one_by_one program input n i k.dir groups k.offset)
