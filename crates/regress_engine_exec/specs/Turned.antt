-- What an executor turns to where no more steps may be counted.
use Rattle.std.specs.Prelude.{◌≡◌, ℕ, suc, ◌+◌, ◌-◌, ◌*◌, ◌^◌, ◌<◌, ◌≤◌, ◌&&◌, Bool, true, false, Option, Some, None, Result, OnOk, if◌then◌else◌, length, IfSome, nat_le, nat_lt}
use Rattle.regress_meaning.specs.Matches.{Item}
use Rattle.regress_engine_input.specs.Views.{View}
use Rattle.regress_engine_insn.specs.Instructions.{Program}
use Rattle.regress_engine_linear.specs.Linear.{IsLinear, too_long}
use Rattle.regress_engine_linear.specs.LinearViews.{flow_in, heights_in}
use Rattle.regress_engine_linear.specs.declared.testing.LinearTable.{LinearTable}
use Rattle.regress_engine_answers.specs.Filling.{fill_steps}
use Rattle.regress_engine_walks.specs.Searched.{IsTold, start_steps}
use Rattle.regress_engine_walks.specs.declared.searching.TextTable.{TextTable}
use Rattle.regress_engine_exec.specs.declared.turning.Turning.{Turning}
use Rattle.regress_engine_exec.specs.declared.tables.Tables.{Tables}

-- so many bits at most tell of the offsets of a text
abbrev pub most_told : ℕ
most_told = 2 ^ 29

-- so many offsets at most are kept while the table of a text is made
abbrev pub most_kept : ℕ
most_kept = 2 ^ 23

-- the table of a text of so many units takes no more: a bit for each address at each offset; nor does what is kept meanwhile, an offset for each
-- address inside of an atomic group at each offset
abbrev pub fits_told : LinearTable → (units : ℕ) → Bool
fits_told table units = nat_lt units most_told && (nat_le (length (heights_in table).order * suc units) most_told && nat_le (table.inside * suc units) most_kept)

-- So many steps are enough for all searches for the matches in a text of so many units, where its table fits: four for each address of the
-- program, at each offset of the text and at 64 more.
abbrev pub linear_steps : LinearTable → (units : ℕ) → Option ℕ
linear_steps table units = if fits_told table units then Some (4 * (length (heights_in table).order * (units + 64))) else None

-- a budget has a bound, and so many steps at least
abbrev pub has_steps : (left : Option ℕ) → ℕ → Bool
has_steps None steps = false
has_steps (Some left) steps = nat_le steps left

-- so many steps are enough by the table of a program, if it has one
abbrev pub enough_by : Option LinearTable → (units : ℕ) → Option ℕ
enough_by None units = None
enough_by (Some table) units = linear_steps table units

-- a budget has as many as are enough
abbrev pub has_enough : (left enough : Option ℕ) → Bool
has_enough left None = false
has_enough left (Some steps) = has_steps left steps

-- an executor turns to a table of the text, if it is given that of its program, and its budget has enough steps
abbrev pub may_turn : Option LinearTable → (units : ℕ) → (left : Option ℕ) → Bool
may_turn table units left = has_enough left (enough_by table units)

-- by its table, if there is one, a program is linear
abbrev pub TellsLinear : Program → Option LinearTable → Type 0
TellsLinear program table = ∥ IfSome table (λ t. IsLinear (flow_in t) (heights_in t) program) ∥₁

-- The program is linear as its table says, the text is not too long, and what is told of it, if anything, is so.
pub record TurnsBy (program : Program) (v : View) (table : LinearTable) (of_text : Option TextTable) : Type 0 where
  pub linear : IsLinear (flow_in table) (heights_in table) program
  pub short : suc (length v.units) < too_long
  pub told : IfSome of_text (IsTold table program v)

-- that is so of what a bounded search turns to
abbrev pub Turns : Program → View → Turning → Type 0
Turns program v t = TurnsBy program v t.table.now t.told

-- and of the tables by which a search without a bound goes on
abbrev pub GoesOnBy : Program → View → Tables → Type 0
GoesOnBy program v t = TurnsBy program v t.table (Some t.told)

-- what an executor turns to is so: by a table that was lent to it, and by tables of its own
pub record TurnsTo (program : Program) (v : View) (turning : Option Turning) (tables : Option Tables) : Type 0 where
  pub lent : IfSome turning (Turns program v)
  pub own : IfSome tables (GoesOnBy program v)

-- So many steps were taken by tables, with those that it will take to make that of the text, where it is not there yet.
abbrev pub told_steps : View → Turning → ℕ
told_steps v t = t.steps + elim t.told [ None ↦ fill_steps t.table.now v | Some told ↦ 0 ]

-- to walk from where a match begins to where it ends takes a step for each address at each offset at most, and from the begin of a text of so
-- many units one for each at each of the text; where there is none, none
abbrev pub walk_steps : LinearTable → (units : ℕ) → Option (ℕ × ℕ) → ℕ
walk_steps table units None = 0
walk_steps table units (Some (start, end)) = suc (end - start) * length (heights_in table).order + start_steps table units start

-- a search by tables took no more steps than its walk
abbrev pub CountsTold : View → (before after : Turning) → Option (ℕ × ℕ) → Type 0
CountsTold v before after found = told_steps v after ≤ told_steps v before + walk_steps before.table.now (length v.units) found

-- the same by the table of a program, if there is one
abbrev pub most_walked : Option LinearTable → (units : ℕ) → Option (ℕ × ℕ) → ℕ
most_walked None units found = 0
most_walked (Some table) units found = walk_steps table units found

-- where an item begins and ends
abbrev pub ends : Item → ℕ × ℕ
ends i = (i.start, i.end)

-- to make the table of a text takes so many steps, if there is the table of a program
abbrev pub filled_by : Option LinearTable → View → ℕ
filled_by None v = 0
filled_by (Some table) v = fill_steps table v

-- So many steps at most are still taken to walk along the matches from a position on: two for each address at each offset, and from the begin of
-- the text one more for each.
abbrev pub ahead : Option LinearTable → (units : ℕ) → (position : Option ℕ) → ℕ
ahead None units position = 0
ahead (Some table) units None = 0
ahead (Some table) units (Some position) = 2 * ((suc units - position) * length (heights_in table).order) + start_steps table units position

-- something is so behind a step of an iterator, unless that erred
abbrev pub UnlessErr : {T E : Type 0} → Option (Result T E) → Type 0 → Type 0
UnlessErr None P = P
UnlessErr (Some r) P = OnOk r P

-- an error does not say that there would be too many steps, if it is turned to a table then
abbrev pub NeverOver : {E : Type 0} → (IsOver : E → Type 0) → (turns : Bool) → E → Type 0
NeverOver IsOver turns e = turns ≡ true → IsOver e → ⊥
