-- What a search by a table of answers stands on.
use Rattle.std.specs.Prelude.{◌≡◌, ◌+◌, ◌*◌, ◌≤◌, ◌==◌, ℕ, suc, if◌then◌else◌, length, Option, Some, None}
use Rattle.regress_meaning.specs.Meaning.{Forward}
use Rattle.regress_engine_input.specs.Views.{View}
use Rattle.regress_engine_insn.specs.Instructions.{Program}
use Rattle.regress_engine_runs.specs.Runs.{room}
use Rattle.regress_engine_linear.specs.LinearViews.{flow_in, heights_in}
use Rattle.regress_engine_linear.specs.declared.testing.LinearTable.{LinearTable}
use Rattle.regress_engine_answers.specs.Filled.{AreExitsKnown, AreRight}
use Rattle.regress_engine_walks.specs.declared.searching.TextTable.{TextTable}

-- What is told of a text is so.
pub record IsTold (table : LinearTable) (program : Program) (v : View) (t : TextTable) : Type 0 where
  pub right : AreRight (flow_in table) (heights_in table) program v t.answers
  pub exits : AreExitsKnown (flow_in table) (heights_in table) program v t.answers
  pub blank : length t.blank.items ≡ program.groups

-- from where it begins to where it ends
abbrev pub from_start : ℕ → Option ℕ → Option (ℕ × ℕ)
from_start start None = None
from_start start (Some end) = Some (start, end)

-- So many more where it begins at the start of the text: what is visited at most once there may take one for each address at each offset.
abbrev pub start_steps : LinearTable → (units start : ℕ) → ℕ
start_steps table units start = if start == 0 then suc units * length (heights_in table).order else 0

-- So many steps were taken, at most one for each address at each offset from one on to another; where there is none, none.
abbrev pub StepsTo : LinearTable → View → (before after : ℕ) → Option (ℕ × ℕ) → Type 0
StepsTo table v before after None = after ≡ before
StepsTo table v before after (Some (start, end)) =
    after + room (length v.units) Forward end * length (heights_in table).order
    ≤ before + room (length v.units) Forward start * length (heights_in table).order + length (heights_in table).order + start_steps table (length v.units) start
