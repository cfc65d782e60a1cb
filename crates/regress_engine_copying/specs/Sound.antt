-- When what waits is the program's.
use Rattle.std.specs.Prelude.{◌≡◌, List, [], ◌∷◌, length, Option, IfSome}
use Rattle.regress_engine_insn.specs.Instructions.{Program}
use Rattle.regress_engine_runs.specs.States.{Whole}
use Rattle.regress_engine_search.specs.Tasks.{HasGroups}
use Rattle.regress_engine_copying.specs.Held.{Entry, tried, submatched, Held}

-- A state has the program's loops and groups.
pub record IsWhole (program : Program) (s : Whole) : Type 0 where
  pub loops : length s.loops ≡ program.loops
  pub groups : length s.groups ≡ program.groups

-- each state that waits has the program's loops and groups, and those inside of a lookaround or an atomic group are there
unfoldable pub AreSound : Program → List Entry → Type 0
AreSound program [] = Unit {0}
AreSound program (tried s ∷ es) = IsWhole program s × AreSound program es
AreSound program (submatched f s ∷ es) = IsWhole program s × HasGroups program f × AreSound program es

-- what waits stays so, and so is what was taken off
abbrev pub StaysSound : Held → Option Whole → Held → Type 0
StaysSound h taken k = (program : Program) → AreSound program h.entries → AreSound program k.entries × IfSome taken (IsWhole program)
