-- How a run or a search ends.
use Rattle.std.specs.Prelude.{Option}
use Rattle.regress_engine_search.specs.declared.budget.Ended.{Ended}
use Rattle.regress_engine_search.specs.declared.budget.Ended.TheVariants as ending

-- it was made to its end, with what was found
abbrev pub IfEnded : {T : Type 0} → Ended T → (Option T → Type 0) → Type 0
IfEnded (ending.With found) P = P found
IfEnded ending.TooManySteps P = Unit {0}

-- it was not
abbrev pub IfStopped : {T : Type 0} → Ended T → Type 0 → Type 0
IfStopped (ending.With found) P = Unit {0}
IfStopped ending.TooManySteps P = P
