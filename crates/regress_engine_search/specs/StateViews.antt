-- What an executor knows of loops and groups, as the definitions have it.
use Rattle.std.specs.Prelude.{ℕ, List, map}
use Rattle.regress_meaning.specs.Matches.{Item}
use Rattle.regress_front_core.specs.declared.state.LoopData.{LoopData}
use Rattle.regress_front_core.specs.declared.state.GroupData.{GroupData}
use Rattle.regress_engine_runs.specs.States.{Marks, range_of}

-- how many iterations of a loop have begun, and where the last one did
abbrev pub loop_of : LoopData ℕ → ℕ × ℕ
loop_of d = (d.iters, d.entry)

-- the marks of a group
abbrev pub marks_of : GroupData ℕ → Marks
marks_of g = (g.start, g.end)

-- the item between two ends, with the ranges of groups
abbrev pub item_with : (start end : ℕ) → List (GroupData ℕ) → Item
item_with start end groups = record { start = start; end = end; groups = map (λ g. range_of (marks_of g)) groups }
