-- What a state of the executor is to the definitions.
use Rattle.std.specs.Prelude.{List, [], Option, Some, None, map}
use Rattle.regress_engine_runs.specs.States.{Marks, Whole}
use Rattle.regress_engine_search.specs.StateViews.{loop_of, marks_of}
use Rattle.regress_engine_copying.specs.declared.state.State.{State}

-- a state
abbrev pub state_of : State → Whole
state_of s = record { at = s.at; offset = s.offset; loops = map loop_of s.loops.items; groups = map marks_of s.groups.items }

-- the groups of an answer, if there is one
abbrev pub groups_of : Option State → List Marks
groups_of None = []
groups_of (Some s) = map marks_of s.groups.items
