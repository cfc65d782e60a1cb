-- What the executor has still to do.
use Rattle.std.specs.Prelude.{List, [], ◌∷◌}
use Rattle.regress_engine_input.specs.Views.{direction_of}
use Rattle.regress_engine_runs.specs.States.{Whole}
use Rattle.regress_engine_runs.specs.UndoStack.{Work, outermost, inside, first_do}
use Rattle.regress_engine_search.specs.Tasks.{Task}
use Rattle.regress_engine_copying.specs.Held.{Entry, tried, submatched, Held}

-- the work that a stack stands for
unfoldable pub work_of : List Entry → Work
work_of [] = outermost []
work_of (tried s ∷ es) = first_do (s ∷ []) (work_of es)
work_of (submatched f s ∷ es) = inside [] f s (work_of es)

-- some states, and then what waits
abbrev pub task_of : List Whole → Held → Task
task_of ss h = record { dir = direction_of h.forward; states = ss; work = work_of h.entries }
