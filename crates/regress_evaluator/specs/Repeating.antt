-- How the evaluator goes through the iterations of what is repeated, by a stack of tasks.
use Rattle.std.specs.Prelude.{ℕ, zero, suc, Bool, not, ◌==◌, List, [], ◌∷◌, ◌++◌, map, filter, reverse, if◌then◌else◌}
use Rattle.regress_evaluator.specs.declared.state.State.{State}
use Rattle.regress_evaluator.specs.declared.tasks.Task.{Task}
use Rattle.regress_evaluator.specs.declared.tasks.Task.TheVariants.{Expand, Emit}

-- the second state is at another place
abbrev pub moved_on : State → State → Bool
moved_on s t = not (t.place == s.place)

-- tasks that go on from these states, of which the first is on top
abbrev pub expansions : List State → ℕ → ℕ → List Task
expansions next left need = map (λ t. Expand t left need) (reverse next)

-- The tasks, the last one on top, that stand for a state and for what one iteration leads to from it: after that at most
-- `left` more come. The state is an outcome too where no more have to come.
unfoldable pub tasks_of : Bool → State → List State → ℕ → ℕ → List Task
tasks_of greedy s next left zero =
    let more = expansions (filter (moved_on s) next) left 0 in
    if greedy then Emit s ∷ more else more ++ Emit s ∷ []
tasks_of greedy s next left (suc need) = expansions next left need
