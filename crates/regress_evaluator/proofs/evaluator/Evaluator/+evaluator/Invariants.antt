use Rattle.std.proofs.Common.{◌≡◌, ◌++◌, map, take, drop}
use Rattle.std.specs.List.{flat_map}
use Rattle.regress_meaning.specs.Meaning.{captured}
use Rattle.regress_front_core.specs.Quantifiers.{most}
use Rattle.regress_front_nodes.specs.Trees.{cat_of, loop, tree}
use Rattle.regress_front_nodes.specs.TreeMeaning.{node_outcomes}
use Rattle.regress_evaluator.specs.StateViews.{state_of, context_of, direction_of}
use Rattle.regress_evaluator.proofs.RepetitionLemmas.{run, outcomes_of_tasks, turns_of_tasks}
use Rattle.regress_evaluator.proofs.evaluator.Evaluator.+evaluator.Given as goal

abbrev pub invariant-outcomes_of_all-loop-state : goal.invariant-outcomes_of_all-loop-state
invariant-outcomes_of_all-loop-state l =
    map state_of l.all.items
    ≡ flat_map (node_outcomes (context_of l.self) (tree l.node) (direction_of l.direction)) (map state_of (take l.state-index l.states))

-- what the other parts make of the states so far is what all parts make of the first state
abbrev pub invariant-outcomes_of_parts-loop-part : goal.invariant-outcomes_of_parts-loop-part
invariant-outcomes_of_parts-loop-part l =
    flat_map (node_outcomes (context_of l.self) (cat_of (map tree (drop l.part-index l.parts))) (direction_of l.direction)) (map state_of l.states.items)
    ≡ node_outcomes (context_of l.self) (cat_of (map tree l.parts)) (direction_of l.direction) (state_of l.state)

-- the group is set in the states so far, and the others are as they were
abbrev pub invariant-outcomes_of_capture-loop-found : goal.invariant-outcomes_of_capture-loop-found
invariant-outcomes_of_capture-loop-found l =
    (map state_of (take l.found-index l.found-items) ≡ map (captured l.group l.state.place) (map state_of (take l.found-index l.initial.found-items)))
    × (drop l.found-index l.found-items ≡ drop l.found-index l.initial.found-items)

-- the outcomes so far, and behind them what the stack stands for, are all
abbrev pub invariant-outcomes_of_loop-loop-task : goal.invariant-outcomes_of_loop-loop-task
invariant-outcomes_of_loop-loop-task l =
    let context = context_of l.self in
    let dir = direction_of l.direction in
    map state_of l.all.items ++ outcomes_of_tasks (run context (tree l.loopee) dir l.enclosed.start l.enclosed.end) l.quant.greedy l.tasks.items
    ≡ node_outcomes context (loop (tree l.loopee) l.enclosed.start l.enclosed.end l.quant.min (most l.quant) l.quant.greedy) dir (state_of l.state)

-- the turns that the stack takes
abbrev pub decreases-outcomes_of_loop-loop-task : goal.decreases-outcomes_of_loop-loop-task
decreases-outcomes_of_loop-loop-task l =
    let context = context_of l.self in
    turns_of_tasks (run context (tree l.loopee) (direction_of l.direction) l.enclosed.start l.enclosed.end) l.tasks.items
