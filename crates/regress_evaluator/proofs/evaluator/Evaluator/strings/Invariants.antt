use Rattle.std.proofs.Common.{◌≡◌, map, take}
use Rattle.std.specs.Box.{boxed_slice_items}
use Rattle.regress_front_nodes.specs.TreeMeaning.{alternatives}
use Rattle.regress_evaluator.specs.StateViews.{state_of, context_of, direction_of}
use Rattle.regress_evaluator.proofs.evaluator.Evaluator.strings.Given as goal

-- what the strings so far lead to
abbrev pub invariant-loop-string : goal.invariant-loop-string
invariant-loop-string l =
    map state_of l.all.items
    ≡ alternatives (context_of l.self) (direction_of l.direction) l.icase (map boxed_slice_items (take l.string-index l.strings)) (state_of l.state)
