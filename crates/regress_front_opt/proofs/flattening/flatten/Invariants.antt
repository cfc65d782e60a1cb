use Rattle.std.proofs.Common.{◌≡◌, ◌+◌, ◌≤◌, map, take, drop, length, vec_len}
use Rattle.std.specs.Vec.{vec_capacity}
use Rattle.regress_front_nodes.specs.Trees.{tree}
use Rattle.regress_front_opt.specs.Shapes.{flattened, room_of_all}
use Rattle.regress_front_opt.proofs.flattening.flatten.Given as goal

-- the parts so far are moved, the others are as they were, and there is room for them
abbrev pub invariant-loop-part : goal.invariant-loop-part
invariant-loop-part l =
    (map tree l.flat.items ≡ flattened (map tree (take l.part-index l.initial.part-items)))
    × (drop l.part-index l.part-items ≡ drop l.part-index l.initial.part-items)
    × (length l.part-items ≡ length l.initial.part-items)
    × (vec_len l.flat + room_of_all (map tree (drop l.part-index l.initial.part-items)) ≤ vec_capacity l.flat)
