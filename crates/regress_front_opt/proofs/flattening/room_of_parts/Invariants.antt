use Rattle.std.proofs.Common.{◌≡◌, map, min, take}
use Rattle.regress_meaning.specs.Tokens.{greatest}
use Rattle.regress_front_nodes.specs.Trees.{tree}
use Rattle.regress_front_opt.specs.Shapes.{room_of_all}
use Rattle.regress_front_opt.proofs.flattening.room_of_parts.Given as goal

abbrev pub invariant-loop-part : goal.invariant-loop-part
invariant-loop-part l = l.total ≡ min (room_of_all (map tree (take l.part-index l.parts))) greatest
