use Rattle.std.proofs.Common.{◌≡◌, false, map, take}
use Rattle.std.specs.List.{list_any}
use Rattle.regress_front_nodes.specs.Trees.{tree}
use Rattle.regress_front_opt.specs.Shapes.{is_loose}
use Rattle.regress_front_opt.proofs.flattening.some_loose.Given as goal

abbrev pub invariant-loop-part : goal.invariant-loop-part
invariant-loop-part l = list_any is_loose (map tree (take l.part-index l.parts)) ≡ false
