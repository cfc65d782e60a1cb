use Rattle.std.proofs.Common.{◌≡◌, true, map, take}
use Rattle.std.specs.List.{list_all}
use Rattle.regress_front_nodes.specs.Trees.{tree}
use Rattle.regress_front_opt.specs.Shapes.{is_flat}
use Rattle.regress_front_opt.proofs.sizes.+flat.Given as goal

abbrev pub invariant-are_flat-loop-part : goal.invariant-are_flat-loop-part
invariant-are_flat-loop-part l = list_all is_flat (map tree (take l.part-index l.parts)) ≡ true
