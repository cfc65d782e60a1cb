use Rattle.std.proofs.Common.{◌≡◌, true, map, take}
use Rattle.std.specs.List.{list_all}
use Rattle.regress_front_nodes.specs.Trees.{tree}
use Rattle.regress_front_opt.specs.Shapes.{is_plain}
use Rattle.regress_front_opt.proofs.failing.+plain.Given as goal

abbrev pub invariant-are_plain-loop-part : goal.invariant-are_plain-loop-part
invariant-are_plain-loop-part l = list_all is_plain (map tree (take l.part-index l.parts)) ≡ true
