use Rattle.std.proofs.Common.{◌≡◌, true, map, take}
use Rattle.std.specs.List.{list_all}
use Rattle.regress_front_nodes.specs.Trees.{tree}
use Rattle.regress_front_rules.specs.NormalForm.{is_idle}
use Rattle.regress_front_opt.proofs.idling.+idle.Given as goal

abbrev pub invariant-are_idle-loop-part : goal.invariant-are_idle-loop-part
invariant-are_idle-loop-part l = list_all is_idle (map tree (take l.part-index l.parts)) ≡ true
