use Rattle.std.proofs.Common.{◌≡◌, false, map, take}
use Rattle.regress_front_nodes.specs.Trees.{tree}
use Rattle.regress_front_rules.specs.NormalForm.{literals_meet}
use Rattle.regress_front_opt.proofs.JoinLemmas.{ends_literal}
use Rattle.regress_front_opt.proofs.joining.some_meet.Given as goal

abbrev pub invariant-loop-part : goal.invariant-loop-part
invariant-loop-part l =
    (literals_meet (map tree (take l.part-index l.parts)) ≡ false) × (l.behind_literal ≡ ends_literal (map tree (take l.part-index l.parts)))
