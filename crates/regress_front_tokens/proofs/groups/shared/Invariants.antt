use Rattle.std.proofs.Common.{ℕ, List}
use Rattle.std.specs.BTreeMap.{get_by_text, btree_map_len}
use Rattle.regress_front_tokens.specs.Groups.{numbers_listed}
use Rattle.regress_front_tokens.proofs.GroupSteps.{AreApart}
use Rattle.regress_front_tokens.proofs.groups.shared.Given as goal

-- each list is shared or still to be
abbrev pub invariant-loop-name : goal.invariant-loop-name
invariant-loop-name l = (name : List ℕ) → AreApart (get_by_text l.numbers name) (get_by_text l.lists name) (numbers_listed l.fn.lists name)

abbrev pub decreases-loop-name : goal.decreases-loop-name
decreases-loop-name l = btree_map_len l.lists
