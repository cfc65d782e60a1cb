use Rattle.std.proofs.Common.{◌≡◌, drop}
use Rattle.std.specs.List.{list_any, list_all}
use Rattle.regress_front_classes.proofs.HoldLemmas.{holds_strings}
use Rattle.regress_front_classes.proofs.class.+may_hold.Given as goal

-- the classes that are left decide
abbrev pub invariant-all_may_hold_strings-loop-class : goal.invariant-all_may_hold_strings-loop-class
invariant-all_may_hold_strings-loop-class l = list_all holds_strings l.classes ≡ list_all holds_strings (drop l.class-index l.classes)

abbrev pub invariant-one_may_hold_strings-loop-class : goal.invariant-one_may_hold_strings-loop-class
invariant-one_may_hold_strings-loop-class l = list_any holds_strings l.classes ≡ list_any holds_strings (drop l.class-index l.classes)
