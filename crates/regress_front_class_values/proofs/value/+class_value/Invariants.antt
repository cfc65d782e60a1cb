use Rattle.std.proofs.Common.{◌≡◌, map, fold, take}
use Rattle.regress_meaning.specs.Class as meaning
use Rattle.regress_meaning.specs.Class.{value_of}
use Rattle.regress_front_tables.specs.TableViews.{table}
use Rattle.regress_front_tokens.specs.Trees.{class_view, union_of}
use Rattle.regress_front_class_values.specs.ClassValues.{strings_of, all_united}
use Rattle.regress_front_class_values.proofs.value.+class_value.Given as goal

abbrev pub invariant-union_value-loop-member : goal.invariant-union_value-loop-member
invariant-union_value-loop-member l = all_united l.values.items ≡ value_of (table l.tables) l.folded (union_of (map class_view (take l.member-index l.members)))

abbrev pub invariant-intersected_value-loop-other : goal.invariant-intersected_value-loop-other
invariant-intersected_value-loop-other l = (c : meaning.Class) → strings_of l.fn.first.value ≡ value_of (table l.tables) l.folded c
    → strings_of l.value ≡ value_of (table l.tables) l.folded (fold meaning.intersection c (map class_view (take l.other-index l.others)))

abbrev pub invariant-subtracted_value-loop-other : goal.invariant-subtracted_value-loop-other
invariant-subtracted_value-loop-other l = (c : meaning.Class) → strings_of l.fn.first.value ≡ value_of (table l.tables) l.folded c
    → strings_of l.value ≡ value_of (table l.tables) l.folded (fold meaning.difference c (map class_view (take l.other-index l.others)))
