use Rattle.std.proofs.Common.{◌≡◌, take}
use Rattle.regress_meaning.specs.Class.{of_list}
use Rattle.regress_front_class_values.specs.ClassValues.{lists, strings_of}
use Rattle.regress_front_class_values.proofs.value.ClassValue.of_strings.Given as goal

abbrev pub invariant-loop-string : goal.invariant-loop-string
invariant-loop-string l = strings_of l.value ≡ of_list (lists (take l.string-index l.strings))
