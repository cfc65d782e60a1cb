use Rattle.std.proofs.Common.{map, drop}
use Rattle.regress_front_tokens.specs.Trees.{tree, trees_of, sequence_of, choice_of}
use Rattle.regress_front_syntax.proofs.ApartLemmas.{AreTermsLeft, AreArmsLeft}
use Rattle.regress_front_syntax.proofs.apart.+naming.Given as goal

abbrev pub invariant-names_in_arms-loop-arm : goal.invariant-names_in_arms-loop-arm
invariant-names_in_arms-loop-arm l = AreArmsLeft (choice_of (map tree l.arms)) (choice_of (map tree (drop l.arm-index l.arms))) l.names

abbrev pub invariant-names_in_terms-loop-term : goal.invariant-names_in_terms-loop-term
invariant-names_in_terms-loop-term l = AreTermsLeft (sequence_of (trees_of l.terms)) (sequence_of (trees_of (drop l.term-index l.terms))) l.names
