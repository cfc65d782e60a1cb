use Rattle.std.proofs.Common.{◌≡◌, suc, ◌-◌, length}
use Rattle.regress_front_nodes.specs.Names.{padded, name_texts}
use Rattle.regress_front_nodes.proofs.names.place.Given as goal

-- with the empty names that are still to be added the names are the same
abbrev pub invariant-loop-names : goal.invariant-loop-names
invariant-loop-names l = padded l.number (name_texts l.names) ≡ padded l.number (name_texts l.initial.names)

abbrev pub decreases-loop-names : goal.decreases-loop-names
decreases-loop-names l = suc l.number - length l.names.items
