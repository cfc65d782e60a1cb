use Rattle.std.proofs.Common.{◌≡◌, map, drop}
use Rattle.regress_front_nodes.specs.Trees.{tree, cat_of}
use Rattle.regress_front_nodes.specs.Names.{names_with, name_texts}
use Rattle.regress_front_nodes.proofs.names.+add_names.Given as goal

-- the names so far, with those of the other parts, are those of all parts
abbrev pub invariant-loop-part : goal.invariant-loop-part
invariant-loop-part l =
    names_with (name_texts l.names) (cat_of (map tree (drop l.part-index l.part-items)))
    ≡ names_with (name_texts l.initial.names) (cat_of (map tree l.part-items))
