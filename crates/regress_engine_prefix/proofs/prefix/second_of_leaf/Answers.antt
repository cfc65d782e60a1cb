use Rattle.std.proofs.lemmas.Option.{IfSome_then}
use Rattle.regress_front_nodes.proofs.TreeLaws.{tree-CharSet}
use Rattle.regress_engine_prefix.proofs.SecondLemmas.{Foretells-second}
use Rattle.regress_engine_prefix.proofs.prefix.second_of_leaf.Goals as goal

pub returns-in-CharSet : goal.returns-in-CharSet
returns-in-CharSet c =
    IfSome_then c.second_of_chars.result c.second_of_chars.ensures
    (λ second all first told. rw (c.in-CharSet.is, tree-CharSet)
    (Foretells-second c.in-CharSet.chars.items first second (rw (c.in-CharSet.is, tree-CharSet) at told) (rw c.deref.ensures.value at all)))
