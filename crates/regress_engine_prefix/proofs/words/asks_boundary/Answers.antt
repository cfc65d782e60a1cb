use Rattle.std.proofs.Common.{sym, ap, ◌∙◌, slice_get}
use Rattle.regress_front_nodes.proofs.TreeLaws.{tree-Cat}
use Rattle.regress_engine_prefix.proofs.WordLemmas.{asks-parts}
use Rattle.regress_engine_prefix.proofs.words.asks_boundary.Goals as goal

pub returns-in-Some : goal.returns-in-Some
returns-in-Some c = λ e.
    rw (c.in-Cat.is, tree-Cat)
    (asks-parts c.in-Cat.parts.items c.in-Some.part.now (sym (c.in-Some.ensures.value ∙ ap (λ xs. slice_get xs 0) c.deref.ensures.value)) (c.is_boundary.ensures e))
