use Rattle.std.proofs.Common.{sym, ap, map, ◌∙◌}
use Rattle.std.proofs.lemmas.List.{length-map}
use Rattle.regress_front_nodes.specs.Trees.{tree}
use Rattle.regress_front_nodes.proofs.TreeLaws.{tree-Cat}
use Rattle.regress_front_opt.proofs.NodeKinds.{no-cat}
use Rattle.regress_front_opt.proofs.ShapeLemmas.{room-cat, no_cat-room}
use Rattle.regress_front_opt.proofs.flattening.room.Goals as goal

pub returns-in-Cat : goal.returns-in-Cat
returns-in-Cat c = rw (c.in-Cat.is, tree-Cat) (c.len.ensures ∙ c.in-Cat.inner.ok.0 ∙ sym (length-map _ _) ∙ sym (room-cat (map tree c.in-Cat.inner.items)))

pub returns-in_default : goal.returns-in_default
returns-in_default c = sym (no_cat-room (tree c.args.part.now) (no-cat c.args.part.now c.in_default.not-Cat))
