use Rattle.std.proofs.Common.{[], ◌∷◌, ◌++◌, map, sym, ap, ◌∙◌, subst}
use Rattle.std.proofs.lemmas.List.{append-nil, map-append}
use Rattle.regress_front_nodes.specs.Trees.{tree}
use Rattle.regress_front_opt.specs.Shapes.{Joins, as_they_are}
use Rattle.regress_front_opt.proofs.joining.add.Goals as goal

pub returns-in-None-clause-joined : goal.returns-in-None-clause-joined
returns-in-None-clause-joined c =
    let none = c.in-None.ensures.items ∙ append-nil c.pop.new.self.items in
    let whole = ap (map tree) (c.push_reserved.ensures.items ∙ ap (λ ns. ns ++ c.args.part ∷ []) (sym none)) ∙ map-append tree c.args.joined.now.items (c.args.part ∷ []) in
    subst (Joins (map tree c.args.joined.now.items ++ tree c.args.part ∷ [])) (sym whole) as_they_are
