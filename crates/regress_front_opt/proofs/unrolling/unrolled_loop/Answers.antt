use Rattle.std.proofs.Common.{[], ◌∷◌, ◌++◌, map, sym, ap, ap₂, ◌∙◌}
use Rattle.std.proofs.lemmas.List.{map-append}
use Rattle.regress_front_nodes.specs.Trees.{tree, cat_of}
use Rattle.regress_front_nodes.proofs.TreeLaws.{tree-Cat}
use Rattle.regress_front_opt.proofs.UnrollLemmas.{copies-behind}
use Rattle.regress_front_opt.proofs.unrolling.unrolled_loop.Goals as goal

pub returns : goal.returns
returns c =
    tree-Cat c.push.new.self
    ∙ ap cat_of (ap (map tree) c.in_ok-push.ensures.items ∙ map-append tree c.in_ok-parts.parts.items (c.in_ok-rest_of.field-0 ∷ [])
    ∙ ap₂ (λ ts t. ts ++ t ∷ []) c.in_ok-parts.ensures c.in_ok-rest_of.ensures
    ∙ copies-behind c.args.quant.min (tree c.args.body.now) [] _)
