use Rattle.std.proofs.Common.{◌≡◌, [], ◌∷◌, ◌++◌, map, refl, sym, ap, ap₂, ◌∙◌, arith}
use Rattle.std.proofs.lemmas.List.{map-append}
use Rattle.regress_front_nodes.specs.Trees.{tree}
use Rattle.regress_front_rules.specs.Rules.{copies}
use Rattle.regress_front_opt.proofs.UnrollLemmas.{copies-more}
use Rattle.regress_front_opt.proofs.unrolling.copies_of.Goals as goal

pub loop-init : goal.loop-init
loop-init c = ap (map tree) c.new-nodes.ensures.items

pub loop-preserved : goal.loop-preserved
loop-preserved c =
    ap (map tree) c.in_ok-push.ensures.items ∙ map-append tree c.loop.nodes.items (c.in_ok-copy_of.field-0 ∷ [])
    ∙ ap₂ (λ ts t. ts ++ t ∷ []) c.loop.invariant c.in_ok-copy_of.ensures ∙ copies-more c.loop.counter (tree c.args.body.now)

pub returns : goal.returns
returns c =
    let all : c.loop.counter ≡ c.args.count = omega (arith, c.loop-test.false, c.loop.auto.counter-end) in
    c.loop.invariant ∙ ap (λ n. copies n (tree c.args.body.now) []) all
