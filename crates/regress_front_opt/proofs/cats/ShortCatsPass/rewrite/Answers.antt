use Rattle.std.proofs.Common.{◌≡◌, true, sym, ◌∙◌}
use Rattle.regress_front_nodes.specs.Trees.{tree}
use Rattle.regress_front_nodes.proofs.TreeLaws.{tree-Cat}
use Rattle.regress_front_opt.proofs.AdvanceLemmas.{last-advances, none-advances}
use Rattle.regress_front_opt.proofs.cats.ShortCatsPass.rewrite.Goals as goal

pub returns-in-Some : goal.returns-in-Some
returns-in-Some c =
    let e = sym c.replace.ensures.value ∙ c.in-Cat.is in
    let short = rw (e, tree-Cat) at c.if-not-has_few_parts.ensures in
    rw (e, tree-Cat) (last-advances _ c.in-Cat.parts.items c.pop.new.self.items c.in-Some.only c.in-Some.ensures.items (sym short))

pub returns-in-Cat : goal.returns-in-Cat
returns-in-Cat c =
    let e = sym c.replace.ensures.value ∙ c.in-Cat.is in
    rw (e, tree-Cat) (none-advances _ c.in-Cat.parts.items (sym c.in-Cat.parts.ok.0 ∙ c.in-None.ensures.cases.0))
