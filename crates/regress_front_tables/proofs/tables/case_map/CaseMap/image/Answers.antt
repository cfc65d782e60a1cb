use Rattle.std.proofs.Common.{◌≡◌, sym, ap, ◌∙◌, unwrap_or, arith}
use Rattle.regress_front_tables.specs.CaseMaps.{told_at}
use Rattle.regress_front_tables.specs.MapViews.{pairs_of}
use Rattle.regress_front_tables.proofs.ListedLemmas.{image-told, image-untold}
use Rattle.regress_front_tables.proofs.tables.case_map.CaseMap.image.Goals as goal

pub returns-in-Some : goal.returns-in-Some
returns-in-Some c =
    let map = c.args.self.now in
    let told : told_at map.images c.args.c ≡ c.in-Some.image = ap (λ o. unwrap_or o 0) (sym c.get.ensures ∙ c.in-Some.is) in
    sym (image-told (pairs_of map) c.args.c c.in-Some.image (sym (map.told c.args.c) ∙ told) c.if-image-gt0.true)

pub returns-in_default : goal.returns-in_default
returns-in_default c =
    let map = c.args.self.now in
    let told : told_at map.images c.args.c ≡ c.in-Some.image = ap (λ o. unwrap_or o 0) (sym c.get.ensures ∙ c.in-Some.is) in
    sym (image-untold (pairs_of map) c.args.c (sym (map.told c.args.c) ∙ omega (arith, told, c.if-image-gt0.false)))

pub returns-in_default-2 : goal.returns-in_default-2
returns-in_default-2 c =
    let map = c.args.self.now in
    sym (image-untold (pairs_of map) c.args.c (sym (map.told c.args.c) ∙ ap (λ o. unwrap_or o 0) (sym c.get.ensures ∙ c.in_default.is)))
