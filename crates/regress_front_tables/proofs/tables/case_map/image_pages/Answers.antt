use Rattle.regress_front_tables.specs.CaseMaps.{listed_image}
use Rattle.regress_front_tables.specs.Pages.{number_at}
use Rattle.regress_front_tables.proofs.ListedLemmas.{listed-past}
use Rattle.regress_front_tables.proofs.PagesLemmas.{IsFilled-all}
use Rattle.regress_front_tables.proofs.tables.case_map.image_pages.Goals as goal

pub returns : goal.returns
returns c =
    let pairs = c.args.pairs.now in
    IsFilled-all (λ d. 0) (listed_image pairs) (number_at c.loop-n.images) c.loop-n.n c.loop-n-test.false c.loop-n.invariant.3
    (listed-past pairs c.requires.range)
