use Rattle.std.proofs.Common.{arith}
use Rattle.regress_front_tables.specs.Folding.{place_in}
use Rattle.regress_front_tables.specs.Pages.{number_at}
use Rattle.regress_front_tables.proofs.PagesLemmas.{IsFilled-all}
use Rattle.regress_front_tables.proofs.PlaceLemmas.{place_in-absent, rising-few}
use Rattle.regress_front_tables.proofs.tables.classes.number_pages.Goals as goal

pub number_page-requires-clause-few : goal.number_page-requires-clause-few
number_page-requires-clause-few c = rising-few c.args.images.now c.requires.rise c.requires.range

pub returns : goal.returns
returns c =
    let images = c.args.images.now in
    IsFilled-all (λ d. 0) (place_in images) (number_at c.loop-n.numbers) c.loop-n.n c.loop-n-test.false c.loop-n.invariant.3
    (λ d past. place_in-absent images d (λ k x l same. omega (arith, c.requires.range k x l, same, past)))
