use Rattle.std.proofs.Common.{◌≡◌, ◌==◌, rules}
use borrow.Author.Tests.{tests}
use Rattle.std.specs.List.Sorted.{IsBinarySearchResult}
use Rattle.std.specs.Ordering.{nat_cmp}
use Rattle.std.proofs.lemmas.Iterator.{YieldsList-from_slice, YieldsList-from_map, items_from_collect}
use Rattle.std.proofs.lemmas.Iterator.Consumers.{YieldsList-at, YieldsList-from_filter}
use Rattle.regress_meaning.specs.TableParts.{image}
use Rattle.regress_front_tables.specs.Folding.{Lists}
use Rattle.regress_front_tables.proofs.FoldingLemmas.{sources, Lists-searched}
use Rattle.regress_front_tables.proofs.tables.classes.class_of.Goals.{in-Err+in_ok-insert, in_default}
use Rattle.regress_front_tables.proofs.tables.classes.class_of.Goals as goal

-- what the search says of the sources of the image, with the image at its place
listed : (c : goal.Joined-binary_search) → Lists (λ d. image c.args.pairs.now d == image c.args.pairs.now c.args.c) c.match-binary_search.class.items
listed c =
    let pairs = c.args.pairs.now in
    let to = image pairs c.args.c in
    let collected = items_from_collect _ c.collect.ensures.ran (YieldsList-from_map _ (λ p. p.0) (YieldsList-at c.map.ensures.source
    (YieldsList-from_filter _ (λ p. p.1 == to) (YieldsList-at c.filter.ensures.source (YieldsList-from_slice pairs cc))
    c.filter.ensures.closure (λ x b q k. search (rules, tests)))) c.map.ensures.closure (λ x r q k. search rules)) in
    let gathered : c.in_ok-class.class.items ≡ sources to pairs = rw c.in_ok-class.was at collected in
    let found : IsBinarySearchResult (λ d. nat_cmp d to) (sources to pairs) c.binary_search.result =
    rw (c.deref.ensures.value, gathered, c.image-to.ensures) at c.binary_search.ensures.position in
    let told = Lists-searched pairs c.requires.lawful c.args.c c.requires.code_point c.binary_search.result found in
    elim c.match-binary_search.branch [
      | in-Err+in_ok-insert w ↦
          rw (w.class-is, w.in_ok-insert.ensures.items, gathered, c.image-to.ensures) (rw w.in-Err.is at told)
      | in_default w ↦ rw (w.class-is, gathered) (rw w.in_default.is at told)
    ]

pub returns : goal.returns
returns c = listed c
