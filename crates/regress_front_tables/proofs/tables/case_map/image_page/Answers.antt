use Rattle.std.proofs.Common.{◌≡◌, ◌+◌, ◌*◌, ◌/◌, length, map, refl, sym, ap, ◌∙◌, rules, arith}
use Rattle.std.proofs.lemmas.Iterator.{YieldsList-from_range, YieldsList-from_map, items_from_collect}
use Rattle.std.proofs.lemmas.Iterator.Consumers.{YieldsList-at}
use Rattle.std.proofs.lemmas.List.{length-map}
use Rattle.std.proofs.lemmas.List.FromFn.{length-range_with_len}
use Rattle.std.specs.List.{range_with_len}
use Rattle.std.proofs.lemmas.List.Sorted.{answers_always}
use Rattle.regress_front_tables.specs.CaseMaps.{listed_image}
use Rattle.regress_front_tables.proofs.ListedLemmas.{listed-unpaged}
use Rattle.regress_front_tables.proofs.tables.case_map.image_page.Goals as goal

pub returns-in-Err : goal.returns-in-Err
returns-in-Err c d e =
    let facts = c.in-Err.ensures in
    let by_page = facts.position (λ p. p.0 / 256) (answers_always _ _ _ (λ f a r g called. search rules)) in
    sym (listed-unpaged _ c.requires.lawful.order d c.in-Err.field-0 c.args.n e by_page)

-- the numbers of the page
gathered : (c : goal.In_ok-numbers) → c.in_ok-numbers.numbers.items ≡ map (listed_image c.args.pairs.now) (range_with_len (c.args.n * 256) 256)
gathered c =
    let first = c.args.n * 256 in
    let collected = items_from_collect _ c.collect.ensures.ran
    (YieldsList-from_map _ (listed_image c.args.pairs.now) (YieldsList-at c.map.ensures.source (YieldsList-from_range first (first + 256) 256 refl (omega arith))) c.map.ensures.closure (λ x r q k. search rules)) in
    rw c.in_ok-numbers.was at collected

pub invariant_of-result : goal.invariant_of-result
invariant_of-result c =
    let images = range_with_len (c.args.n * 256) 256 in
    record { full = c.in_ok-numbers.numbers.ok.0 ∙ ap length (gathered c) ∙ length-map images (listed_image c.args.pairs.now) ∙ length-range_with_len (c.args.n * 256) 256 }
