use Rattle.std.proofs.Common.{sym, arith}
use Rattle.regress_engine_code.specs.Standing.{program_of}
use Rattle.regress_engine_search.proofs.PlaceLemmas.{can-read, moves, next-place}
use Rattle.regress_engine_search.proofs.SearchLemmas.{search-less}
use Rattle.regress_meaning.specs.Meaning.{Forward}
use Rattle.regress_engine_singles.proofs.LeadingLemmas.{fails-on}
use Rattle.regress_engine_leading.proofs.leading.passed_leads.Goals as goal

pub places-init : goal.places-init
places-init g c = record { low = omega arith; place = c.requires.place; on = λ offset finds. finds }

pub behind_dead-at-requires-clause-place : goal.behind_dead-at-requires-clause-place
behind_dead-at-requires-clause-place g c = c.places.invariant.place

pub beside-requires : goal.beside-requires
beside-requires g c = can-read (g.Input.InputIndexer.view c.args.input.now) (g.met.Input.InputIndexer.are_of_kind c.args.input.now) c.behind_dead-at.result c.behind_dead-at.ensures.place

pub places-smaller : goal.places-smaller
places-smaller g c =
    let low = c.behind_dead-at.ensures.low in
    let less = search-less (program_of c.args.program.now) (g.Input.InputIndexer.view c.args.input.now) (g.met.Input.InputIndexer.are_of_kind c.args.input.now) c.behind_dead-at.result _ _
    c.behind_dead-at.ensures.place (sym c.in-Some.ensures) in
    omega (arith, low, less)

pub places-preserved : goal.places-preserved
places-preserved g c =
    let v = g.Input.InputIndexer.view c.args.input.now in
    let all = g.met.Input.InputIndexer.are_of_kind c.args.input.now in
    let near = c.behind_dead-at.ensures in
    let low = c.places.invariant.low in
    let further = near.low in
    let past = moves v Forward c.behind_dead-at.result _ _ (sym c.in-Some.ensures) in
    record {
      low = omega (arith, low, further, past);
      place = next-place v all Forward c.behind_dead-at.result _ _ near.place (sym c.in-Some.ensures);
      on = λ offset finds. fails-on (program_of c.args.program.now) v all offset c.behind_dead-at.result _ _ (c.is_dead.ensures c.if-not-is_dead.false) (sym c.in-Some.ensures)
          (near.on offset (c.places.invariant.on offset finds));
    }
