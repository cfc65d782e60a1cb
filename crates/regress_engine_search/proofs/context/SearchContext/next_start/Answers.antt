use Rattle.std.proofs.Common.{◌≡◌, ◌≤◌, length, sym, subst, rules}
use Rattle.regress_engine_code.specs.Standing.{program_of}
use Rattle.regress_engine_search.specs.Prefiltering.{IsNextHit}
use Rattle.regress_engine_search.specs.Skipping.{MaySkip}
use Rattle.regress_engine_search.proofs.SkipLemmas.{held-bytes, held-units, place-lies, shown-next_start}
use Rattle.regress_engine_search.proofs.context.SearchContext.next_start.Goals as goal

pub find_from-requires : goal.find_from-requires
find_from-requires g c =
    let v = g.Input.InputIndexer.view c.args.self.now.input in
    let same : c.in-Some.bytes.now ≡ v.units = held-bytes v.kind v.units c.in-Some.bytes.now (search rules) in
    subst (λ bytes. c.args.offset ≤ length bytes) (sym same) (place-lies v (g.met.Input.InputIndexer.are_of_kind c.args.self.now.input) c.args.offset c.requires)

pub find_from_units-requires : goal.find_from_units-requires
find_from_units-requires g c =
    let context = c.args.self.now in
    let v = g.Input.InputIndexer.view context.input in
    let (kind, same) = held-units v.kind v.units c.in_ok-units-in-None.units.now (search rules) in
    record {
      plain = (subst (MaySkip (program_of context.program.now) context.prefilter.start.now) (g.met.Input.ExecutorInput.shows context.input) context.skips).plain kind;
      inside = subst (λ units. c.args.offset ≤ length units) (sym same) (place-lies v (g.met.Input.InputIndexer.are_of_kind context.input) c.args.offset c.requires);
    }

pub returns-in-Some-clause-start : goal.returns-in-Some-clause-start
returns-in-Some-clause-start g c =
    let context = c.args.self.now in
    let v = g.Input.InputIndexer.view context.input in
    let same : c.in-Some.bytes.now ≡ v.units = held-bytes v.kind v.units c.in-Some.bytes.now (search rules) in
    shown-next_start (program_of context.program.now) context.prefilter.start.now (g.Input.Shown.shown context.input) v (g.met.Input.ExecutorInput.shows context.input)
    (g.met.Input.InputIndexer.are_of_kind context.input) context.searchable context.skips c.args.offset c.requires c.find_from.result
    (subst (λ units. IsNextHit context.prefilter.start.now units c.args.offset c.find_from.result) same c.find_from.ensures)

pub returns-in_ok-units-in-None-clause-start : goal.returns-in_ok-units-in-None-clause-start
returns-in_ok-units-in-None-clause-start g c =
    let context = c.args.self.now in
    let v = g.Input.InputIndexer.view context.input in
    let (kind, same) = held-units v.kind v.units c.in_ok-units-in-None.units.now (search rules) in
    shown-next_start (program_of context.program.now) context.prefilter.start.now (g.Input.Shown.shown context.input) v (g.met.Input.ExecutorInput.shows context.input)
    (g.met.Input.InputIndexer.are_of_kind context.input) context.searchable context.skips c.args.offset c.requires c.find_from_units.result
    (subst (λ units. IsNextHit context.prefilter.start.now units c.args.offset c.find_from_units.result) same c.find_from_units.ensures)
