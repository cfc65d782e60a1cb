use Rattle.std.proofs.Common.{map, arith}
use Rattle.regress_engine_scanning.proofs.LandmarkLemmas.{run-none, run-hit, run-early, run-past, run-nowhere}
use Rattle.regress_engine_scanning.proofs.landmark.find_run.Goals as goal

pub returns-in-Some-first_in : goal.returns-in-Some-first_in
returns-in-Some-first_in g c =
    let a = c.args in
    let set = a.first.now in
    let units = map g.U.Unit.number a.units.now in
    let from = c.loop-at.from in
    let at = c.in-Some.at in
    let next = c.in-Some.ensures.least in
    let start = c.run_start-start.result in
    let run = c.run_start-start.ensures in
    let hit = c.in-Some-first_in.found in
    let found = c.in-Some-first_in.ensures in
    let low = c.loop-at.invariant.low in
    let above = run.inside.0 in
    let first = found.0.low in
    let none = run-none set a.run a.byte units a.offset from at start c.loop-at.invariant.none next.2 run.inside.1 run.other in (
      omega (arith, low, above, first),
      run-hit set a.run a.byte units from at start hit next.2 next.1 above first found.0.high run.run found.1,
      run-early set a.run a.byte units a.offset start hit none found.0.before,
    )

pub loop-at-preserved : goal.loop-at-preserved
loop-at-preserved g c =
    let a = c.args in
    let set = a.first.now in
    let units = map g.U.Unit.number a.units.now in
    let from = c.loop-at.from in
    let at = c.in-Some.at in
    let next = c.in-Some.ensures.least in
    let inside = c.in-Some.ensures.inside in
    let start = c.run_start-start.result in
    let run = c.run_start-start.ensures in
    let low = c.loop-at.invariant.low in
    let far = next.0 in
    let none = run-none set a.run a.byte units a.offset from at start c.loop-at.invariant.none next.2 run.inside.1 run.other in
    record {
      low = omega (arith, low, far);
      high = omega (arith, inside);
      none = run-past set a.run a.byte units a.offset start at none c.in_default-first_in.ensures next.1;
    }

pub returns : goal.returns
returns g c =
    let a = c.args in
    let units = map g.U.Unit.number a.units.now in
    run-nowhere a.first.now a.run a.byte units a.offset c.loop-at.from c.loop-at.invariant.none c.in_default.ensures.least
