use Rattle.std.proofs.Common.{◌+◌, ◌≤◌, length, sym, rules, arith}
use Rattle.regress_engine_singles.proofs.AsciiLemmas.{run-ascii, run-each}
use Rattle.regress_engine_singles.proofs.StopLemmas.{bytes-shown}
use Rattle.regress_engine_singles.proofs.UnitStopLemmas.{units-shown}
use Rattle.regress_engine_singles.proofs.ascii.ascii_end.Goals as goal

pub returns-in-Some-clause-each : goal.returns-in-Some-clause-each
returns-in-Some-clause-each g c =
    let v = g.Input.InputIndexer.view c.args.input.now in
    let same = (bytes-shown v c.in-Some.text.now (sym c.in-Some.ensures)).1 in
    let inside : c.args.offset ≤ length c.in-Some.text.now = search rules in
    let room : c.args.offset + c.min.result ≤ length c.in-Some.text.now = omega arith in
    run-each v c.in-Some.text.now same (g.Matcher.SingleCharMatcher.passes c.args.matcher.now) c.args.offset (c.args.offset + c.min.result) c.end_of.result room c.end_of.ensures

pub returns-in-Some-clause-ascii : goal.returns-in-Some-clause-ascii
returns-in-Some-clause-ascii g c =
    let v = g.Input.InputIndexer.view c.args.input.now in
    let same = (bytes-shown v c.in-Some.text.now (sym c.in-Some.ensures)).1 in
    let inside : c.args.offset ≤ length c.in-Some.text.now = search rules in
    let room : c.args.offset + c.min.result ≤ length c.in-Some.text.now = omega arith in
    run-ascii v c.in-Some.text.now same (g.Matcher.SingleCharMatcher.passes c.args.matcher.now) c.args.offset (c.args.offset + c.min.result) c.end_of.result room c.end_of.ensures

pub returns-in-Some-units-clause-each : goal.returns-in-Some-units-clause-each
returns-in-Some-units-clause-each g c =
    let v = g.Input.InputIndexer.view c.args.input.now in
    let same = (units-shown v c.in-Some-units.units.now (sym c.in-Some-units.ensures)).1 in
    let most = c.min-in-Some-units.result in
    let room : c.args.offset + most ≤ length c.in-Some-units.units.now = omega arith in
    run-each v c.in-Some-units.units.now same (g.Matcher.SingleCharMatcher.passes c.args.matcher.now) c.args.offset (c.args.offset + most) c.end_of_units.result room c.end_of_units.ensures

pub returns-in-Some-units-clause-ascii : goal.returns-in-Some-units-clause-ascii
returns-in-Some-units-clause-ascii g c =
    let v = g.Input.InputIndexer.view c.args.input.now in
    let same = (units-shown v c.in-Some-units.units.now (sym c.in-Some-units.ensures)).1 in
    let most = c.min-in-Some-units.result in
    let room : c.args.offset + most ≤ length c.in-Some-units.units.now = omega arith in
    run-ascii v c.in-Some-units.units.now same (g.Matcher.SingleCharMatcher.passes c.args.matcher.now) c.args.offset (c.args.offset + most) c.end_of_units.result room c.end_of_units.ensures
