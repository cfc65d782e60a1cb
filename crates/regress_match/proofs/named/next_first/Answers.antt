use Rattle.std.proofs.Common.{◌<◌, ◌≤◌, length, map, string_bytes, sym, ◌∙◌, arith}
use Rattle.std.proofs.lemmas.List.{length-map}
use Rattle.regress_match.proofs.NamedLemmas.{names-new, names-old, names-end}
use Rattle.regress_match.proofs.named.next_first.Goals as goal

pub returns-then-is_first-clause-first : goal.returns-then-is_first-clause-first
returns-then-is_first-clause-first c =
    let all = map string_bytes c.args.names.now in
    let inside : c.loop-index.index < length all = omega (arith, length-map c.args.names.now string_bytes, c.loop-index-test.true) in
    c.loop-index.invariant ∙ names-new all c.loop-index.index inside (sym c.if-is_first.ensures)

pub loop-index-preserved : goal.loop-index-preserved
loop-index-preserved c =
    let all = map string_bytes c.args.names.now in
    let inside : c.loop-index.index < length all = omega (arith, length-map c.args.names.now string_bytes, c.loop-index-test.true) in
    c.loop-index.invariant ∙ names-old all c.loop-index.index inside (sym c.if-is_first.ensures)

pub returns-clause-none : goal.returns-clause-none
returns-clause-none c =
    let all = map string_bytes c.args.names.now in
    let past : length all ≤ c.loop-index.index = omega (arith, length-map c.args.names.now string_bytes, c.loop-index-test.false) in
    c.loop-index.invariant ∙ names-end all c.loop-index.index past
