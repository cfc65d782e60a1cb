use Rattle.std.proofs.Common.{◌≡◌, ◌<◌, ◌+◌, ◌*◌, length, take, refl, ap, sym, ◌∙◌, arith}
use Rattle.std.specs.Prelude.{sum_by}
use Rattle.std.proofs.lemmas.List.{length-take-le, take_all}
use Rattle.std.proofs.lemmas.List.Sums.{sum_by_more}
use Rattle.regress_errors.specs.Texts.{unit_width}
use Rattle.regress_errors.proofs.ShownLemmas.{units-at_most}
use Rattle.regress_errors.proofs.refusing.units_before.Goals as goal

pub loop-point-init : goal.loop-point-init
loop-point-init c = refl

one_more : (c : goal.After-unit_width-count) → c.loop-point.count + c.unit_width-count.result ≡ sum_by unit_width (take (c.loop-point.point-index + 1) c.before-before.result.now)
one_more c = rw (c.loop-point.invariant, c.unit_width-count.ensures) (sym (sum_by_more unit_width c.before-before.result.now c.loop-point.point-index 0 c.loop-point-test.true))

pub overflow_add-count : goal.overflow_add-count
overflow_add-count c =
    let before = c.before-before.result.now in
    let i = c.loop-point.point-index in
    let size : length before * 4 < 9223372036854775808 = c.before-before.type_inv.1 in
    omega (arith, size, one_more c, units-at_most (take (i + 1) before), length-take-le (i + 1) before (omega (arith, c.loop-point-test.true)))

pub loop-point-preserved : goal.loop-point-preserved
loop-point-preserved c = one_more c

pub returns : goal.returns
returns c =
    c.loop-point.invariant ∙ ap (sum_by unit_width) (take_all c.loop-point.point-index c.before-before.result.now c.loop-point-test.false ∙ c.before-before.ensures)
