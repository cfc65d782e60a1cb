use Rattle.std.proofs.Common.{◌<◌, true, false, length, sym, ◌∙◌, arith}
use Rattle.regress_engine_insn.specs.declared.insn.Insn.TheVariants.{Goal}
use Rattle.regress_engine_memory.specs.Deciding.{Table}
use Rattle.regress_engine_memory.specs.TableViews.{table_of}
use Rattle.regress_engine_memory.proofs.TableLemmas.{tested-on, tested-end}
use Rattle.regress_engine_linear.specs.LinearTests.{fits_at}
use Rattle.regress_engine_linear.proofs.testing.are_fit.Goals as goal

pub returns-then-not-fits : goal.returns-then-not-fits
returns-then-not-fits c program are =
    let t : Table = table_of c.args.flow.now in
    let at = c.loop-at.at in
    let within : at < length c.args.insns.now = omega (arith, c.loop-at-test.true) in
    sym (tested-on (fits_at t) c.args.insns.now at Goal false within (sym c.fits.ensures ∙ c.if-not-fits.true)) ∙ c.loop-at.invariant.left program are

pub loop-at-preserved : goal.loop-at-preserved
loop-at-preserved c = record {
  left = λ program are.
      let t : Table = table_of c.args.flow.now in
      let at = c.loop-at.at in
      let within : at < length c.args.insns.now = omega (arith, c.loop-at-test.true) in
      sym (tested-on (fits_at t) c.args.insns.now at Goal true within (sym c.fits.ensures ∙ c.if-not-fits.false)) ∙ c.loop-at.invariant.left program are;
}

pub returns : goal.returns
returns c program are =
    let full = c.loop-at-test.false in
    sym (tested-end (fits_at (table_of c.args.flow.now)) c.args.insns.now c.loop-at.at (omega (arith, full))) ∙ c.loop-at.invariant.left program are
