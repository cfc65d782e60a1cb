use Rattle.std.proofs.Common.{◌<◌, length, arith}
use Rattle.regress_engine_insn.specs.declared.insn.Insn.TheVariants.{Goal}
use Rattle.regress_engine_linear.proofs.OnceLemmas.{short-is, short-not, sizes-end, sizes-on}
use Rattle.regress_engine_linear.proofs.contents.are_short.Goals as goal

pub loop-at-init : goal.loop-at-init
loop-at-init c = record { left = λ program are. omega arith }

pub returns-then-left-size : goal.returns-then-left-size
returns-then-left-size c program are =
    let at = c.loop-at.at in
    let within : at < length c.args.insns.now = omega (arith, c.loop-at-test.true) in
    let on = sizes-on program c.args.insns.now at Goal within in
    let size = c.loop_size-size.ensures program are in
    let inv = c.loop-at.invariant.left program are in
    let over = c.if-left-size.true in
    short-not program c.args.insns.now are (omega (arith, on, size, inv, over))

pub loop-at-preserved : goal.loop-at-preserved
loop-at-preserved c = record {
  left = λ program are.
      let at = c.loop-at.at in
      let within : at < length c.args.insns.now = omega (arith, c.loop-at-test.true) in
      let on = sizes-on program c.args.insns.now at Goal within in
      let size = c.loop_size-size.ensures program are in
      let inv = c.loop-at.invariant.left program are in
      let fits = c.if-left-size.false in
      omega (arith, on, size, inv, fits);
}

pub returns : goal.returns
returns c program are =
    let past = c.loop-at-test.false in
    let end = sizes-end program c.args.insns.now c.loop-at.at (omega (arith, past)) in
    let inv = c.loop-at.invariant.left program are in
    short-is program c.args.insns.now are (omega (arith, end, inv))
