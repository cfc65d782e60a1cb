use Rattle.std.proofs.Common.{◌<◌, true, false, length, sym, ◌∙◌, arith}
use Rattle.regress_engine_insn.specs.declared.insn.Insn.TheVariants.{Goal}
use Rattle.regress_engine_memory.proofs.TableLemmas.{tested-on, tested-end}
use Rattle.regress_engine_linear.specs.LinearTests.{leaves_groups}
use Rattle.regress_engine_linear.specs.RankTables.{heights_of}
use Rattle.regress_engine_linear.proofs.ranks.RankTable.leave_groups.Goals as goal

pub returns-then-not-leaves_groups : goal.returns-then-not-leaves_groups
returns-then-not-leaves_groups c program are told =
    let at = c.loop-at.at in
    let within : at < length c.args.insns.now = omega (arith, c.loop-at-test.true) in
    sym (tested-on (leaves_groups (heights_of c.args.self.now) program) c.args.insns.now at Goal false within (sym (c.leaves_groups.ensures program are told) ∙ c.if-not-leaves_groups.true))
    ∙ c.loop-at.invariant.left program are told

pub loop-at-preserved : goal.loop-at-preserved
loop-at-preserved c = record {
  left = λ program are told.
      let at = c.loop-at.at in
      let within : at < length c.args.insns.now = omega (arith, c.loop-at-test.true) in
      sym (tested-on (leaves_groups (heights_of c.args.self.now) program) c.args.insns.now at Goal true within (sym (c.leaves_groups.ensures program are told) ∙ c.if-not-leaves_groups.false))
      ∙ c.loop-at.invariant.left program are told;
}

pub returns : goal.returns
returns c program are told =
    let full = c.loop-at-test.false in
    sym (tested-end (leaves_groups (heights_of c.args.self.now) program) c.args.insns.now c.loop-at.at (omega (arith, full))) ∙ c.loop-at.invariant.left program are told
