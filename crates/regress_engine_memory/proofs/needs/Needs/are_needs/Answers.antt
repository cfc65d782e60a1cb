use Rattle.std.proofs.Common.{◌<◌, true, false, length, sym, ◌∙◌, arith}
use Rattle.regress_engine_insn.specs.declared.insn.Insn.TheVariants.{Goal}
use Rattle.regress_engine_memory.specs.Needs.{needs_at}
use Rattle.regress_engine_memory.proofs.TableLemmas.{tested-on}
use Rattle.regress_engine_memory.proofs.needs.Needs.are_needs.Goals as goal

pub returns-then-not-needs_at : goal.returns-then-not-needs_at
returns-then-not-needs_at c program are =
    let within : c.loop-at.at < length c.args.insns.now = omega (arith, c.loop-at-test.true) in
    sym (tested-on (needs_at c.args.self.now.units.items program) c.args.insns.now c.loop-at.at Goal false within (sym (c.needs_at.ensures program are) ∙ c.if-not-needs_at.true))
    ∙ c.loop-at.invariant.left program are

pub loop-at-preserved : goal.loop-at-preserved
loop-at-preserved c = record {
  left = λ program are.
      let within : c.loop-at.at < length c.args.insns.now = omega (arith, c.loop-at-test.true) in
      sym (tested-on (needs_at c.args.self.now.units.items program) c.args.insns.now c.loop-at.at Goal true within (sym (c.needs_at.ensures program are) ∙ c.if-not-needs_at.false))
      ∙ c.loop-at.invariant.left program are;
}
