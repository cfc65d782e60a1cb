use Rattle.std.proofs.Common.{◌<◌, true, false, length, get_or, sym, ◌∙◌, arith}
use Rattle.std.proofs.lemmas.Bool.{true≢false}
use Rattle.regress_engine_insn.specs.InsnViews.{instruction}
use Rattle.regress_engine_insn.specs.declared.insn.Insn.TheVariants.{Goal}
use Rattle.regress_engine_memory.specs.Deciding.{Table, flows_if_calm}
use Rattle.regress_engine_memory.specs.TableViews.{table_of}
use Rattle.regress_engine_memory.proofs.TableLemmas.{tested-on, tested-end, flows-not, flows-too}
use Rattle.regress_engine_memory.proofs.flow.FlowTable.is_flow.Goals as goal
use Rattle.regress_engine_memory.proofs.flow.FlowTable.is_flow.Goals.{else-is_calm-via-then-is_calm+else-not-flows, else-is_calm-via-else-is_calm}

pub returns-then-not-flows : goal.returns-then-not-flows
returns-then-not-flows c program are =
    let t : Table = table_of c.args.self.now in
    let at = c.loop-at.at in
    let within : at < length c.args.insns.now = omega (arith, c.loop-at-test.true) in
    sym (tested-on (flows_if_calm t program) c.args.insns.now at Goal false within
    (flows-not t program at (instruction (get_or c.args.insns.now at Goal)) (sym c.is_calm.ensures ∙ c.if-is_calm.true) (sym (c.flows.ensures program are) ∙ c.if-not-flows.true)))
    ∙ c.loop-at.invariant.left program are

pub loop-at-preserved : goal.loop-at-preserved
loop-at-preserved c = record {
  left = λ program are.
      let t : Table = table_of c.args.self.now in
      let at = c.loop-at.at in
      let within : at < length c.args.insns.now = omega (arith, c.loop-at-test.true) in
      sym (tested-on (flows_if_calm t program) c.args.insns.now at Goal true within
      (flows-too t program at (instruction (get_or c.args.insns.now at Goal)) (λ calm. elim c.else-is_calm.branch [
        | else-is_calm-via-then-is_calm+else-not-flows w ↦ sym (w.flows.ensures program are) ∙ w.if-not-flows.false
        | else-is_calm-via-else-is_calm w ↦ absurd (true≢false (sym calm ∙ sym c.is_calm.ensures ∙ w.if-is_calm.false))
      ]))) ∙ c.loop-at.invariant.left program are;
}

pub returns : goal.returns
returns c program are =
    let full = c.loop-at-test.false in
    sym (tested-end (flows_if_calm (table_of c.args.self.now) program) c.args.insns.now c.loop-at.at (omega (arith, full))) ∙ c.loop-at.invariant.left program are
