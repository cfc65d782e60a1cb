use Rattle.std.proofs.Common.{◌<◌, true, false, length, get_or, sym, ◌∙◌, arith}
use Rattle.std.proofs.lemmas.Bool.{true≢false}
use Rattle.regress_engine_insn.specs.InsnViews.{instruction}
use Rattle.regress_engine_insn.specs.declared.insn.Insn.TheVariants.{Goal}
use Rattle.regress_engine_memory.specs.Deciding.{Table}
use Rattle.regress_engine_memory.specs.TableViews.{table_of}
use Rattle.regress_engine_memory.proofs.TableLemmas.{tested-on, tested-end}
use Rattle.regress_engine_linear.specs.RankTables.{Heights, heights_of, ranks_if_calm}
use Rattle.regress_engine_linear.proofs.Ranking.{ranks-not, ranks-too}
use Rattle.regress_engine_linear.proofs.ranks.RankTable.are_ranked.Goals as goal
use Rattle.regress_engine_linear.proofs.ranks.RankTable.are_ranked.Goals.{else-is_calm-via-then-is_calm+else-not-ranks, else-is_calm-via-else-is_calm}

pub returns-then-not-ranks : goal.returns-then-not-ranks
returns-then-not-ranks c program are =
    let h : Heights = heights_of c.args.self.now in
    let t : Table = table_of c.args.flow.now in
    let at = c.loop-at.at in
    let within : at < length c.args.insns.now = omega (arith, c.loop-at-test.true) in
    sym (tested-on (ranks_if_calm h t program) c.args.insns.now at Goal false within
    (ranks-not h t program at (instruction (get_or c.args.insns.now at Goal)) (sym c.is_calm.ensures ∙ c.if-is_calm.true) (sym (c.ranks.ensures program are) ∙ c.if-not-ranks.true)))
    ∙ c.loop-at.invariant.left program are

pub loop-at-preserved : goal.loop-at-preserved
loop-at-preserved c = record {
  left = λ program are.
      let h : Heights = heights_of c.args.self.now in
      let t : Table = table_of c.args.flow.now in
      let at = c.loop-at.at in
      let within : at < length c.args.insns.now = omega (arith, c.loop-at-test.true) in
      sym (tested-on (ranks_if_calm h t program) c.args.insns.now at Goal true within
      (ranks-too h t program at (instruction (get_or c.args.insns.now at Goal)) (λ calm. elim c.else-is_calm.branch [
        | else-is_calm-via-then-is_calm+else-not-ranks w ↦ sym (w.ranks.ensures program are) ∙ w.if-not-ranks.false
        | else-is_calm-via-else-is_calm w ↦ absurd (true≢false (sym calm ∙ sym c.is_calm.ensures ∙ w.if-is_calm.false))
      ]))) ∙ c.loop-at.invariant.left program are;
}

pub returns : goal.returns
returns c program are =
    let full = c.loop-at-test.false in
    sym (tested-end (ranks_if_calm (heights_of c.args.self.now) (table_of c.args.flow.now) program) c.args.insns.now c.loop-at.at (omega (arith, full))) ∙ c.loop-at.invariant.left program are
