use Rattle.std.specs.Prelude.{get_or}
use Rattle.std.proofs.Common.{◌+◌, ◌<◌, ◌≤◌, ◌⊎◌, inl, inr, true, false, length, sym, ◌∙◌, ap, arith}
use Rattle.std.proofs.lemmas.Bool.{cases_lt}
use Rattle.regress_engine_insn.specs.InsnViews.{instruction}
use Rattle.regress_engine_insn.specs.declared.insn.Insn.TheVariants.{Goal}
use Rattle.regress_engine_memory.specs.Passing.{all_pass}
use Rattle.regress_engine_memory.proofs.TableLemmas.{tested-on}
use Rattle.regress_engine_linear.specs.LinearTests.{is_asked_inside}
use Rattle.regress_engine_linear.proofs.PassageLemmas.{inside-is, tested-behind, tested-from}
use Rattle.regress_engine_linear.proofs.contents.Passage.are_asked.Goals as goal

pub loop-at-init : goal.loop-at-init
loop-at-init c = record {
  left = λ program are.
      let p = c.args.self.now in
      let within = c.requires in
      tested-from c.args.asked p.at p.first p.last p.end c.args.insns.now (p.at + 1) (omega arith) (omega (arith, within)) ∙ ap (all_pass (is_asked_inside c.args.asked p.at p.first p.last p.end) 0) (sym are);
}

pub returns-then-not-is_asked : goal.returns-then-not-is_asked
returns-then-not-is_asked c program are =
    let p = c.args.self.now in
    let at = c.loop-at.at in
    let insns = c.args.insns.now in
    let low = c.loop-at.auto.at in
    let test = c.loop-at-test.true in
    let within : at < length insns = omega (arith, test) in
    let ahead : at < p.end = omega (arith, test) in
    sym (tested-on (is_asked_inside c.args.asked p.at p.first p.last p.end) insns at Goal false within
    (inside-is c.args.asked p.at p.first p.last p.end at (instruction (get_or insns at Goal)) (omega (arith, low)) ahead ∙ sym c.is_asked.ensures ∙ c.if-not-is_asked.true))
    ∙ c.loop-at.invariant.left program are

pub loop-at-preserved : goal.loop-at-preserved
loop-at-preserved c = record {
  left = λ program are.
      let p = c.args.self.now in
      let at = c.loop-at.at in
      let insns = c.args.insns.now in
      let low = c.loop-at.auto.at in
      let test = c.loop-at-test.true in
      let within : at < length insns = omega (arith, test) in
      let ahead : at < p.end = omega (arith, test) in
      sym (tested-on (is_asked_inside c.args.asked p.at p.first p.last p.end) insns at Goal true within
      (inside-is c.args.asked p.at p.first p.last p.end at (instruction (get_or insns at Goal)) (omega (arith, low)) ahead ∙ sym c.is_asked.ensures ∙ c.if-not-is_asked.false))
      ∙ c.loop-at.invariant.left program are;
}

pub returns : goal.returns
returns c program are =
    let p = c.args.self.now in
    let past = c.loop-at-test.false in
    let over : (p.end ≤ c.loop-at.at) ⊎ (length c.args.insns.now ≤ c.loop-at.at) = elim (cases_lt c.loop-at.at p.end) [
      | inl less ↦ inr (omega (arith, past, less))
      | inr high ↦ inl high
    ] in
    sym (tested-behind c.args.asked p.at p.first p.last p.end c.args.insns.now c.loop-at.at over) ∙ c.loop-at.invariant.left program are
