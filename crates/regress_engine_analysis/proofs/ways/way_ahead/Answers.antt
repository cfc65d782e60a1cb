use Rattle.std.proofs.Common.{◌≡◌, ◌+◌, List, length, map, refl, sym, ap, ◌∙◌, arith}
use Rattle.std.proofs.lemmas.List.{length-map}
use Rattle.regress_engine_insn.specs.Instructions.{Instruction}
use Rattle.regress_engine_insn.specs.InsnViews.{instruction}
use Rattle.regress_engine_insn.specs.declared.insn.Insn.{Insn}
use Rattle.regress_engine_analysis.specs.Planned.{firsts}
use Rattle.regress_engine_analysis.specs.Shared.{shared}
use Rattle.regress_engine_analysis.proofs.WaysLemmas.{goes-done, goes-step, held, lacked, next-both, next-first, next-none, next-second}
use Rattle.regress_engine_analysis.proofs.ways.way_ahead.Goals as goal

-- as many instructions as the program has
as-many : (insns : List Insn) (instructions : List Instruction) → instructions ≡ map instruction insns → length instructions ≡ length insns
as-many insns instructions same = ap length same ∙ length-map insns instruction

pub ways-init : goal.ways-init
ways-init c = record { told = λ program same. (length program.instructions, refl, omega arith); fits = λ small. small }

pub ways-preserved-then-is_dead : goal.ways-preserved-then-is_dead
ways-preserved-then-is_dead c = record {
  told = λ program same.
      let sets = firsts (shared c.args.facts.now) in
      let inside = c.in-Some.ensures.inside in
      let all = as-many c.args.insns.now program.instructions same in
      goes-step program sets c.args.byte c.ways.at c.in-Some.second _ (omega (arith, inside, all)) c.in-Some.ensures.behind
      (next-second program sets c.args.byte c.ways.at c.in-Some.second (sym (c.in-Some.ensures.told program same)) (lacked _ (sym c.is_dead.ensures ∙ c.if-is_dead.true)))
      (c.ways.invariant.told program same);
  fits = λ small. c.in-Some.ensures.fits;
}

pub ways-preserved : goal.ways-preserved
ways-preserved c = record {
  told = λ program same.
      let sets = firsts (shared c.args.facts.now) in
      let inside = c.in-Some.ensures.inside in
      let all = as-many c.args.insns.now program.instructions same in
      goes-step program sets c.args.byte c.ways.at (c.ways.at + 1) _ (omega (arith, inside, all)) (omega arith)
      (next-first program sets c.args.byte c.ways.at c.in-Some.second (sym (c.in-Some.ensures.told program same)) (held _ (sym c.is_dead.ensures ∙ c.if-is_dead.false))
      (lacked _ (sym c.is_dead-in-Some.ensures ∙ c.if-not-is_dead.false)))
      (c.ways.invariant.told program same);
  fits = λ small. let behind = c.in-Some.ensures.behind in let fits = c.in-Some.ensures.fits in omega (arith, behind, fits);
}

pub returns-then-not-is_dead-clause-told : goal.returns-then-not-is_dead-clause-told
returns-then-not-is_dead-clause-told c = λ program same.
    let sets = firsts (shared c.args.facts.now) in
    goes-done program sets c.args.byte c.ways.at _
    (next-both program sets c.args.byte c.ways.at c.in-Some.second (sym (c.in-Some.ensures.told program same)) (held _ (sym c.is_dead.ensures ∙ c.if-is_dead.false))
    (held _ (sym c.is_dead-in-Some.ensures ∙ c.if-not-is_dead.true)))
    (c.ways.invariant.told program same)

pub returns-in_default-clause-told : goal.returns-in_default-clause-told
returns-in_default-clause-told c = λ program same.
    let sets = firsts (shared c.args.facts.now) in
    goes-done program sets c.args.byte c.ways.at _ (next-none program sets c.args.byte c.ways.at (sym (c.in_default.ensures.told program same))) (c.ways.invariant.told program same)
