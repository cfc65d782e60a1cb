use Rattle.std.proofs.Common.{◌+◌, refl, sym, ap, ◌∙◌, Some, arith}
use Rattle.std.proofs.lemmas.Bool.{eq-eqb}
use Rattle.regress_engine_insn.specs.Instructions.{begins_loop}
use Rattle.regress_engine_insn.specs.InsnViews.{instruction, fields}
use Rattle.regress_engine_insn.specs.declared.insn.Insn.TheVariants.{Goal}
use Rattle.regress_engine_analysis.specs.Planned.{ends_iteration, firsts, is_class, jumps_to}
use Rattle.regress_engine_analysis.specs.Shared.{shared}
use Rattle.regress_engine_analysis.proofs.PlanLemmas.{one-loop, one-second, read-passes, read-stands}
use Rattle.regress_engine_analysis.proofs.shortcuts.turn_at.Goals as goal

pub returns : goal.returns
returns c = λ program same ways.
    let insns = c.args.insns.now in
    let sets = firsts (shared c.args.facts.now) in
    let target = c.in-Jump.target in
    let begin = c.in-LoopAgain.begin in
    let within = c.if-at-insns.false in
    let loop = read-stands program insns begin Goal same c.if-start-insns.false ∙ ap (λ x. Some (instruction x)) c.in-EnterLoop.is in
    record {
      class = read-passes program insns (c.args.at + 1) Goal is_class same (omega (arith, within)) (sym c.is_class.ensures ∙ c.if-not-is_class.false);
      jump = read-passes program insns (c.args.at + 2) Goal (jumps_to target) same (omega (arith, within))
          (ap (λ x. jumps_to target (instruction x)) c.in-Jump.is ∙ eq-eqb target target refl);
      ends = read-passes program insns target Goal (ends_iteration begin) same c.if-again-insns.false
          (ap (λ x. ends_iteration begin (instruction x)) c.in-LoopAgain.is ∙ eq-eqb begin begin refl);
      begins = read-passes program insns begin Goal begins_loop same c.if-start-insns.false (ap (λ x. begins_loop (instruction x)) c.in-EnterLoop.is);
      body = c.if-start-at.false;
      way = λ second. one-second program sets (c.args.at + 1) c.args.at c.args.second second ways (c.are_apart.ensures c.if-not-are_apart.false);
      out = λ f. one-loop program sets (c.args.at + 1) begin (fields c.in-EnterLoop.repetition) f loop (c.are_apart-else-not-are_apart.ensures c.if-not-are_apart-2.false);
    }
