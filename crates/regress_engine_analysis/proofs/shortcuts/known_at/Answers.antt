use Rattle.std.proofs.Common.{Some, ap, ◌∙◌}
use Rattle.regress_engine_insn.specs.InsnViews.{instruction}
use Rattle.regress_engine_insn.specs.declared.insn.Insn.TheVariants.{Goal}
use Rattle.regress_engine_analysis.proofs.PlanLemmas.{read-stands}
use Rattle.regress_engine_analysis.proofs.shortcuts.known_at.Goals as goal

pub returns-in-Some : goal.returns-in-Some
returns-in-Some c = λ program same.
    c.in-Some.ensures program same
    (read-stands program c.args.insns.now c.args.at Goal same c.if-at-insns.false ∙ ap (λ x. Some (instruction x)) c.in-Alt.is)
