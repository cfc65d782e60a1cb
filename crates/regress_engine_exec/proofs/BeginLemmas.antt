-- Where a run that begins behind what takes nothing comes to.
use Rattle.std.proofs.Common.{ℕ, true, inl, inr, sym, subst}
use Rattle.regress_meaning.specs.Inputs.{Input}
use Rattle.regress_engine_insn.specs.Instructions.{Program}
use Rattle.regress_engine_search.specs.Tasks.{Leads}
use Rattle.regress_engine_leading.specs.Known.{Comes}
use Rattle.regress_engine_undo.specs.Tasks.{task}
use Rattle.regress_engine_undo.proofs.DispatchLemmas.{take-some}
use Rattle.regress_engine_attempt.specs.Trying.{IsWay}

-- where a run comes to
pub way-comes : (program : Program) (input : Input) (o first : ℕ) → Comes program input o first → IsWay program input true o 0 first
way-comes program input o first (inl none) h = inl none
way-comes program input o first (inr (one, (i, (here, simple, takes)))) h =
    inr (subst (λ a. Leads program input 1 (task program input true (record { at = 0; offset = o; forward = true }) h) (task program input true (record { at = a; offset = o; forward = true }) h)) (sym one)
    (take-some program input i (record { at = 0; offset = o; forward = true }) h o here simple (takes h.groups)))
