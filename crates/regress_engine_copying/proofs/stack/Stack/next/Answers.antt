use Rattle.std.proofs.Common.{[], ◌∷◌, sym, subst}
use Rattle.regress_engine_search.specs.Tasks.{Leads}
use Rattle.regress_engine_search.proofs.TaskLemmas.{leads-then}
use Rattle.regress_engine_copying.specs.StateOf.{state_of}
use Rattle.regress_engine_copying.specs.Held.{Held, held}
use Rattle.regress_engine_copying.specs.Sound.{AreSound}
use Rattle.regress_engine_copying.specs.Tasks.{task_of}
use Rattle.regress_engine_copying.proofs.stack.Stack.next.Goals as goal

pub returns-in-Some-resume-clause-leads : goal.returns-in-Some-resume-clause-leads
returns-in-Some-resume-clause-leads c = λ program input.
    leads-then program input 0 0 (c.loop-pending.invariant.leads program input)
    (subst (λ (h : Held). Leads program input 0 (task_of [] h) (task_of (state_of c.in-Some-resume.state ∷ []) (held c.resume.new.self))) (sym c.in-Some.ensures)
    (c.in-Some-resume.ensures.leads program input))

pub loop-pending-preserved : goal.loop-pending-preserved
loop-pending-preserved c = record {
  leads = λ program input. leads-then program input 0 0 (c.loop-pending.invariant.leads program input)
      (subst (λ (h : Held). Leads program input 0 (task_of [] h) (task_of [] (held c.resume.new.self))) (sym c.in-Some.ensures)
      (c.in_default-resume.ensures.leads program input));
  sound = λ program was. (c.in_default-resume.ensures.sound program (subst (λ (h : Held). AreSound program h.entries) c.in-Some.ensures (c.loop-pending.invariant.sound program was))).0;
}
