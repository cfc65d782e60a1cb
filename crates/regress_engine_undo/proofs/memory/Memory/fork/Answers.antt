use Rattle.regress_engine_undo.proofs.StepLemmas.{fork-leads, resume-sound}
use Rattle.regress_engine_undo.proofs.memory.Memory.fork.Goals as goal

pub returns-clause-leads : goal.returns-clause-leads
returns-clause-leads c = fork-leads _ _ _ _ c.in_ok-push.ensures

pub returns-clause-sound : goal.returns-clause-sound
returns-clause-sound c = resume-sound _ _ _ _ c.in_ok-push.ensures
