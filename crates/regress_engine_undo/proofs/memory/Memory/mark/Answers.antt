use Rattle.regress_engine_undo.proofs.StepLemmas.{mark-leads, mark-sound}
use Rattle.regress_engine_undo.proofs.memory.Memory.mark.Goals as goal

pub returns-clause-leads : goal.returns-clause-leads
returns-clause-leads c = mark-leads _ _ _ _ _ c.in_ok-write_group.ensures

pub returns-clause-sound : goal.returns-clause-sound
returns-clause-sound c = mark-sound _ _ _ _ c.in_ok-write_group.ensures c.requires.there
