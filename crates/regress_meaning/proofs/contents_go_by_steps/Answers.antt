use Rattle.regress_meaning.proofs.ContentsSteps.{contents_by_steps}
use Rattle.regress_meaning.proofs.contents_go_by_steps.Goals as goal

pub returns : goal.returns
returns c = contents_by_steps
