use Rattle.regress_meaning.proofs.ReadingSteps.{read_by_steps}
use Rattle.regress_meaning.proofs.reading_goes_by_steps.Goals as goal

pub returns : goal.returns
returns c = read_by_steps
