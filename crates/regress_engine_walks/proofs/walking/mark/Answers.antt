use Rattle.std.proofs.Common.{ap}
use Rattle.regress_engine_insn.specs.InsnViews.{instruction}
use Rattle.regress_engine_ways.specs.Ways.{written_by}
use Rattle.regress_engine_walks.proofs.walking.mark.Goals as goal

pub begin-requires : goal.begin-requires
begin-requires c = c.requires c.in-BeginCaptureGroup.group (ap (λ x. written_by (instruction x)) c.in-BeginCaptureGroup.is)

pub end-requires : goal.end-requires
end-requires c = c.requires c.in-EndCaptureGroup.group (ap (λ x. written_by (instruction x)) c.in-EndCaptureGroup.is)

pub forget-requires : goal.forget-requires
forget-requires c = c.requires c.in-ResetCaptureGroup.group (ap (λ x. written_by (instruction x)) c.in-ResetCaptureGroup.is)
