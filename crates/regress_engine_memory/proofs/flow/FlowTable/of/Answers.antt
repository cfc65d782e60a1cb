use Rattle.std.proofs.Common.{sym, ◌∙◌}
use Rattle.regress_engine_memory.proofs.flow.FlowTable.of.Goals as goal

pub returns-then-are_needs : goal.returns-then-are_needs
returns-then-are_needs c program are = (sym (c.is_flow.ensures program are) ∙ c.if-is_flow.true, sym (c.are_needs.ensures program are) ∙ c.if-are_needs.true)
