use Rattle.std.proofs.Common.{◌+◌, ◌-◌, ◌≤◌}
use Rattle.regress_engine_code.specs.Standing.{program_of}
use Rattle.regress_engine_answers.specs.AnswerTables.{IsSized}
use Rattle.regress_engine_answers.specs.Filled.{IsFilled}
use Rattle.regress_engine_linear.specs.LinearViews.{flow_in, heights_in}
use Rattle.regress_engine_answers.proofs.answers.Answering.fill_offset.Given as goal

-- the addresses so far are told of
abbrev pub invariant-loop-index : goal.invariant-loop-index
invariant-loop-index g l = record {
  sized : IsSized (program_of l.self.program.now) l.answers;
  filled : IsFilled (flow_in l.table) (heights_in l.table) (program_of l.self.program.now) (g.Input.InputIndexer.view l.self.input) l.answers l.level l.index l.offset;
  counted : l.steps ≤ l.initial.steps + (l.index - l.level.from);
}
