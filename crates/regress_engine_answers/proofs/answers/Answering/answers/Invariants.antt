use Rattle.std.proofs.Common.{◌+◌, ◌-◌, ◌*◌, ◌≤◌, suc, length}
use Rattle.regress_engine_code.specs.Standing.{program_of}
use Rattle.regress_engine_answers.specs.AnswerTables.{IsSized}
use Rattle.regress_engine_answers.specs.Filled.{IsFilledTo}
use Rattle.regress_engine_linear.specs.Levels.{IsCut}
use Rattle.regress_engine_linear.specs.LinearViews.{flow_in, heights_in}
use Rattle.regress_engine_answers.proofs.answers.Answering.answers.Given as goal

-- the levels so far are told of
abbrev pub invariant-levels : goal.invariant-levels
invariant-levels g l = record {
  low : l.from ≤ length (heights_in l.table).order;
  cut : IsCut (heights_in l.table) l.from;
  sized : IsSized (program_of l.self.program.now) l.answers;
  filled : IsFilledTo (flow_in l.table) (heights_in l.table) (program_of l.self.program.now) (g.Input.InputIndexer.view l.self.input) l.answers l.from;
  counted : l.steps ≤ l.initial.steps + suc (length (g.Input.InputIndexer.view l.self.input).units) * l.from;
}

-- the addresses that are left
abbrev pub decreases-levels : goal.decreases-levels
decreases-levels g l = length (heights_in l.table).order - l.from
