use Rattle.std.proofs.Common.{◌≡◌, ◌+◌, ◌-◌, ◌*◌, ◌≤◌, length}
use Rattle.regress_engine_code.specs.Standing.{program_of}
use Rattle.regress_engine_input.specs.Views.{direction_of}
use Rattle.regress_engine_answers.specs.AnswerTables.{IsSized}
use Rattle.regress_engine_answers.specs.Filled.{IsFilled}
use Rattle.regress_engine_search.specs.Places.{IsAwaited, offset_of}
use Rattle.regress_engine_linear.specs.LinearViews.{flow_in, heights_in}
use Rattle.regress_engine_answers.proofs.answers.Answering.fill_level.Given as goal

-- the offsets so far are told of, and the next place to come is known
abbrev pub invariant-loop-offset : goal.invariant-loop-offset
invariant-loop-offset g l = record {
  last : l.last ≡ length (g.Input.InputIndexer.view l.self.input).units;
  step : l.step ≤ l.last;
  sized : IsSized (program_of l.self.program.now) l.answers;
  filled : IsFilled (flow_in l.table) (heights_in l.table) (program_of l.self.program.now) (g.Input.InputIndexer.view l.self.input) l.answers l.level l.level.from (offset_of l.level.forward l.last l.step);
  awaited : IsAwaited (g.Input.InputIndexer.view l.self.input) (direction_of l.level.forward) (offset_of l.level.forward l.last l.step) l.place;
  counted : l.steps ≤ l.initial.steps + l.step * (l.level.to - l.level.from);
}

-- how many offsets are left
abbrev pub decreases-loop-offset : goal.decreases-loop-offset
decreases-loop-offset g l = l.last - l.step
