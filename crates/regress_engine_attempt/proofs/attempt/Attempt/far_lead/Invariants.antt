use Rattle.std.proofs.Common.{◌≤◌, Some}
use Rattle.regress_engine_code.specs.Standing.{program_of}
use Rattle.regress_engine_input.specs.Views.{direction_of, input_of, reading_of}
use Rattle.regress_engine_runs.specs.Runs.{gap}
use Rattle.regress_engine_runs.specs.Meets.{IsAtPlace}
use Rattle.regress_engine_undo.specs.Dead.{GivesFrom}
use Rattle.regress_engine_attempt.proofs.attempt.Attempt.far_lead.Given as goal

-- what is given back from the far offset leads to what is given back from here, which is no further
abbrev pub invariant-places : goal.invariant-places
invariant-places g l = record {
  gives : GivesFrom (program_of l.self.program.now) (input_of (g.Input.InputIndexer.view l.self.input)) l.forward l.at l.near l.far (Some l.back);
  nearer : gap (direction_of l.forward) l.near l.back ≤ gap (direction_of l.forward) l.near l.far;
  place : IsAtPlace (reading_of (g.Input.InputIndexer.view l.self.input)) l.back;
}

abbrev pub decreases-places : goal.decreases-places
decreases-places g l = gap (direction_of l.forward) l.near l.back
