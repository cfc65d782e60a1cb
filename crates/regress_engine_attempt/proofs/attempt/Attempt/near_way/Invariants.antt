use Rattle.std.proofs.Common.{Some, ◌≡◌, ◌⊎◌}
use Rattle.regress_engine_code.specs.Standing.{program_of}
use Rattle.regress_engine_input.specs.Views.{input_of}
use Rattle.regress_engine_search.specs.Ready.{IsBody}
use Rattle.regress_engine_undo.specs.Dead.{TakesFrom}
use Rattle.regress_engine_trying.specs.Passing.{TakesOver}
use Rattle.regress_engine_attempt.proofs.attempt.Attempt.near_way.Given as goal

-- what is taken on from the first offset leads to what is taken on from here
abbrev pub invariant-places : goal.invariant-places
invariant-places g l = record {
  takes : TakesFrom (program_of l.self.program.now) (input_of (g.Input.InputIndexer.view l.self.input)) l.forward l.at l.offset l.left (Some (l.near, l.rest));
  over : (l.near ≡ l.offset) ⊎ TakesOver (program_of l.self.program.now) (input_of (g.Input.InputIndexer.view l.self.input)) l.forward l.at l.offset l.left (Some (l.near, l.rest));
  body : IsBody (program_of l.self.program.now) (g.Input.InputIndexer.view l.self.input) l.at l.near;
}

abbrev pub decreases-places : goal.decreases-places
decreases-places g l = l.rest
