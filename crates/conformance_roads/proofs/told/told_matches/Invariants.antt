use Rattle.std.specs.Prelude.{IfSome}
use Rattle.regress_engine_input.specs.Views.{reading_of}
use Rattle.regress_engine_runs.specs.Meets.{IsAtPlace}
use Rattle.conformance_roads.proofs.told.told_matches.Given as goal

-- a search goes on at a place
abbrev pub invariant-loop : goal.invariant-loop
invariant-loop g l = IfSome l.next (IsAtPlace (reading_of (g.Input.InputIndexer.view l.context.input)))
