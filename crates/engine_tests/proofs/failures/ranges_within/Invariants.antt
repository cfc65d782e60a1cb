use Rattle.std.specs.Prelude.{IfSome}
use Rattle.regress_engine_search.specs.Search.{IsPosition}
use Rattle.regress_engine_exec.specs.Searches.{search_in}
use Rattle.engine_tests.proofs.failures.ranges_within.Given as goal

-- a search goes on at a place of the text
abbrev pub invariant-loop : goal.invariant-loop
invariant-loop l = IfSome l.position (IsPosition (search_in l.executor))
