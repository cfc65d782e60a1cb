use Rattle.std.specs.Prelude.{option_map}
use Rattle.std.proofs.Common.{◌≡◌, map, take}
use Rattle.regress_match.specs.Views.{ends}
use Rattle.regress_engine_runs.specs.States.{range_of}
use Rattle.regress_engine_search.specs.StateViews.{marks_of}
use Rattle.regress_engine_search.proofs.captured.captures.Given as goal

-- the ranges so far
abbrev pub invariant-loop-group : goal.invariant-loop-group
invariant-loop-group l = map (option_map ends) l.found.items ≡ map (λ g. range_of (marks_of g)) (take l.group-index l.groups)
