use Rattle.std.proofs.Common.{◌≡◌, ◌∷◌, ◌++◌, drop, map, option_map, Some}
use Rattle.regress_match.specs.Slots.{slots_of}
use Rattle.regress_match.specs.Views.{ends}
use Rattle.regress_engine_runs.specs.States.{range_of}
use Rattle.regress_engine_search.specs.StateViews.{marks_of}
use Rattle.regress_engine_search.proofs.captured.fill_slots.Given as goal

-- the slots so far are filled, and the others are as they were
abbrev pub invariant-loop-index : goal.invariant-loop-index
invariant-loop-index l =
    map (option_map ends) l.slots
    ≡ slots_of l.index (Some (ends l.range) ∷ map (λ g. range_of (marks_of g)) l.groups) ++ drop l.index (map (option_map ends) l.fn.slots)
