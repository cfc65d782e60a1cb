use Rattle.std.proofs.Common.{◌<◌, ◌-◌, length, Some, ◌∙◌, arith}
use Rattle.std.proofs.lemmas.Bool.Decides.{nat_tests}
use Rattle.std.proofs.lemmas.Grind.{common_steps}
use Rattle.regress_match.specs.Views.{ends}
use Rattle.regress_engine_runs.specs.States.{range_of}
use Rattle.regress_engine_search.specs.StateViews.{marks_of}
use Rattle.regress_engine_search.proofs.SlotLemmas.{group-slot}
use Rattle.regress_engine_search.proofs.captured.slot.Goals as goal

pub returns : goal.returns
returns c =
    let inside : c.args.index - 1 < length c.args.groups.now = grind (arith, nat_tests, common_steps, c.in_ok-get.ensures.lookup.0) in
    c.taken.ensures
    ∙ group-slot (λ g. range_of (marks_of g)) (Some (ends c.args.range.now)) c.args.groups.now c.args.index _ _ (omega (arith, c.if-index-eq0.false)) inside c.in_ok-get.ensures.lookup.1
