use Rattle.std.proofs.Common.{◌≡◌, ◌≤◌, ◌<◌, ◌∷◌, ◌++◌, length, drop, map, option_map, Some, sym, ap, ◌∙◌, add-one, arith, append-nil}
use Rattle.std.specs.Prelude.{slice_set}
use Rattle.std.proofs.lemmas.List.{length-map, map-set, drop_all}
use Rattle.regress_match.specs.GroupRanges.{numbered}
use Rattle.regress_match.specs.Slots.{slots_of}
use Rattle.regress_match.specs.Views.{ends}
use Rattle.regress_engine_runs.specs.States.{range_of}
use Rattle.regress_engine_search.specs.StateViews.{marks_of}
use Rattle.regress_engine_search.proofs.SlotLemmas.{one-more, none-yet}
use Rattle.regress_engine_search.proofs.captured.fill_slots.Goals as goal

pub loop-index-init : goal.loop-index-init
loop-index-init c = none-yet (Some (ends c.args.range) ∷ map (λ g. range_of (marks_of g)) c.args.groups.now) (map (option_map ends) c.args.slots.now)

pub loop-index-preserved : goal.loop-index-preserved
loop-index-preserved c =
    let groups = Some (ends c.args.range) ∷ map (λ g. range_of (marks_of g)) c.args.groups.now in
    let old = map (option_map ends) c.args.slots.now in
    let i = c.loop-index.index in
    let inside : i < length old = omega (arith, c.loop-index-test.true, length-map c.args.slots.now (option_map ends)) in
    map-set (option_map ends) c.loop-index.slots i c.slot.result
    ∙ ap (λ x. slice_set (map (option_map ends) c.loop-index.slots) i x) c.slot.ensures
    ∙ ap (λ xs. slice_set xs i (numbered groups i)) c.loop-index.invariant
    ∙ one-more groups i old inside
    ∙ ap (λ n. slots_of n groups ++ drop n old) (sym (add-one i))

pub returns : goal.returns
returns c =
    let groups = Some (ends c.args.range) ∷ map (λ g. range_of (marks_of g)) c.args.groups.now in
    let old = map (option_map ends) c.args.slots.now in
    let i = c.loop-index.index in
    let last : i ≡ length c.args.slots.now = omega (arith, c.loop-index-test.false, c.loop-index.auto.index-end) in
    let past : length old ≤ i = omega (arith, last, length-map c.args.slots.now (option_map ends)) in
    c.loop-index.invariant ∙ ap (λ rest. slots_of i groups ++ rest) (drop_all i old past) ∙ append-nil (slots_of i groups)
    ∙ ap (λ n. slots_of n groups) last
