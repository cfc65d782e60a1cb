use Rattle.std.proofs.Common.{ℕ, ◌<◌, ◌≤◌, Option, Some, None, Vec, Global, map, option_map, length, ap, refl, arith, ◌∙◌}
use Rattle.std.proofs.lemmas.List.{take_all}
use Rattle.std.specs.declared.ops.Range.{Range}
use Rattle.regress_evaluator.specs.PlaceViews.{told_range}
use Rattle.regress_evaluator.proofs.ToldLemmas.{group_within, group_told, match_told}
use Rattle.regress_evaluator.proofs.text.Text.told.Goals.{in-Some, in-None}
use Rattle.regress_evaluator.proofs.text.Text.told.Goals as goal

pub range-requires-clause-start : goal.range-requires-clause-start
range-requires-clause-start c =
    let found = c.args.found.now in
    let points = c.args.self.now.points in
    let inside = group_within (length points.items) found.groups.items c.loop-group.group-index c.in-Some.places c.requires.groups
    (omega (arith, c.loop-group-test.true, c.deref-group-items.ensures.len, ap length c.deref-group-items.ensures.value)) (cc (c.in-Some.is, c.deref-group-items.ensures.value)) in
    omega (arith, inside.0, inside.1, points.ok.0)

pub range-requires-clause-end : goal.range-requires-clause-end
range-requires-clause-end c =
    let found = c.args.found.now in
    let points = c.args.self.now.points in
    let inside = group_within (length points.items) found.groups.items c.loop-group.group-index c.in-Some.places c.requires.groups
    (omega (arith, c.loop-group-test.true, c.deref-group-items.ensures.len, ap length c.deref-group-items.ensures.value)) (cc (c.in-Some.is, c.deref-group-items.ensures.value)) in
    omega (arith, inside.0, inside.1, points.ok.0)

pub loop-group-preserved : goal.loop-group-preserved
loop-group-preserved c =
    let found = c.args.found.now in
    let points = c.args.self.now.points.items in
    let within : c.loop-group.group-index < length found.groups.items = omega (arith, c.loop-group-test.true, c.deref-group-items.ensures.len, ap length c.deref-group-items.ensures.value) in
    elim c.match-group.branch [
      | in-Some w ↦ group_told points found.groups.items c.loop-group.captures.items c.push.new.self.items c.loop-group.group-index (Some w.in-Some.places) (Some w.range.result) c.loop-group.invariant within (cc (w.in-Some.is, c.deref-group-items.ensures.value)) (ap Some w.range.ensures) (cc (c.in_ok-push.ensures.items, w.push-is))
      | in-None w ↦ group_told points found.groups.items c.loop-group.captures.items c.push.new.self.items c.loop-group.group-index None None c.loop-group.invariant within (cc (w.in-None.is, c.deref-group-items.ensures.value)) refl (cc (c.in_ok-push.ensures.items, w.push-is))
    ]

pub returns-clause-told : goal.returns-clause-told
returns-clause-told c =
    let found = c.args.found.now in
    let points = c.args.self.now.points.items in
    let past : length found.groups.items ≤ c.loop-group.group-index = omega (arith, c.loop-group-test.false, c.deref-group-items.ensures.len, ap length c.deref-group-items.ensures.value) in
    match_told points found c.new.result (c.new.ensures.range ∙ c.range-2.ensures)
    (ap (λ (v : Vec (Option (Range ℕ)) Global). v.items) c.new.ensures.captures ∙ c.loop-group.invariant
    ∙ ap (map (option_map (told_range points))) (take_all c.loop-group.group-index found.groups.items past))
