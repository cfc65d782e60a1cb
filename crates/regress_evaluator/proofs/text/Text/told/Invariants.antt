use Rattle.std.proofs.Common.{◌≡◌, map, option_map, take}
use Rattle.regress_evaluator.specs.PlaceViews.{told_range}
use Rattle.regress_evaluator.proofs.text.Text.told.Given as goal

abbrev pub invariant-loop-group : goal.invariant-loop-group
invariant-loop-group l =
    l.captures.items ≡ map (option_map (told_range l.self.points.items)) (take l.group-index l.found.groups.items)
