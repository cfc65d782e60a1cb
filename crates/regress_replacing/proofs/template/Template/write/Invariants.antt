use Rattle.std.proofs.Common.{◌≡◌, ◌++◌, flat_map, take, string_bytes}
use Rattle.regress_match.specs.Views.{item_of}
use Rattle.regress_match.specs.GroupViews.{names_of_match}
use Rattle.regress_replacing.specs.TemplateParts.{part_gives}
use Rattle.regress_replacing.proofs.template.Template.write.Given as goal

abbrev pub invariant-loop-part : goal.invariant-loop-part
invariant-loop-part l =
    string_bytes l.written ≡ string_bytes l.initial.written
    ++ flat_map (part_gives (names_of_match l.found) l.text (item_of l.found)) (take l.part-index l.part-items)
