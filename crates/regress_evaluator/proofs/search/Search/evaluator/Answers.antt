use Rattle.std.proofs.Common.{length, map, chars, sym, ap, ◌∙◌}
use Rattle.std.proofs.lemmas.List.{length-map}
use Rattle.std.specs.Arc.{arc_slice_items}
use Rattle.std.specs.String.{string_bytes}
use Rattle.regress_match.specs.GroupNames.{shared_names}
use Rattle.regress_evaluator.proofs.search.Search.evaluator.Goals as goal

pub returns-clause-groups : goal.returns-clause-groups
returns-clause-groups c =
    let s = c.args.self.now in
    c.len.ensures ∙ sym (length-map (arc_slice_items s.group_names) string_bytes) ∙ sym (length-map (shared_names s.group_names) chars) ∙ ap length s.named
