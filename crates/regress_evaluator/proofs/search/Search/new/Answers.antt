use Rattle.std.proofs.Common.{map, chars, ap, ◌∙◌}
use Rattle.std.proofs.lemmas.Simd.{map-map}
use Rattle.std.proofs.lemmas.Str.{scalars-chars}
use Rattle.std.specs.Arc.{arc_slice_items}
use Rattle.std.specs.String.{string_bytes}
use Rattle.regress_evaluator.proofs.search.Search.new.Goals as goal

pub invariant_of-result : goal.invariant_of-result
invariant_of-result c = record {
  characters = rw c.in_ok-text.ensures (scalars-chars c.args.source.now c.utf8.source);
  named = map-map chars string_bytes (arc_slice_items c.in_ok-group_names-2.group_names)
      ∙ ap (map (λ name. chars (string_bytes name))) c.in_ok-group_names-2.ensures ∙ c.in_ok-group_names.ensures;
}
