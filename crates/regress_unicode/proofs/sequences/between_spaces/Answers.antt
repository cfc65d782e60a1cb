use Rattle.std.proofs.Common.{◌≡◌, chars, map, take, sym, ap, ◌∙◌}
use Rattle.std.proofs.lemmas.Simd.{map-map}
use Rattle.std.proofs.lemmas.List.{take_all}
use Rattle.regress_unicode.specs.Sequences.{between_spaces}
use Rattle.regress_unicode.proofs.sequences.between_spaces.Goals as goal

pub returns : goal.returns
unfolding between_spaces
returns c =
    let items = c.deref-part-items.result.now in
    let all : take c.loop-part.part-index items ≡ c.in_ok-parts.parts.items = take_all _ _ c.loop-part-test.false ∙ c.deref-part-items.ensures.value in
    c.loop-part.invariant ∙ ap (map (λ p. chars p.now)) all ∙ sym (map-map _ _ c.in_ok-parts.parts.items) ∙ ap (map chars) c.in_ok-parts.ensures
