use Rattle.std.proofs.Common.{◌+◌, length, chars, inl, inr, refl, rules, arith}
use Rattle.regress_front_bytes.proofs.TextLemmas.{offset_of_end, place_of_boundary, boundary_of_place}
use Rattle.regress.proofs.api.is_start.Goals as goal

pub returns-then-start-text : goal.returns-then-start-text
returns-then-start-text c =
    let bytes = c.args.text.now in
    ((λ past. (length (chars bytes) + 1, inr (refl, omega (arith, offset_of_end bytes c.utf8.text)))), (λ begun. search rules))

pub returns-else-start-text : goal.returns-else-start-text
returns-else-start-text c =
    let bytes = c.args.text.now in (
      λ yes. let (place, within, here) = place_of_boundary bytes c.utf8.text c.args.start (c.is_char_boundary.ensures.test.0 yes) in (place, inl (within, here)),
      λ (place, begins). c.is_char_boundary.ensures.test.1 (boundary_of_place bytes c.utf8.text c.args.start (omega arith) place begins),
    )
