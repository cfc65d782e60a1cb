use Rattle.std.proofs.Common.{◌≡◌, ◌+◌, map, take, min, ap, arith}
use Rattle.regress_front_nodes.specs.Trees.{tree}
use Rattle.regress_front_opt.specs.Shapes.{room_of}
use Rattle.regress_front_opt.proofs.ShapeLemmas.{room-more}
use Rattle.regress_front_opt.proofs.flattening.room_of_parts.Goals as goal

pub loop-part-preserved : goal.loop-part-preserved
loop-part-preserved c =
    let more = room-more c.args.parts.now c.loop-part.part-index c.part-item.result c.loop-part-test.true in
    let same = ap (λ n. room_of (tree n)) c.part-item.is in
    let so_far = c.loop-part.invariant in
    omega (arith, more, same, so_far, c.room.ensures, c.saturating_add-total.ensures)
