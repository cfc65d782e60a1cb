use Rattle.std.proofs.Common.{◌≡◌, ◌<◌, ◌+◌, ◌∷◌, [], ◌++◌, length, map, refl, sym, ap, ap₂, ◌∙◌, length-set, arith}
use Rattle.std.proofs.lemmas.List.{drop-set-lt}
use Rattle.std.proofs.lemmas.Grind.{drop_more_same}
use Rattle.regress_front_nodes.specs.Trees.{tree}
use Rattle.regress_front_opt.specs.Shapes.{flattened, room_of}
use Rattle.regress_front_words.proofs.ShareLemmas.{same-at}
use Rattle.regress_front_opt.proofs.ShapeLemmas.{flattened-more, room-left}
use Rattle.regress_front_opt.proofs.flattening.flatten.Goals as goal

pub loop-part-preserved : goal.loop-part-preserved
loop-part-preserved c =
    let items = c.loop-part.part-items in
    let whole = c.deref_mut-part-items.result.now in
    let i = c.loop-part.part-index in
    let d = c.part-item.result in
    let v = c.loop-part.invariant in
    let size = v.2 in
    let inside : c.loop-part.part-index < length c.deref_mut-part-items.result.now = omega (arith, c.loop-part-test.true, c.loop-part.auto.part-items, size) in
    let same = c.replace.ensures.value ∙ same-at items whole i d v.1 in
    let room = ap (λ n. room_of (tree n)) same in
    let left = room-left whole i d inside in (
      c.move_behind.ensures.items ∙ ap₂ (λ ts n. ts ++ flattened (tree n ∷ [])) v.0 same ∙ sym (flattened-more whole i d inside),
      drop-set-lt (i + 1) items i c.replace.new.dest (omega arith) ∙ drop_more_same items whole i v.1,
      length-set items i c.replace.new.dest ∙ v.2,
      omega (arith, v.3, room, left, c.move_behind.ensures.len, c.move_behind.ensures.capacity),
    )
