use Rattle.std.proofs.Common.{◌≡◌, ◌+◌, ◌++◌, [], ◌∷◌, true, false, map, if◌then◌else◌, vec_len, refl, sym, ap, ◌∙◌, arith}
use Rattle.std.specs.Result.{is_ok}
use Rattle.std.proofs.lemmas.Bool.{false≢true}
use Rattle.std.proofs.lemmas.List.{map-append}
use Rattle.regress_front_nodes.specs.Trees.{tree}
use Rattle.regress_front_nodes.proofs.KindLemmas.{other_than_empty}
use Rattle.regress_front_opt.proofs.NodeKinds.{no-cat}
use Rattle.regress_front_opt.proofs.ShapeLemmas.{room-Cat, flattened-Cat, flattened-other, no_cat-room}
use Rattle.regress_front_opt.proofs.flattening.move_behind.Goals as goal

pub unreachable-requires : goal.unreachable-requires
unreachable-requires c =
    let room = room-Cat c.args.part c.in-Cat.inner c.in-Cat.is in
    let fine = c.append.ensures.succeeds (omega (arith, room, c.requires)) in
    let not_fine = c.if-is_err.ensures.negation in
    false≢true (sym not_fine ∙ fine)

pub returns-else-is_err-clause-items : goal.returns-else-is_err-clause-items
returns-else-is_err-clause-items c =
    let room = room-Cat c.args.part c.in-Cat.inner c.in-Cat.is in
    let fine = c.append.ensures.succeeds (omega (arith, room, c.requires)) in
    let items = rw fine at c.append.ensures.items in
    ap (map tree) items ∙ map-append tree c.args.flat.now.items c.in-Cat.inner.items ∙ ap (λ ts. map tree c.args.flat.now.items ++ ts) (sym (flattened-Cat c.args.part c.in-Cat.inner c.in-Cat.is))

pub returns-else-is_err-clause-len : goal.returns-else-is_err-clause-len
returns-else-is_err-clause-len c =
    let room = room-Cat c.args.part c.in-Cat.inner c.in-Cat.is in
    let fine = c.append.ensures.succeeds (omega (arith, room, c.requires)) in
    let len = rw fine at c.append.ensures.len in
    omega (arith, room, len)

pub returns-in_default : goal.returns-in_default
returns-in_default c =
    let cat = no-cat c.args.part c.in_default.not-Cat in
    let empty = other_than_empty c.args.part c.in_default.not-Empty in
    let room = no_cat-room (tree c.args.part) cat in
    record {
      items = ap (map tree) c.push_reserved.ensures.items ∙ map-append tree c.args.flat.now.items (c.args.part ∷ []) ∙ ap (λ ts. map tree c.args.flat.now.items ++ ts) (sym (flattened-other (tree c.args.part) cat empty));
      len = omega (arith, room, c.push_reserved.ensures.len);
      capacity = omega (arith, c.push_reserved.ensures.capacity);
    }
