use Rattle.std.proofs.Common.{◌≡◌, ◌<◌, ◌≤◌, ◌+◌, ◌||◌, false, ◌∷◌, [], ◌++◌, length, map, drop, refl, sym, ap, ◌∙◌, subst, length-set, vec_len, arith}
use Rattle.std.proofs.lemmas.Bool.{or_parts}
use Rattle.std.proofs.lemmas.List.{drop-set-lt, drop_all, append-nil}
use Rattle.std.proofs.lemmas.Grind.{drop_more_same}
use Rattle.regress_front_nodes.specs.Trees.{tree}
use Rattle.regress_front_opt.specs.Shapes.{Joins, as_they_are}
use Rattle.regress_front_words.proofs.ShareLemmas.{same-at}
use Rattle.regress_front_opt.proofs.JoinLemmas.{joins-more}
use Rattle.regress_front_opt.proofs.joining.join_in_order.Goals as goal

pub returns-in_err-joined-clause-joined : goal.returns-in_err-joined-clause-joined
returns-in_err-joined-clause-joined c = as_they_are

pub loop-part-init : goal.loop-part-init
loop-part-init c =
    let none = c.in_ok-joined.ensures.items in
    let whole = c.deref_mut-part-items.ensures.value in (
      rw none as_they_are,
      refl,
      refl,
      omega (arith, c.in_ok-joined.ensures.len),
      omega (arith, c.in_ok-joined.ensures.capacity, c.len.ensures, ap length whole, c.args.parts.now.ok.0),
      λ e. rw none refl,
    )

pub loop-part-preserved : goal.loop-part-preserved
loop-part-preserved c =
    let items = c.loop-part.part-items in
    let whole = c.deref_mut-part-items.result.now in
    let i = c.loop-part.part-index in
    let d = c.part-item.result in
    let v = c.loop-part.invariant in
    let size = v.2 in
    let inside : c.loop-part.part-index < length c.deref_mut-part-items.result.now = omega (arith, c.loop-part-test.true, c.loop-part.auto.part-items, size) in
    let same = c.replace.ensures.value ∙ same-at items whole i d v.1 in (
      joins-more whole i d (map tree c.loop-part.joined.items) (map tree c.add-refused.new.joined.items) (tree c.replace.result) inside (ap tree same) v.0 c.add-refused.ensures.joined,
      drop-set-lt (i + 1) items i c.replace.new.dest (omega arith) ∙ drop_more_same items whole i v.1,
      length-set items i c.replace.new.dest ∙ v.2,
      omega (arith, v.3, c.add-refused.ensures.len),
      omega (arith, v.4, c.add-refused.ensures.capacity),
      λ e. let both = or_parts c.loop-part.refused c.add-refused.result e in c.add-refused.ensures.apart both.1 (v.5 both.0),
    )
