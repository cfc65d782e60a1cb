use Rattle.std.proofs.Common.{sym, ◌∙◌, arith}
use Rattle.regress_front_bytes.proofs.Members.{TakesUp_without, TakesUp_room, TakesUp_with, TakesUp_all}
use Rattle.regress_front_bytes.proofs.bitmaps.ByteBitmap.as_array.Goals as goal
use Rattle.regress_front_bytes.proofs.bitmaps.ByteBitmap.as_array.Goals.{then-contains, else-contains}

pub bounds-array-filled : goal.bounds-array-filled
bounds-array-filled g c =
    let room = TakesUp_room c.loop-byte.invariant (omega arith) (sym c.contains.ensures ∙ c.if-contains.true) in
    omega (arith, room, c.loop-byte.invariant.long, c.requires)

pub loop-byte-preserved : goal.loop-byte-preserved
loop-byte-preserved g c = elim c.if-contains.branch [
  | then-contains w ↦
      rw (w.array-is, w.filled-is) (TakesUp_with c.loop-byte.invariant (omega arith) (sym c.contains.ensures ∙ w.if-contains.true))
  | else-contains w ↦
      rw (w.array-is, w.filled-is) (TakesUp_without c.loop-byte.invariant (omega arith) (sym c.contains.ensures ∙ w.if-contains.false))
]

pub returns-after-contains : goal.returns-after-contains
returns-after-contains g c = elim c.if-contains.branch [
  | then-contains w ↦
      rw w.array-is (TakesUp_all (TakesUp_with c.loop-byte.invariant (omega arith) (sym c.contains.ensures ∙ w.if-contains.true)) (omega arith))
  | else-contains w ↦
      rw w.array-is (TakesUp_all (TakesUp_without c.loop-byte.invariant (omega arith) (sym c.contains.ensures ∙ w.if-contains.false)) (omega arith))
]
