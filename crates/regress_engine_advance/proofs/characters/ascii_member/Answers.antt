use Rattle.std.proofs.Common.{◌≡◌, ℕ, ◌≤◌, false, ◌∙◌, arith}
use Rattle.regress_front_bytes.specs.Bitmaps.{ascii_bitmap_contains}
use Rattle.regress_front_bytes.proofs.BitRows.{has_bit_past}
use Rattle.regress_engine_advance.proofs.MemberLemmas.{byte-member, byte-other, byte-past}
use Rattle.regress_engine_advance.proofs.characters.ascii_member.Goals as goal
use Rattle.regress_engine_advance.proofs.characters.ascii_member.Goals.{else-offset-text-via-then-offset-text+else-contains, else-offset-text-via-else-offset-text}

pub returns-then-contains : goal.returns-then-contains
returns-then-contains g c =
    let v = g.Input.InputIndexer.view c.args.input.now in
    let held = ascii_bitmap_contains c.args.bitmap.now in
    let low : (b : ℕ) → 0x80 ≤ b → held b ≡ false = λ b high. c.rows.ensures b ∙ has_bit_past 8 c.rows.result.now b (omega (arith, high)) in
    rw c.if-forward.true
    (byte-member v (g.met.Input.InputIndexer.are_of_kind c.args.input.now) c.in-Some.text.now c.in-Some.ensures held low c.args.offset
    c.if-offset-text.true c.contains.result c.contains.ensures c.if-contains.true)

pub returns-else-offset-text : goal.returns-else-offset-text
returns-else-offset-text g c =
    let v = g.Input.InputIndexer.view c.args.input.now in
    let all = g.met.Input.InputIndexer.are_of_kind c.args.input.now in
    let held = ascii_bitmap_contains c.args.bitmap.now in
    let low : (b : ℕ) → 0x80 ≤ b → held b ≡ false = λ b high. c.rows.ensures b ∙ has_bit_past 8 c.rows.result.now b (omega (arith, high)) in
    rw c.if-forward.true (elim c.else-offset-text.branch [
      | else-offset-text-via-then-offset-text+else-contains w ↦
          byte-other v all c.in-Some.text.now c.in-Some.ensures held low c.args.offset c.requires w.if-offset-text.true w.contains.result w.contains.ensures w.if-contains.false
      | else-offset-text-via-else-offset-text w ↦ byte-past v all c.in-Some.text.now c.in-Some.ensures held low c.args.offset w.if-offset-text.false
    ])
