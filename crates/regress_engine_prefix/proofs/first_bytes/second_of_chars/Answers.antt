use Rattle.std.proofs.Common.{◌+◌, All, take, sym, subst, refl, arith}
use Rattle.std.proofs.lemmas.Bool.{eq-eqb}
use Rattle.std.proofs.lemmas.List.{take_all}
use Rattle.std.proofs.lemmas.List.Elements.{All-more}
use Rattle.regress_front_bytes.specs.declared.bitmaps.ByteBitmap.{ByteBitmap}
use Rattle.regress_front_bytes.specs.Bitmaps.{byte_bitmap_contains}
use Rattle.regress_engine_prefix.specs.FirstBytes.{HasSecond}
use Rattle.regress_engine_prefix.proofs.ReachLemmas.{in-left, in-right}
use Rattle.regress_engine_prefix.proofs.SecondLemmas.{HasSecond-of, HasSecond-wider}
use Rattle.regress_engine_prefix.proofs.first_bytes.second_of_chars.Goals as goal
use Rattle.regress_engine_prefix.proofs.first_bytes.second_of_chars.Goals.{then-c-le-CODE_POINT_MAX, else-c-le-CODE_POINT_MAX}

pub loop-c-preserved : goal.loop-c-preserved
loop-c-preserved c =
    let chars = c.args.chars.now in
    let k = c.loop-c.c-index in
    elim c.if-c-le-CODE_POINT_MAX.branch [
      | then-c-le-CODE_POINT_MAX w ↦
          subst (λ (set : ByteBitmap). All (HasSecond (byte_bitmap_contains set)) (take (k + 1) chars)) (sym w.set-is)
          (All-more (HasSecond (byte_bitmap_contains w.set.new.self)) chars k _ c.loop-c-test.true
          (λ i d l. HasSecond-wider (byte_bitmap_contains c.loop-c.set) (byte_bitmap_contains w.set.new.self) (λ b e. in-left _ _ _ (w.set.ensures b) e) _ (c.loop-c.invariant i d l))
          (HasSecond-of _ w.utf8_second_byte.result (byte_bitmap_contains w.set.new.self) w.utf8_second_byte.ensures
          (in-right _ _ _ (w.set.ensures w.utf8_second_byte.result) (eq-eqb w.utf8_second_byte.result w.utf8_second_byte.result refl))))
      | else-c-le-CODE_POINT_MAX w ↦
          subst (λ (set : ByteBitmap). All (HasSecond (byte_bitmap_contains set)) (take (k + 1) chars)) (sym w.set-is)
          (All-more (HasSecond (byte_bitmap_contains c.loop-c.set)) chars k 0 c.loop-c-test.true c.loop-c.invariant (λ point. absurd (omega (arith, w.if-c-le-CODE_POINT_MAX.false))))
    ]

pub returns : goal.returns
returns c = rw (take_all c.loop-c.c-index c.args.chars.now (omega (arith, c.loop-c-test.false))) at c.loop-c.invariant
