-- What a prefilter finds in bytes.
use Rattle.std.specs.Prelude.{slice_get, option_map, ◌&&◌}
use Rattle.std.proofs.Common.{◌≡◌, ap₂, ℕ, ◌+◌, ◌-◌, Bool, false, List, length, take, drop, Option, Some, None, refl, sym, ap, ◌∙◌, subst, arith}
use Rattle.regress_meaning.specs.Text.{holds}
use Rattle.regress_meaning.specs.Meaning.{is_some_and}
use Rattle.regress_front_bytes.specs.declared.bitmaps.ByteBitmap.{ByteBitmap}
use Rattle.regress_engine_scanning.specs.declared.landmark.Landmark.{Landmark}
use Rattle.regress_engine_scanning.specs.declared.word_start.WordStart.{WordStart}
use Rattle.regress_engine_prefix.specs.Starts.{BeginsAs}
use Rattle.regress_engine_prefix.specs.declared.start.StartPredicate.{StartPredicate}
use Rattle.regress_engine_prefix.specs.declared.start.StartPredicate.TheVariants.{Arbitrary, ByteSet1, ByteSet2, ByteSet3, ByteSeq, ByteBracket, ByteNear, StartAnchored}
use Rattle.regress_engine_prefix.specs.declared.start.StartPredicate.TheVariants as variant
use Rattle.regress_engine_scanning.specs.NibbleSets.{nibble_set_contains}
use Rattle.regress_engine_search.specs.Prefiltering.{IsNextHit, is_anchored, is_near}
use Rattle.regress_engine_scanning.proofs.ByteLemmas.{slice_get-behind, drop-behind}

-- Bytes behind an offset go on so at an index where all of them do at the offset of it.
pub record SameBehind (start : StartPredicate) (bytes : List ℕ) (from k : ℕ) : Type 0 where
  pub on : BeginsAs start (drop from bytes) k → BeginsAs start bytes (from + k)
  pub back : BeginsAs start bytes (from + k) → BeginsAs start (drop from bytes) k

by_byte : (test : ℕ → Bool) (bytes : List ℕ) (from k : ℕ) → is_some_and (slice_get (drop from bytes) k) test ≡ is_some_and (slice_get bytes (from + k)) test
by_byte test bytes from k = ap (λ (o : Option ℕ). is_some_and o test) (slice_get-behind bytes from k)

pub same-behind : (start : StartPredicate) → is_anchored start ≡ false → is_near start ≡ false → (bytes : List ℕ) (from k : ℕ) → SameBehind start bytes from k
same-behind Arbitrary free far bytes from k = record { on = λ h. tt; back = λ h. tt }
same-behind (ByteSet1 set) free far bytes from k = let e = by_byte (holds set) bytes from k in record { on = λ h. sym e ∙ h; back = λ h. e ∙ h }
same-behind (ByteSet2 set) free far bytes from k = let e = by_byte (holds set) bytes from k in record { on = λ h. sym e ∙ h; back = λ h. e ∙ h }
same-behind (ByteSet3 set) free far bytes from k = let e = by_byte (holds set) bytes from k in record { on = λ h. sym e ∙ h; back = λ h. e ∙ h }
same-behind (ByteSeq front) free far bytes from k =
    let e = ap (take (length front.items)) (drop-behind bytes from k) in record { on = λ h. sym e ∙ h; back = λ h. e ∙ h }
same-behind (ByteBracket set) free far bytes from k = let e = by_byte _ bytes from k in record { on = λ h. sym e ∙ h; back = λ h. e ∙ h }
same-behind (ByteNear set landmark) free far bytes from k = absurd (cc)
same-behind (variant.BytePair pair) free far bytes from k =
    let next : from + (k + 1) ≡ from + k + 1 = omega arith in
    let one = by_byte (nibble_set_contains pair.first) bytes from k in
    let other = by_byte (nibble_set_contains pair.second) bytes from (k + 1) ∙ ap (λ i. is_some_and (slice_get bytes i) (nibble_set_contains pair.second)) next in
    let e = ap₂ ◌&&◌ one other in record { on = λ h. sym e ∙ h; back = λ h. e ∙ h }
same-behind (variant.WordStart word) free far bytes from k = absurd (cc)
same-behind StartAnchored free far bytes from k = absurd (cc)

-- so what is found behind an offset is found from it on
pub found-behind : (start : StartPredicate) → is_anchored start ≡ false → is_near start ≡ false → (bytes : List ℕ) (from : ℕ) (r : Option ℕ) → IsNextHit start (drop from bytes) 0 r
    → IsNextHit start bytes from (option_map (λ k. from + k) r)
found-behind start free far bytes from None h = λ o low is.
    let e : o ≡ from + (o - from) = omega (arith, low) in
    h (o - from) (omega arith) ((same-behind start free far bytes from (o - from)).back (subst (BeginsAs start bytes) e is))
found-behind start free far bytes from (Some k) h = (
  omega arith,
  (same-behind start free far bytes from k).on h.1,
  λ o low high is.
      let e : o ≡ from + (o - from) = omega (arith, low) in
      h.2 (o - from) (omega arith) (omega (arith, low, high)) ((same-behind start free far bytes from (o - from)).back (subst (BeginsAs start bytes) e is)),
)

-- what speaks of no landmark, and of no word
pub other_than_near : (start : StartPredicate) → ((set : ByteBitmap) (landmark : Landmark) → start ≡ ByteNear set landmark → ⊥) → ((word : WordStart) → start ≡ variant.WordStart word → ⊥)
    → is_near start ≡ false
other_than_near Arbitrary near word = refl
other_than_near (ByteSet1 _) near word = refl
other_than_near (ByteSet2 _) near word = refl
other_than_near (ByteSet3 _) near word = refl
other_than_near (ByteSeq _) near word = refl
other_than_near (ByteBracket _) near word = refl
other_than_near (ByteNear set landmark) near word = absurd (near set landmark refl)
other_than_near (variant.BytePair _) near word = refl
other_than_near (variant.WordStart w) near word = absurd (word w refl)
other_than_near StartAnchored near word = refl
