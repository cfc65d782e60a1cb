-- A match of a text of characters, told in bytes, lies in the bytes of that text.
use Rattle.std.proofs.Common.{◌≡◌, ℕ, List, [], ◌∷◌, length, map, option_map, Option, Some, None, IfSome, true, ap, subst, refl}
use Rattle.std.proofs.lemmas.List.Elements.{All-nil, All-cons, All-head, All-tail}
use Rattle.std.proofs.lemmas.Str.{chars-encodes}
use Rattle.std.specs.Prelude.{All}
use Rattle.std.specs.Str.{encode_utf8_all, all_scalars, IsCharBoundary}
use Rattle.std.specs.declared.ops.Range.{Range}
use Rattle.regress_meaning.specs.Matches.{Item}
use Rattle.regress_meaning.specs.Offsets.{offset, offset_range, told}
use Rattle.regress_meaning.specs.Laws.{LiesIn}
use Rattle.regress_front_bytes.proofs.TextLemmas.{offset_is_boundary, offset-le}
use Rattle.regress_match.specs.declared.found.Match.{Match}
use Rattle.regress_match.specs.Views.{ends, item_of}
use Rattle.regress_match.specs.TextRanges.{utf8_reading, LiesBetween, LiesInText}

-- the offset of each place is where the bytes may be cut
pub offset_is_boundary_of_points : (points : List ℕ) → all_scalars points ≡ true → (place : ℕ)
    → IsCharBoundary (encode_utf8_all points) (offset (utf8_reading points) place)
offset_is_boundary_of_points points h place =
    let bytes = encode_utf8_all points in
    let P : List ℕ → Type 0 = λ ps. IsCharBoundary bytes (offset (utf8_reading ps) place) in
    subst P (chars-encodes points h) (offset_is_boundary bytes (points, (h, refl)) place)

-- a range of places told in bytes lies in the text between characters
range-between : (points : List ℕ) → all_scalars points ≡ true → (r : Range ℕ) (places : ℕ × ℕ) → LiesIn (length points) places
    → ends r ≡ offset_range (utf8_reading points) places → LiesBetween (encode_utf8_all points) r
range-between points h r places lies same =
    let start : r.start ≡ offset (utf8_reading points) places.0 = ap (λ (p : ℕ × ℕ). p.0) same in
    let end : r.end ≡ offset (utf8_reading points) places.1 = ap (λ (p : ℕ × ℕ). p.1) same in (
      rw (start, end) (offset-le (utf8_reading points) places.0 places.1 lies.0),
      rw start (offset_is_boundary_of_points points h places.0),
      rw end (offset_is_boundary_of_points points h places.1),
    )

-- and so does what each group took
groups-between : (points : List ℕ) → all_scalars points ≡ true → (gs : List (Option (Range ℕ))) (hs : List (Option (ℕ × ℕ)))
    → map (option_map ends) gs ≡ map (option_map (offset_range (utf8_reading points))) hs → All (λ g. IfSome g (LiesIn (length points))) hs
    → All (λ g. IfSome g (LiesBetween (encode_utf8_all points))) gs
groups-between points h [] hs same all = All-nil (λ g. IfSome g (LiesBetween (encode_utf8_all points)))
groups-between points h (g ∷ gs) [] same all = absurd cc
groups-between points h (g ∷ gs) (k ∷ hs) same all =
    let first : option_map ends g ≡ option_map (offset_range (utf8_reading points)) k = cc in
    let rest : map (option_map ends) gs ≡ map (option_map (offset_range (utf8_reading points))) hs = cc in
    All-cons (λ g. IfSome g (LiesBetween (encode_utf8_all points))) g gs (one g k first (All-head (λ g. IfSome g (LiesIn (length points))) k hs all))
    (groups-between points h gs hs rest (All-tail (λ g. IfSome g (LiesIn (length points))) k hs all))
  where
    one : (g : Option (Range ℕ)) (k : Option (ℕ × ℕ)) → option_map ends g ≡ option_map (offset_range (utf8_reading points)) k
        → IfSome k (LiesIn (length points)) → IfSome g (LiesBetween (encode_utf8_all points))
    one None k same lies = tt
    one (Some r) None same lies = absurd cc
    one (Some r) (Some places) same lies =
        let e : ends r ≡ offset_range (utf8_reading points) places = cc in
        range-between points h r places lies e

-- a match told in bytes lies in its text, where it lies there in places
pub told-between : (points : List ℕ) → all_scalars points ≡ true → (m : Match) (i : Item) → item_of m ≡ told (utf8_reading points) i
    → LiesIn (length points) (i.start, i.end) → All (λ g. IfSome g (LiesIn (length points))) i.groups → LiesInText (encode_utf8_all points) m
told-between points h m i same whole groups = (
  range-between points h m.range (i.start, i.end) whole (ap (λ (j : Item). (j.start, j.end)) same),
  groups-between points h m.captures.items i.groups (ap (λ (j : Item). j.groups) same) groups,
)
