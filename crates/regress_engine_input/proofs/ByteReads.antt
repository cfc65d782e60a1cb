-- Bytes that hold a text, and the room for one beside an offset.
use Rattle.std.specs.Prelude.{slice_get, nat_le, option_and_then}
use Rattle.std.proofs.Common.{◌≡◌, ℕ, zero, suc, ◌+◌, true, List, length, drop, Option, Some, None, refl, sym, ap, arith}
use Rattle.std.proofs.lemmas.Option.{slice_get_within}
use Rattle.std.proofs.lemmas.Bool.Decides.{nat_tests}
use Rattle.regress_meaning.specs.Inputs.{unit_before}
use Rattle.regress_engine_input.specs.Views.{View, Kind, utf8, ascii, utf16, ucs2, in_bytes, moved_right, found_from}

-- behind it
pub byte_right : (kind : Kind) (units : List ℕ) (o b : ℕ) → in_bytes kind (slice_get units o) ≡ Some b → nat_le (o + 1) (length units) ≡ true
byte_right utf8 units o b e = let h = slice_get_within units o b e in grind (arith, nat_tests)
byte_right ascii units o b e = let h = slice_get_within units o b e in grind (arith, nat_tests)
byte_right utf16 units o b e = absurd cc
byte_right ucs2 units o b e = absurd cc

-- before it
pub byte_left : (kind : Kind) (units : List ℕ) (o b : ℕ) → in_bytes kind (unit_before units o) ≡ Some b → nat_le 1 o ≡ true
byte_left utf8 units zero b e = absurd cc
byte_left utf8 units (suc o) b e = grind (arith, nat_tests)
byte_left ascii units zero b e = absurd cc
byte_left ascii units (suc o) b e = grind (arith, nat_tests)
byte_left utf16 units o b e = absurd cc
byte_left ucs2 units o b e = absurd cc

-- where there are no bytes, nothing is found in them
pub found_none : (v : View) (find : List ℕ → Option ℕ) (o : ℕ) → None ≡ in_bytes v.kind (Some v.units) → found_from v find o ≡ None
found_none v find o e = by_kind v.kind e
  where
    by_kind : (kind : Kind) → None ≡ in_bytes kind (Some v.units) → in_bytes kind (option_and_then (moved_right v o) (find (drop o v.units))) ≡ None
    by_kind utf8 e = absurd cc
    by_kind ascii e = absurd cc
    by_kind utf16 e = refl
    by_kind ucs2 e = refl

-- where there are, they are searched
pub found_some : (v : View) (find : List ℕ → Option ℕ) (o : ℕ) (bytes : List ℕ) → Some bytes ≡ in_bytes v.kind (Some v.units)
    → found_from v find o ≡ option_and_then (moved_right v o) (find (drop o bytes))
found_some v find o bytes e = by_kind v.kind e
  where
    searched : bytes ≡ v.units → option_and_then (moved_right v o) (find (drop o v.units)) ≡ option_and_then (moved_right v o) (find (drop o bytes))
    searched same = ap (λ xs. option_and_then (moved_right v o) (find (drop o xs))) (sym same)

    by_kind : (kind : Kind) → Some bytes ≡ in_bytes kind (Some v.units)
        → in_bytes kind (option_and_then (moved_right v o) (find (drop o v.units))) ≡ option_and_then (moved_right v o) (find (drop o bytes))
    by_kind utf8 e = searched cc
    by_kind ascii e = searched cc
    by_kind utf16 e = absurd cc
    by_kind ucs2 e = absurd cc
