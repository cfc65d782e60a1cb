-- How far a class of all but a few bytes goes, told by where the first of these stands.
use Rattle.std.specs.Prelude.{slice_get, slice_index, option_map, drop, ◌==◌, ◌||◌, get_or}
use Rattle.std.specs.Str.{IsCharBoundary}
use Rattle.std.proofs.Common.{◌≡◌, ◌⊎◌, inl, inr, ℕ, zero, suc, ◌+◌, ◌-◌, ◌<◌, ◌≤◌, Bool, true, false, not, List, [], ◌∷◌, length, length-drop, Option, Some, None, if◌then◌else◌, refl, sym, ap, ap₂, ◌∙◌, subst, arith}
use Rattle.std.proofs.lemmas.Bool.{cases_lt}
use Rattle.std.proofs.lemmas.Option.{slice_get_past, slice_get-get_or}
use Rattle.std.proofs.lemmas.Str.{IsCharBoundary-end, IsCharBoundary-before_ascii}
use Rattle.regress_meaning.specs.Meaning.{Forward}
use Rattle.regress_meaning.specs.Text.{holds}
use Rattle.regress_meaning.specs.Steps.{passed, only_if}
use Rattle.regress_engine_input.specs.Views.{View, Kind, utf8, ascii, utf16, ucs2, AreOfKind, IsReadable, CanRead, are_bytes, in_bytes, input_of, input_of_kind}
use Rattle.regress_engine_matchers.proofs.ByteLemmas.{in-bytes, byte_place, sees_byte}
use Rattle.regress_engine_matchers.proofs.ViewLemmas.{view_reads}
use Rattle.memchr.specs.Find.{IsFirstByte, is_byte3}
use Rattle.regress_engine_scanning.proofs.ByteLemmas.{three-held}
use Rattle.regress_front_sets.specs.declared.interval.Interval.{Interval}
use Rattle.regress_front_sets.specs.Intervals.{ends_of, in_interval}
use Rattle.regress_front_sets.proofs.SetLemmas.{held-from, held-none}
use Rattle.regress_front_nodes.specs.TreeMeaning.{bracket_has}
use Rattle.regress_meaning.specs.TableParts.{in_intervals}
use Rattle.std.proofs.lemmas.List.{get_or-drop}
use Rattle.regress_engine_singles.specs.Passing.{scan_while, StopsAt}
use Rattle.regress_engine_singles.proofs.ByteLemmas.{none-ahead}

module _ (v : View) (all : AreOfKind v.kind v.units) (are : are_bytes v.kind ≡ true) (stops : List ℕ) (low : (c : ℕ) → 0x80 ≤ c → holds stops c ≡ false)
    (passes : ℕ → Bool) (others : (c : ℕ) → passes c ≡ not (holds stops c)) where
  -- the character ahead of an offset, where the text goes on
  some-next : (o b : ℕ) → slice_get v.units o ≡ Some b → (x : ℕ × ℕ) × ((input_of v).next Forward o ≡ Some x)
  some-next o b e = by_kind v.kind are
    where
      by_kind : (kind : Kind) → are_bytes kind ≡ true → (x : ℕ × ℕ) × ((input_of_kind kind v.table v.unicode v.units).next Forward o ≡ Some x)
      by_kind utf8 bytes = (_, ap (option_map _) e)
      by_kind ascii bytes = (_, ap (option_map _) e)
      by_kind utf16 bytes = absurd (cc bytes)
      by_kind ucs2 bytes = absurd (cc bytes)

  -- a byte tells whether the class ends
  told : (o b : ℕ) → CanRead v o → slice_get v.units o ≡ Some b → only_if (holds stops b) (suc o) ≡ passed (holds stops) ((input_of v).next Forward o)
  told o b can e = sees_byte v all are (holds stops) low Forward o can b (suc o) (sym (in-bytes v.kind (slice_get v.units o) are ∙ e)) refl

  module _ (start end : ℕ) (at : StopsAt stops v.units start end) where
    -- the end may be read from
    end-can : CanRead v end
    end-can = by_room (cases_lt end (length v.units))
      where
        by_kind : (kind : Kind) → are_bytes kind ≡ true → IsCharBoundary v.units end → IsReadable kind v.units end
        by_kind utf8 bytes cut = cut
        by_kind ascii bytes cut = at.room
        by_kind utf16 bytes cut = at.room
        by_kind ucs2 bytes cut = at.room

        low-byte : (b : ℕ) → holds stops b ≡ true → b < 0x80
        low-byte b held = elim (cases_lt b 0x80) [ inl small ↦ small | inr large ↦ absurd (cc (sym held ∙ low b large)) ]

        by_room : (end < length v.units) ⊎ (length v.units ≤ end) → CanRead v end
        by_room (inl less) = by_kind v.kind are (IsCharBoundary-before_ascii v.units end less (low-byte _ (at.stop less)))
        by_room (inr full) = let room = at.room in let same : length v.units ≡ end = omega (arith, full, room) in by_kind v.kind are (subst (IsCharBoundary v.units) same (IsCharBoundary-end v.units))

    -- the class goes as far as that
    pub far-stopped : (n o : ℕ) → CanRead v o → start ≤ o → o ≤ end → end - o ≤ n → scan_while (input_of v) passes Forward n o ≡ end
    unfolding scan_while
    far-stopped zero o can from to room = omega (arith, to, room)
    far-stopped (suc n) o can from to room = by_order (cases_lt o end) (far-stopped n)
      where
        goes : Option ℕ → ℕ
        goes x = elim x [ None ↦ o | Some q ↦ scan_while (input_of v) passes Forward n q ]

        by_next : (b : Bool) → only_if b (suc o) ≡ passed (holds stops) ((input_of v).next Forward o) → (c q : ℕ) → (input_of v).next Forward o ≡ Some (c, q) → holds stops c ≡ b
        by_next true e c q f = by_held (holds stops c) refl
          where
            by_held : (h : Bool) → holds stops c ≡ h → holds stops c ≡ true
            by_held true g = g
            by_held false g = absurd (cc (e ∙ ap (passed (holds stops)) f ∙ ap (λ (b : Bool). if b then Some q else None) g))
        by_next false e c q f = by_held (holds stops c) refl
          where
            by_held : (h : Bool) → holds stops c ≡ h → holds stops c ≡ false
            by_held false g = g
            by_held true g = absurd (cc (e ∙ ap (passed (holds stops)) f ∙ ap (λ (b : Bool). if b then Some q else None) g))

        tested : (b : Bool) (c q : ℕ) → (input_of v).next Forward o ≡ Some (c, q) → holds stops c ≡ b → passed passes ((input_of v).next Forward o) ≡ (if not b then Some q else None)
        tested b c q f g = ap (passed passes) f ∙ ap (λ (t : Bool). if t then Some q else None) (others c ∙ ap not g)

        by_order : (o < end) ⊎ (end ≤ o) → ((o : ℕ) → CanRead v o → start ≤ o → o ≤ end → end - o ≤ n → scan_while (input_of v) passes Forward n o ≡ end) → goes (passed passes ((input_of v).next Forward o)) ≡ end
        by_order (inl less) rest =
            let high = at.room in
            let inside : o < length v.units = omega (arith, less, high) in
            let b : ℕ = get_or v.units o 0 in
            let here : slice_get v.units o ≡ Some b = slice_get-get_or v.units o 0 inside in
            let ((c, q), next) = some-next o b here in
            let other : holds stops b ≡ false = at.none o from less in
            let not_stop : holds stops c ≡ false = by_next false (ap (λ (t : Bool). only_if t (suc o)) (sym other) ∙ told o b can here) c q next in
            let (place, short) = (view_reads v all).places Forward o end (c, q) (byte_place v all are o can) (byte_place v all are end end-can) (omega (arith, less)) next in
            let (on, past) = (view_reads v all).on Forward o (c, q) can next in
            ap goes (tested false c q next not_stop) ∙ rest q on (omega (arith, from, past)) (omega (arith, short)) (omega (arith, room, past, less))
        by_order (inr full) rest =
            let same : o ≡ end = omega (arith, to, full) in by_end (cases_lt end (length v.units)) same
          where
            by_end : (end < length v.units) ⊎ (length v.units ≤ end) → o ≡ end → goes (passed passes ((input_of v).next Forward o)) ≡ end
            by_end (inl less) same =
                let inside : o < length v.units = omega (arith, less, same) in
                let b : ℕ = get_or v.units o 0 in
                let here : slice_get v.units o ≡ Some b = slice_get-get_or v.units o 0 inside in
                let ((c, q), next) = some-next o b here in
                let held : holds stops b ≡ true = ap (λ k. holds stops (slice_index v.units k)) same ∙ at.stop less in
                let stop : holds stops c ≡ true = by_next true (ap (λ (t : Bool). only_if t (suc o)) (sym held) ∙ told o b can here) c q next in
                ap goes (tested true c q next stop) ∙ same
            by_end (inr past) same =
                let none : slice_get v.units o ≡ None = slice_get_past v.units o (omega (arith, past, same)) in
                ap (λ x. goes (passed passes x)) (none-ahead v.kind v.table v.unicode v.units o none) ∙ same

-- what is shown as bytes are those of the text
pub bytes-shown : (v : View) (bytes : List ℕ) → in_bytes v.kind (Some v.units) ≡ Some bytes → (are_bytes v.kind ≡ true) × (bytes ≡ v.units)
bytes-shown v bytes e = by_bytes (are_bytes v.kind) refl
  where
    by_bytes : (b : Bool) → are_bytes v.kind ≡ b → (are_bytes v.kind ≡ true) × (bytes ≡ v.units)
    by_bytes true f =
        let some : Some v.units ≡ Some bytes = sym (ap (λ (b : Bool). if b then Some v.units else None) f) ∙ e in
        (f, sym (ap (λ (x : Option (List ℕ)). elim x [ None ↦ v.units | Some y ↦ y ]) some))
    by_bytes false f = let none : None ≡ Some bytes = sym (ap (λ (b : Bool). if b then Some v.units else None) f) ∙ e in absurd (grind arith)

-- where one of three bytes first stands from an offset on
module _ (stops : List ℕ) (three : length stops ≡ 3) (bytes : List ℕ) (o : ℕ) (room : o ≤ length bytes) where
  abbrev test : ℕ → Bool
  test = is_byte3 (slice_index stops 0) (slice_index stops 1) (slice_index stops 2)

  -- a byte from there on
  byte-behind : (k : ℕ) → o ≤ k → slice_index (drop o bytes) (k - o) ≡ slice_index bytes k
  byte-behind k low = let same : o + (k - o) ≡ k = omega (arith, low) in get_or-drop o bytes (k - o) 0 ∙ ap (slice_index bytes) same

  passed-by : (x : ℕ) → ¬ (test x ≡ true) → holds stops x ≡ false
  passed-by x other = by_test (test x) refl
    where
      by_test : (b : Bool) → test x ≡ b → holds stops x ≡ false
      by_test true e = absurd (other e)
      by_test false e = sym (three-held stops three x) ∙ e

  pub first-stop : (index : ℕ) → IsFirstByte test (drop o bytes) (Some index) → StopsAt stops bytes o (o + index)
  first-stop index found =
      let size = length-drop o bytes in
      let high = found.0.high in
      let inside : o + index < length bytes = omega (arith, size, high, room) in
      record {
        low = omega arith;
        room = omega (arith, inside);
        none = λ k from less. passed-by (slice_index bytes k) (λ is. found.0.before (k - o) (omega arith) (omega (arith, from, less)) (ap test (byte-behind k from) ∙ is));
        stop = λ less. let same : o + index - o ≡ index = omega arith in
            sym (three-held stops three (slice_index bytes (o + index))) ∙ ap test (sym (byte-behind (o + index) (omega arith))) ∙ ap (λ k. test (slice_index (drop o bytes) k)) same ∙ found.1;
      }

  pub no-stop : IsFirstByte test (drop o bytes) None → StopsAt stops bytes o (length bytes)
  no-stop none =
      let size = length-drop o bytes in
      record {
        low = room;
        room = omega arith;
        none = λ k from less. passed-by (slice_index bytes k) (λ is. none (k - o) (omega arith) (omega (arith, size, from, less)) (ap test (byte-behind k from) ∙ is));
        stop = λ less. absurd (omega (arith, less));
      }

-- so many intervals hold what each of them does
module _ (xs : List Interval) (d : ℕ) where
  pub one-alone : (x : Interval) (a : ℕ) → length xs ≡ 1 → x ≡ get_or xs 0 x → in_interval x d ≡ (a == d) → in_intervals (ends_of xs) d ≡ holds (a ∷ a ∷ a ∷ []) d
  one-alone x a size is f =
      held-from xs 0 x d (omega (arith, size)) is ∙ ap₂ ◌||◌ f (held-none xs 1 d (omega (arith, size))) ∙ by_test (a == d)
    where
      by_test : (p : Bool) → (p || false) ≡ (p || (p || (p || false)))
      by_test true = refl
      by_test false = refl

  pub two-alone : (x y : Interval) (a b : ℕ) → length xs ≡ 2 → x ≡ get_or xs 0 x → y ≡ get_or xs 1 y → in_interval x d ≡ (a == d) → in_interval y d ≡ (b == d)
      → in_intervals (ends_of xs) d ≡ holds (a ∷ b ∷ b ∷ []) d
  two-alone x y a b size is js f g =
      held-from xs 0 x d (omega (arith, size)) is ∙ ap₂ ◌||◌ f (held-from xs 1 y d (omega (arith, size)) js ∙ ap₂ ◌||◌ g (held-none xs 2 d (omega (arith, size)))) ∙ by_test (a == d) (b == d)
    where
      by_test : (p q : Bool) → (p || (q || false)) ≡ (p || (q || (q || false)))
      by_test true q = refl
      by_test false true = refl
      by_test false false = refl

  pub three-alone : (x y z : Interval) (a b c : ℕ) → length xs ≡ 3 → x ≡ get_or xs 0 x → y ≡ get_or xs 1 y → z ≡ get_or xs 2 z → in_interval x d ≡ (a == d) → in_interval y d ≡ (b == d)
      → in_interval z d ≡ (c == d) → in_intervals (ends_of xs) d ≡ holds (a ∷ b ∷ c ∷ []) d
  three-alone x y z a b c size is js ks f g h =
      held-from xs 0 x d (omega (arith, size)) is
      ∙ ap₂ ◌||◌ f (held-from xs 1 y d (omega (arith, size)) js ∙ ap₂ ◌||◌ g (held-from xs 2 z d (omega (arith, size)) ks ∙ ap₂ ◌||◌ h (held-none xs 3 d (omega (arith, size)))))

-- an inverted class matches what its intervals do not hold
pub inverted-has : (inverted : Bool) (xs ys : List Interval) (d : ℕ) (b : Bool) → inverted ≡ true → xs ≡ ys → in_intervals (ends_of xs) d ≡ b → bracket_has inverted (ends_of ys) d ≡ not b
inverted-has true xs ys d b is same e = ap (λ zs. not (in_intervals (ends_of zs) d)) (sym same) ∙ ap not e
inverted-has false xs ys d b is same e = absurd (cc is)
