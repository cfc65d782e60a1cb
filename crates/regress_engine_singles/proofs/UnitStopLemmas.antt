-- How far a class of all characters but a few of ASCII matches over units: up to the next of these.
use Rattle.std.specs.Prelude.{nat_le, ◌||◌, slice_get, slice_index, get_or, option_map, if◌then◌else◌}
use Rattle.std.proofs.Common.{◌≡◌, ◌⊎◌, inl, inr, ℕ, zero, suc, ◌-◌, ◌<◌, ◌≤◌, ◌&&◌, Bool, true, false, not, List, length, Option, Some, None, refl, sym, ap, ◌∙◌, arith, leb-false}
use Rattle.std.proofs.lemmas.Bool.{cases_lt}
use Rattle.std.proofs.lemmas.Bool.Decides.{nat_tests}
use Rattle.std.proofs.lemmas.Option.{slice_get_past, slice_get_within, slice_get-get_or, get_or_from_slice_get}
use Rattle.regress_meaning.specs.Meaning.{Forward, is_some_and}
use Rattle.regress_meaning.specs.Text.{holds}
use Rattle.regress_meaning.specs.Tokens.{is_high, is_low, joined}
use Rattle.regress_meaning.specs.Inputs.{pair_right}
use Rattle.regress_meaning.specs.Steps.{passed}
use Rattle.regress_meaning.specs.Table.{Table}
use Rattle.regress_engine_input.specs.Views.{View, Kind, utf8, ascii, utf16, ucs2, are_bytes, in_units, input_of, input_of_kind}
use Rattle.regress_engine_scanning.specs.Units.{IsNextUnit}
use Rattle.regress_engine_singles.specs.Passing.{scan_while, StopsAt}
use Rattle.regress_engine_singles.proofs.ByteLemmas.{unit-next, none-ahead}

-- what is shown as units are those of the text
pub units-shown : (v : View) (units : List ℕ) → in_units v.kind (Some v.units) ≡ Some units → (are_bytes v.kind ≡ false) × (units ≡ v.units)
units-shown v units e = by_bytes (are_bytes v.kind) refl
  where
    by_bytes : (b : Bool) → are_bytes v.kind ≡ b → (are_bytes v.kind ≡ false) × (units ≡ v.units)
    by_bytes true f = let none : None ≡ Some units = sym (ap (λ (b : Bool). if b then None else Some v.units) f) ∙ e in absurd (grind arith)
    by_bytes false f =
        let some : Some v.units ≡ Some units = sym (ap (λ (b : Bool). if b then None else Some v.units) f) ∙ e in
        (f, sym (ap (λ (x : Option (List ℕ)). elim x [ None ↦ v.units | Some y ↦ y ]) some))

-- A unit is a character alone, or the first half of one beyond ASCII, whose second half is no unit of ASCII.
abbrev pub IsRead : List ℕ → Option (ℕ × ℕ) → (o u : ℕ) → Type 0
IsRead units next o u = (next ≡ Some (u, suc o))
    ⊎ ((w c : ℕ) × (slice_get units (suc o) ≡ Some w) × (0x80 ≤ w) × (0x80 ≤ c) × (next ≡ Some (c, suc (suc o))))

pub unit-read : (kind : Kind) (table : Table) (unicode : Bool) (units : List ℕ) → are_bytes kind ≡ false → (o u : ℕ) → slice_get units o ≡ Some u
    → IsRead units ((input_of_kind kind table unicode units).next Forward o) o u
unit-read utf8 table unicode units are o u here = absurd (cc are)
unit-read ascii table unicode units are o u here = absurd (cc are)
unit-read ucs2 table unicode units are o u here = inl (ap (option_map (λ c. (c, suc o))) here)
unit-read utf16 table unicode units are o u here = by_next (slice_get units (suc o)) refl
  where
    next : (y : Option ℕ) → slice_get units (suc o) ≡ y
        → option_map (λ w. pair_right o w (slice_get units (suc o))) (slice_get units o) ≡ Some (pair_right o u y)
    next y e = ap (option_map (λ w. pair_right o w (slice_get units (suc o)))) here ∙ ap (λ z. Some (pair_right o u z)) e

    by_next : (y : Option ℕ) → slice_get units (suc o) ≡ y → IsRead units (option_map (λ w. pair_right o w (slice_get units (suc o))) (slice_get units o)) o u
    by_next None e = inl (next None e)
    by_next (Some w) e = by_pair (is_high u && is_low w) refl
      where
        is : (t : Bool) → (is_high u && is_low w) ≡ t → pair_right o u (Some w) ≡ (if t then (joined u w, suc (suc o)) else (u, suc o))
        is t f = ap (λ (b : Bool). if b then (joined u w, suc (suc o)) else (u, suc o)) f

        by_pair : (t : Bool) → (is_high u && is_low w) ≡ t → IsRead units (option_map (λ x. pair_right o x (slice_get units (suc o))) (slice_get units o)) o u
        by_pair true f = inr (w, joined u w, e, grind (arith, nat_tests), grind (arith, nat_tests), next (Some w) e ∙ ap Some (is true f))
        by_pair false f = inl (next (Some w) e ∙ ap Some (is false f))

module _ (v : View) (are : are_bytes v.kind ≡ false) (stops : List ℕ) (low : (c : ℕ) → 0x80 ≤ c → holds stops c ≡ false)
    (passes : ℕ → Bool) (others : (c : ℕ) → passes c ≡ not (holds stops c)) (start end : ℕ) (at : StopsAt stops v.units start end) where
  -- the class goes as far as the next stop
  pub far-among : (n o : ℕ) → start ≤ o → o ≤ end → end - o ≤ n → scan_while (input_of v) passes Forward n o ≡ end
  unfolding scan_while
  far-among zero o from to room = omega (arith, to, room)
  far-among (suc n) o from to room = by_order (cases_lt o end) (far-among n)
    where
      goes : Option ℕ → ℕ
      goes x = elim x [ None ↦ o | Some q ↦ scan_while (input_of v) passes Forward n q ]

      tested : (h : Bool) (c q : ℕ) → (input_of v).next Forward o ≡ Some (c, q) → holds stops c ≡ h → passed passes ((input_of v).next Forward o) ≡ (if not h then Some q else None)
      tested h c q next held = ap (passed passes) next ∙ ap (λ (t : Bool). if t then Some q else None) (others c ∙ ap not held)

      by_order : (o < end) ⊎ (end ≤ o) → ((p : ℕ) → start ≤ p → p ≤ end → end - p ≤ n → scan_while (input_of v) passes Forward n p ≡ end)
          → goes (passed passes ((input_of v).next Forward o)) ≡ end
      by_order (inl less) rest = by_read (unit-read v.kind v.table v.unicode v.units are o u here)
        where
          u : ℕ
          u = get_or v.units o 0

          here : slice_get v.units o ≡ Some u
          here = let high = at.room in slice_get-get_or v.units o 0 (omega (arith, less, high))

          -- a pair ends before the stop, since its second half is none
          fits : (w : ℕ) → slice_get v.units (suc o) ≡ Some w → 0x80 ≤ w → suc (suc o) ≤ end
          fits w second high = by_end (cases_lt (suc o) end)
            where
              by_end : (suc o < end) ⊎ (end ≤ suc o) → suc (suc o) ≤ end
              by_end (inl more) = omega (arith, more)
              by_end (inr last) =
                  let same : end ≡ suc o = omega (arith, last, less) in
                  let inside = slice_get_within v.units (suc o) w second in
                  let value : slice_index v.units end ≡ w = ap (slice_index v.units) same ∙ get_or_from_slice_get v.units (suc o) w 0 second in
                  let stop = at.stop (omega (arith, same, inside)) in
                  let never : true ≡ false = sym stop ∙ ap (holds stops) value ∙ low w high in absurd (cc never)

          by_read : IsRead v.units ((input_of v).next Forward o) o u → goes (passed passes ((input_of v).next Forward o)) ≡ end
          by_read (inl next) =
              ap goes (tested false u (suc o) next (at.none o from less)) ∙ rest (suc o) (omega (arith, from)) (omega (arith, less)) (omega (arith, room, less))
          by_read (inr (w, c, second, high, far, next)) =
              let room_for = fits w second high in
              ap goes (tested false c (suc (suc o)) next (low c far)) ∙ rest (suc (suc o)) (omega (arith, from)) room_for (omega (arith, room, less))
      by_order (inr full) rest = by_end (cases_lt end (length v.units))
        where
          same : o ≡ end
          same = omega (arith, to, full)

          by_end : (end < length v.units) ⊎ (length v.units ≤ end) → goes (passed passes ((input_of v).next Forward o)) ≡ end
          by_end (inl less) =
              let u : ℕ = get_or v.units o 0 in
              let here : slice_get v.units o ≡ Some u = slice_get-get_or v.units o 0 (omega (arith, less, same)) in
              let held : holds stops u ≡ true = ap (λ k. holds stops (slice_index v.units k)) same ∙ at.stop less in
              let small : u < 0x80 = elim (cases_lt u 0x80) [ inl few ↦ few | inr many ↦ absurd (cc (sym held ∙ low u many)) ] in
              ap goes (tested true u (suc o) (unit-next v.kind v.table v.unicode v.units u o small here) held) ∙ same
          by_end (inr past) =
              let none : slice_get v.units o ≡ None = slice_get_past v.units o (omega (arith, past, same)) in
              ap (λ x. goes (passed passes x)) (none-ahead v.kind v.table v.unicode v.units o none) ∙ same

-- ---- the next stop

unpassed : (test : ℕ → Bool) (units : List ℕ) (k : ℕ) → k < length units → ¬ (is_some_and (slice_get units k) test ≡ true) → test (slice_index units k) ≡ false
unpassed test units k inside other = by_test (test (slice_index units k)) refl
  where
    by_test : (t : Bool) → test (slice_index units k) ≡ t → t ≡ false
    by_test false e = refl
    by_test true e = absurd (other (ap (λ o. is_some_and o test) (slice_get-get_or units k 0 inside) ∙ e))

neither : (a b : Bool) → (a || b) ≡ false → (a ≡ false) × (b ≡ false)
neither false b e = (refl, e)
neither true b e = absurd (cc)

-- what is none of three bytes, nor beyond ASCII
pub ascii-others : (stops units : List ℕ) (o to : ℕ) → to ≤ length units → ((k : ℕ) → o ≤ k → k < to → ¬ (is_some_and (slice_get units k) (λ u. holds stops u || nat_le 0x80 u) ≡ true))
    → (k : ℕ) → o ≤ k → k < to → (slice_index units k < 0x80) × (holds stops (slice_index units k) ≡ false)
ascii-others stops units o to room none k from less =
    let (other, low) = neither (holds stops (slice_index units k)) (nat_le 0x80 (slice_index units k))
    (unpassed (λ u. holds stops u || nat_le 0x80 u) units k (omega (arith, less, room)) (none k from less)) in
    (leb-false 0x80 (slice_index units k) low, other)

pub stop-found : (stops units : List ℕ) (o k : ℕ) → k < length units → IsNextUnit (holds stops) units o (Some k) → StopsAt stops units o k
stop-found stops units o k inside found = record {
  low = found.0;
  room = omega (arith, inside);
  none = λ j from less. unpassed (holds stops) units j (omega (arith, less, inside)) (found.2 j from less);
  stop = λ within. ap (λ x. is_some_and x (holds stops)) (sym (slice_get-get_or units k 0 inside)) ∙ found.1;
}

pub stop-none : (stops units : List ℕ) (o : ℕ) → o ≤ length units → IsNextUnit (holds stops) units o None → StopsAt stops units o (length units)
stop-none stops units o room none = record {
  low = room;
  room = omega arith;
  none = λ j from less. unpassed (holds stops) units j less (none j from);
  stop = λ within. absurd (omega (arith, within));
}
