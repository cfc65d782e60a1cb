-- What holds of all that inputs show, by their kinds.
use Rattle.std.specs.Prelude.{slice_get}
use Rattle.std.proofs.Common.{◌≡◌, ◌⊎◌, inl, inr, ℕ, zero, suc, ◌-◌, ◌<◌, ◌≤◌, Bool, true, false, ◌&&◌, List, length, Option, Some, None, if◌then◌else◌, option_map, refl, sym, ap, ap₂, ◌∙◌, subst, arith}
use Rattle.std.proofs.lemmas.Bool.{cases_lt}
use Rattle.std.proofs.lemmas.Option.{slice_get_within}
use Rattle.regress_meaning.specs.Meaning.{Direction, Forward, Backward}
use Rattle.regress_meaning.specs.Offsets.{Reading, offset}
use Rattle.regress_meaning.specs.Table.{Table}
use Rattle.regress_meaning.specs.Steps.{repeated}
use Rattle.regress_meaning.specs.Tokens.{is_high, is_low}
use Rattle.regress_meaning.specs.Inputs.{Input, Tells, point_told, utf16_next, pair_right, pair_left, unit_before}
use Rattle.regress_front_bytes.proofs.TextLemmas.{offset-le, place_of_boundary}
use Rattle.regress_engine_input.specs.Views.{View, Kind, utf8, ascii, utf16, ucs2, AreOfKind, IsReadable, CanRead, input_of, input_of_kind, reading_of, units_repeated}
use Rattle.regress_engine_input.proofs.KindLemmas.{tells, readable, repeats, part_points}
use Rattle.regress_engine_input.proofs.UnitTexts.{single_offset}
use Rattle.regress_engine_matchers.specs.References.{IsPlace, units_left, all_alike, in_turn, part_repeated}
use Rattle.regress_engine_matchers.proofs.MatcherLemmas.{Reads, repeated-points}

-- ---- from place to place

-- a place one step from another, in a direction
abbrev IsNext : Direction → ℕ → ℕ → Type 0
IsNext Forward p q = q ≡ suc p
IsNext Backward p q = p ≡ suc q

module _ (reading : Reading) (input : Input) (told : Tells reading input) where
  abbrev size : ℕ
  size = length reading.points

  -- a read at a place ends at the next one
  next_place : (dir : Direction) (p : ℕ) (x : ℕ × ℕ) → p ≤ size → input.next dir (offset reading p) ≡ Some x → (q : ℕ) × (q ≤ size) × (offset reading q ≡ x.1) × IsNext dir p q
  next_place Forward p x room e = by_point (slice_get reading.points p) refl (sym (told.next Forward p room) ∙ e)
    where
      by_point : (o : Option ℕ) → slice_get reading.points p ≡ o → option_map (point_told reading) (option_map (λ c. (c, suc p)) (slice_get reading.points p)) ≡ Some x
          → (q : ℕ) × (q ≤ size) × (offset reading q ≡ x.1) × (q ≡ suc p)
      by_point None g h = let none = ap (λ o. option_map (point_told reading) (option_map (λ (c : ℕ). (c, suc p)) o)) g in absurd (cc (none, h))
      by_point (Some c) g h =
          let some : Some (c, offset reading (suc p)) ≡ Some x = sym (ap (λ o. option_map (point_told reading) (option_map (λ (c : ℕ). (c, suc p)) o)) g) ∙ h in
          let there : (ℕ × ℕ) = (c, offset reading (suc p)) in
          let same : there ≡ x = cc in
          (suc p, slice_get_within reading.points p c g, ap (λ (z : ℕ × ℕ). z.1) same, refl)
  next_place Backward zero x room e = absurd (cc (told.next Backward 0 room, e))
  next_place Backward (suc p) x room e = by_point (slice_get reading.points p) refl (sym (told.next Backward (suc p) room) ∙ e)
    where
      by_point : (o : Option ℕ) → slice_get reading.points p ≡ o → option_map (point_told reading) (option_map (λ c. (c, p)) (slice_get reading.points p)) ≡ Some x
          → (q : ℕ) × (q ≤ size) × (offset reading q ≡ x.1) × (suc p ≡ suc q)
      by_point None g h = let none = ap (λ o. option_map (point_told reading) (option_map (λ (c : ℕ). (c, p)) o)) g in absurd (cc (none, h))
      by_point (Some c) g h =
          let some : Some (c, offset reading p) ≡ Some x = sym (ap (λ o. option_map (point_told reading) (option_map (λ (c : ℕ). (c, p)) o)) g) ∙ h in
          let there : (ℕ × ℕ) = (c, offset reading p) in
          let same : there ≡ x = cc in
          (p, omega arith, ap (λ (z : ℕ × ℕ). z.1) same, refl)

  -- places are ordered as their offsets are
  before : (p q : ℕ) → p ≤ size → offset reading p < offset reading q → p < q
  before p q room less = by_order (cases_lt p q)
    where
      by_order : (p < q) ⊎ (q ≤ p) → p < q
      by_order (inl l) = l
      by_order (inr m) = let h = offset-le reading q p m in absurd (omega arith)

  -- it goes on
  next_on : (dir : Direction) (p q : ℕ) → p ≤ size → q ≤ size → IsNext dir p q → 0 < units_left dir (offset reading p) (offset reading q)
  next_on Forward p q low high e = let h = told.rise p q (omega arith) high in omega arith
  next_on Backward p q low high e = let h = told.rise q p (omega arith) low in omega arith

  -- and not past a place that lies further on
  next_short : (dir : Direction) (p q to : ℕ) → p ≤ size → to ≤ size → IsNext dir p q → 0 < units_left dir (offset reading p) (offset reading to)
      → units_left dir (offset reading to) (offset reading q) ≡ 0
  next_short Forward p q to low high e left =
      let less = before p to low (omega arith) in let h = offset-le reading q to (omega arith) in omega arith
  next_short Backward p q to low high e left =
      let less = before to p high (omega arith) in let h = offset-le reading to q (omega arith) in omega arith

-- ---- by the kinds

-- over UTF-16 a read stays in the text and goes on, at each offset
utf16_on : (units : List ℕ) (dir : Direction) (o : ℕ) (x : ℕ × ℕ) → o ≤ length units → utf16_next units dir o ≡ Some x → (x.1 ≤ length units) × (0 < units_left dir o x.1)
utf16_on units Forward o x room e = by_unit (slice_get units o) refl e
  where
    ends : (y : ℕ × ℕ) → Some y ≡ Some x → y.1 ≡ x.1
    ends y h = let same : y ≡ x = cc in ap (λ (z : ℕ × ℕ). z.1) same

    by_pair : (b : Bool) (u v c : ℕ) → suc o < length units → Some (if b then (c, suc (suc o)) else (u, suc o)) ≡ Some x → (x.1 ≤ length units) × (0 < x.1 - o)
    by_pair true u v c inside h = let g = ends (c, suc (suc o)) h in (omega arith, omega arith)
    by_pair false u v c inside h = let g = ends (u, suc o) h in (omega arith, omega arith)

    by_next : (m : Option ℕ) (u : ℕ) → slice_get units (suc o) ≡ m → o < length units → Some (pair_right o u m) ≡ Some x → (x.1 ≤ length units) × (0 < x.1 - o)
    by_next None u g inside h = let i = ends (u, suc o) h in (omega arith, omega arith)
    by_next (Some v) u g inside h = by_pair (is_high u && is_low v) u v _ (slice_get_within units (suc o) v g) h

    by_unit : (m : Option ℕ) → slice_get units o ≡ m → option_map (λ u. pair_right o u (slice_get units (suc o))) (slice_get units o) ≡ Some x → (x.1 ≤ length units) × (0 < x.1 - o)
    by_unit None g h = let none = ap (option_map (λ u. pair_right o u (slice_get units (suc o)))) g in absurd (cc (none, h))
    by_unit (Some u) g h =
        by_next (slice_get units (suc o)) u refl (slice_get_within units o u g) (sym (ap (option_map (λ u. pair_right o u (slice_get units (suc o)))) g) ∙ h)
utf16_on units Backward zero x room e = absurd (cc e)
utf16_on units Backward (suc o) x room e = by_unit (slice_get units o) refl e
  where
    ends : (y : ℕ × ℕ) → Some y ≡ Some x → y.1 ≡ x.1
    ends y h = let same : y ≡ x = cc in ap (λ (z : ℕ × ℕ). z.1) same

    by_pair : (b : Bool) (v c : ℕ) → Some (if b then (c, o - 1) else (v, o)) ≡ Some x → (x.1 ≤ length units) × (0 < suc o - x.1)
    by_pair true v c h = let g = ends (c, o - 1) h in (omega arith, omega arith)
    by_pair false v c h = let g = ends (v, o) h in (omega arith, omega arith)

    by_before : (m : Option ℕ) (v : ℕ) → Some (pair_left o v m) ≡ Some x → (x.1 ≤ length units) × (0 < suc o - x.1)
    by_before None v h = let i = ends (v, o) h in (omega arith, omega arith)
    by_before (Some u) v h = by_pair (is_high u && is_low v) v _ h

    by_unit : (m : Option ℕ) → slice_get units o ≡ m → option_map (λ v. pair_left o v (unit_before units o)) (slice_get units o) ≡ Some x → (x.1 ≤ length units) × (0 < suc o - x.1)
    by_unit None g h = let none = ap (option_map (λ v. pair_left o v (unit_before units o))) g in absurd (cc (none, h))
    by_unit (Some v) g h = by_before (unit_before units o) v (sym (ap (option_map (λ v. pair_left o v (unit_before units o))) g) ∙ h)

-- where one may read lies in the text
inside : (kind : Kind) (units : List ℕ) (o : ℕ) → IsReadable kind units o → o ≤ length units
inside utf8 units o h = h.0
inside ascii units o h = h
inside utf16 units o h = h
inside ucs2 units o h = h

module _ (v : View) (all : AreOfKind v.kind v.units) where
  told_view : Tells (reading_of v) (input_of v)
  told_view = tells v.kind v.table v.unicode v.units all

  from_place : (dir : Direction) (o : ℕ) (x : ℕ × ℕ) → IsPlace v o → (input_of v).next dir o ≡ Some x → CanRead v x.1 × (0 < units_left dir o x.1)
  from_place dir o x (p, room, here) e =
      let q = next_place (reading_of v) (input_of v) told_view dir p x room (ap ((input_of v).next dir) here ∙ e) in
      let can = readable v.kind v.table v.unicode v.units all q.0 q.1 in
      let on = next_on (reading_of v) (input_of v) told_view dir p q.0 room q.1 q.3 in
      (subst (λ (n : ℕ). CanRead v n) q.2 can, subst (λ (n : ℕ). 0 < n) (ap₂ (units_left dir) here q.2) on)

  between_places : (dir : Direction) (a to : ℕ) (x : ℕ × ℕ) → IsPlace v a → IsPlace v to → 0 < units_left dir a to → (input_of v).next dir a ≡ Some x
      → IsPlace v x.1 × (units_left dir to x.1 ≡ 0)
  between_places dir a to x (p, room, here) (r, last, there) left e =
      let q = next_place (reading_of v) (input_of v) told_view dir p x room (ap ((input_of v).next dir) here ∙ e) in
      let short = next_short (reading_of v) (input_of v) told_view dir p q.0 r room last q.3 (rw (here, there) left) in
      ((q.0, q.1, q.2), rw (← q.2, ← there) short)

-- where one may read, a read stays where one may, and goes on
on : (kind : Kind) (table : Table) (unicode : Bool) (units : List ℕ) → AreOfKind kind units → (dir : Direction) (o : ℕ) (x : ℕ × ℕ) → IsReadable kind units o
    → (input_of_kind kind table unicode units).next dir o ≡ Some x → IsReadable kind units x.1 × (0 < units_left dir o x.1)
on utf8 table unicode units all dir o x can e =
    from_place (record { kind = utf8; units = units; table = table; unicode = unicode }) all dir o x (place_of_boundary units all o can) e
on ascii table unicode units all dir o x can e =
    from_place (record { kind = ascii; units = units; table = table; unicode = unicode }) all dir o x (o, can, single_offset units o can) e
on utf16 table unicode units all dir o x can e = utf16_on units dir o x can e
on ucs2 table unicode units all dir o x can e =
    from_place (record { kind = ucs2; units = units; table = table; unicode = unicode }) all dir o x (o, can, single_offset units o can) e

pub view_reads : (v : View) → AreOfKind v.kind v.units → Reads v
view_reads v all = record { inside = λ o h. inside v.kind v.units o h; on = λ dir o x can e. on v.kind v.table v.unicode v.units all dir o x can e; places = between_places v all }

-- ---- references between places

-- two places are ordered as their offsets are
ordered : (v : View) → AreOfKind v.kind v.units → (p q : ℕ) → offset (reading_of v) p ≤ offset (reading_of v) q → p ≤ length (reading_of v).points → p ≤ q
ordered v all p q order low = by_order (cases_lt q p)
  where
    by_order : (q < p) ⊎ (p ≤ q) → p ≤ q
    by_order (inl less) = let h = (told_view v all).rise q p less low in absurd (omega (arith, h, order))
    by_order (inr m) = m

-- one goes by its units
pub view_repeats : (v : View) → AreOfKind v.kind v.units → (dir : Direction) (a b o : ℕ) → a ≤ b → IsPlace v a → IsPlace v b → IsPlace v o
    → units_repeated v dir a b o ≡ repeated (input_of v) dir false (Some (a, b)) o
view_repeats v all dir a b o order (p, low, here) (q, high, there) (r, room, place) =
    let law = repeats v.kind v.table v.unicode v.units all dir p q r (ordered v all p q (rw (here, there) order) low) high room in
    rw (here, there, place) at (sym law)

-- and where case is ignored by the code points of its part
pub view_part_repeats : (v : View) → AreOfKind v.kind v.units → (dir : Direction) (a b o : ℕ) → a ≤ b → IsPlace v a → IsPlace v b
    → part_repeated v dir a b o ≡ repeated (input_of v) dir true (Some (a, b)) o
view_part_repeats v all dir a b o order (p, low, here) (q, high, there) =
    let inside : p ≤ q = ordered v all p q (rw (here, there) order) low in
    let law : part_repeated v dir (offset (reading_of v) p) (offset (reading_of v) q) o ≡ repeated (input_of v) dir true (Some (offset (reading_of v) p, offset (reading_of v) q)) o =
    ap (λ cs. all_alike (input_of v) dir (in_turn dir cs) o) (part_points v.kind v.units all p q inside high)
    ∙ sym (repeated-points (input_of v) (reading_of v) (told_view v all) p q inside high dir o) in
    rw (here, there) at law
