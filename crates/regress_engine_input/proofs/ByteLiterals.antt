-- Bytes of whole characters stand beside the offset of a place just where the characters stand beside the place.
use Rattle.std.specs.Prelude.{nat_le, slice_range}
use Rattle.std.proofs.Common.{◌≡◌, ℕ, zero, suc, ◌+◌, ◌-◌, ◌≤◌, Bool, true, false, ◌&&◌, List, [], ◌∷◌, ◌++◌, append_assoc, length, take, drop, min, option_map, chars, refl, sym, ap, ap₂, ◌∙◌, subst, arith, length-append, length-take, length-drop}
use Rattle.std.proofs.lemmas.Bool.{and_parts}
use Rattle.std.specs.Str.{IsUtf8, IsAscii}
use Rattle.std.proofs.Math.Utf8.{encode, encodes, scalar, scalars}
use Rattle.std.proofs.Math.Seq.{take-append_seam, take-add}
use Rattle.std.proofs.lemmas.List.{take-append-drop}
use Rattle.std.proofs.lemmas.Str.{encodes-append, encodes-chars, encodes_same, cons_from_encodes, IsUtf8-take, IsCharBoundary-at_seam, chars-IsAscii, encodes-IsAscii, scalars-chars, IsAscii-take, IsAscii-drop}
use Rattle.regress_meaning.specs.Table.{Table}
use Rattle.regress_meaning.specs.Text.{same_text}
use Rattle.regress_meaning.specs.Meaning.{Direction, Forward, Backward, beside}
use Rattle.regress_meaning.specs.Offsets.{Reading, offset, of_utf8, of_ascii}
use Rattle.regress_front_nodes.specs.WellFormed.{AreCharacters}
use Rattle.regress_meaning.specs.Steps.{literal}
use Rattle.regress_engine_input.proofs.Tests.{le-true}
use Rattle.regress_front_nodes.specs.ByteInputs.{TellsBytes, placed}
use Rattle.regress_meaning.specs.Inputs.{Input, context_of, utf8_input, ascii_input}
use Rattle.regress_engine_input.proofs.Standing.{stands_right, stands_left, right-split, split-right, left-split, split-left, placed-if, same_place}
use Rattle.regress_engine_input.proofs.Utf8Parts.{cut, bytes-before, bytes-behind, offset-is}
use Rattle.regress_engine_input.proofs.UnitTexts.{single_offset}

-- where words stand beside a place in two ways of telling the text, and the places agree
pub record SameBeside (reading : Reading) (units bs cs : List ℕ) (p : ℕ) : Type 0 where
  pub right : (ys : List ℕ) → drop (offset reading p) units ≡ bs ++ ys → (es : List ℕ) × (drop p reading.points ≡ cs ++ es)
  pub right_back : (es : List ℕ) → drop p reading.points ≡ cs ++ es → ((ys : List ℕ) × (drop (offset reading p) units ≡ bs ++ ys)) × (offset reading p + length bs ≡ offset reading (p + length cs))
  pub left : (xs : List ℕ) → take (offset reading p) units ≡ xs ++ bs → (es : List ℕ) × (take p reading.points ≡ es ++ cs)
  pub left_back : (es : List ℕ) → take p reading.points ≡ es ++ cs → ((xs : List ℕ) × (take (offset reading p) units ≡ xs ++ bs)) × (offset reading p - length bs ≡ offset reading (p - length cs))

module _ (input : Input) (reading : Reading) (bs cs : List ℕ) (p : ℕ) (room : p ≤ length reading.points) (inside : offset reading p ≤ length input.units) (same : SameBeside reading input.units bs cs p) where
  pub told-right : literal input Forward bs (offset reading p) ≡ option_map (offset reading) (placed cs (beside (context_of reading input) Forward (length cs) p))
  unfolding beside
  told-right =
      let o : ℕ = offset reading p in
      let k : ℕ = length cs in
      let n : ℕ = length reading.points in
      let b : Bool = nat_le (p + k) n && same_text cs (slice_range reading.points p (p + k)) in
      same_place (offset reading) (stands_right input.units o bs) b (o + length bs) (p + k)
      (λ h. let ys = right-split input.units o bs h in let es = same.right ys.0 ys.1 in both es.0 es.1)
      (λ h. let es = right-split reading.points p cs (and_parts (nat_le (p + k) n) (same_text cs (slice_range reading.points p (p + k))) h).1 in
      let ys = (same.right_back es.0 es.1).0 in split-right input.units o bs ys.0 ys.1)
      (λ h. let es = right-split reading.points p cs (and_parts (nat_le (p + k) n) (same_text cs (slice_range reading.points p (p + k))) h).1 in (same.right_back es.0 es.1).1)
      ∙ ap (option_map (offset reading)) (sym (placed-if cs (slice_range reading.points p (p + k)) (nat_le (p + k) n) (p + k)))
    where
      both : (es : List ℕ) → drop p reading.points ≡ cs ++ es → (nat_le (p + length cs) (length reading.points) && same_text cs (slice_range reading.points p (p + length cs))) ≡ true
      both es e =
          let a = ap length e in let b = length-append cs es in let c = length-drop p reading.points in
          ap₂ (λ x y. x && y) (le-true (p + length cs) (length reading.points) (omega (arith, a, b, c))) (split-right reading.points p cs es e)

  pub told-left : literal input Backward bs (offset reading p) ≡ option_map (offset reading) (placed cs (beside (context_of reading input) Backward (length cs) p))
  unfolding beside
  told-left =
      let o : ℕ = offset reading p in
      let k : ℕ = length cs in
      same_place (offset reading) (stands_left input.units o bs) (stands_left reading.points p cs) (o - length bs) (p - k)
      (λ h. let xs = left-split input.units o bs h in let es = same.left xs.0 xs.1 in split-left reading.points p cs room es.0 es.1)
      (λ h. let es = left-split reading.points p cs h in let xs = (same.left_back es.0 es.1).0 in split-left input.units o bs inside xs.0 xs.1)
      (λ h. let es = left-split reading.points p cs h in (same.left_back es.0 es.1).1)
      ∙ ap (option_map (offset reading)) (sym (placed-if cs (slice_range reading.points (p - k) p) (nat_le k p) (p - k)))

-- ---- bytes of UTF-8

-- characters whose bytes come first come first
front-points : (ds cs ys : List ℕ) → encodes cs ≡ encodes ds ++ ys → (es : List ℕ) × (cs ≡ ds ++ es)
front-points [] cs ys e = (cs, refl)
front-points (d ∷ ds) cs ys e =
    let x = cons_from_encodes cs (encodes ds ++ ys) d (e ∙ append_assoc (encode d) (encodes ds) ys) in
    let y = front-points ds x.0 ys x.2 in
    (y.0, x.1 ∙ ap (λ (zs : List ℕ). d ∷ zs) y.1)

-- and those whose bytes come last, last
end-points : (ds cs xs : List ℕ) → IsUtf8 (encodes cs) → IsUtf8 (encodes ds) → encodes cs ≡ xs ++ encodes ds → (es : List ℕ) × (cs ≡ es ++ ds)
end-points ds cs xs utf8 utf8' e =
    let front : take (length xs) (encodes cs) ≡ xs = ap (take (length xs)) e ∙ take-append_seam xs (encodes ds) in
    let u : IsUtf8 (take (length xs) (encodes cs)) = IsUtf8-take (encodes cs) (length xs) utf8 (IsCharBoundary-at_seam (encodes cs) xs (encodes ds) e utf8') in
    let es : List ℕ = chars (take (length xs) (encodes cs)) in
    let f : encodes es ≡ xs = encodes-chars (take (length xs) (encodes cs)) u ∙ front in
    (es, encodes_same cs (es ++ ds) (e ∙ ap (λ ys. ys ++ encodes ds) (sym f) ∙ sym (encodes-append es ds)))

-- so many first scalar values are scalar values
pub scalars-take : (cs : List ℕ) (p : ℕ) → scalars cs ≡ true → scalars (take p cs) ≡ true
scalars-take cs zero h = refl
scalars-take [] (suc p) h = refl
scalars-take (c ∷ cs) (suc p) h = by_first (scalar c) h (λ g. scalars-take cs p g)
  where
    by_first : (b : Bool) → (b && scalars cs) ≡ true → (scalars cs ≡ true → scalars (take p cs) ≡ true) → (b && scalars (take p cs)) ≡ true
    by_first true h rest = rest h
    by_first false h rest = absurd (cc)

module _ (bytes : List ℕ) (utf8 : IsUtf8 bytes) (bs : List ℕ) (utf8' : IsUtf8 bs) (p : ℕ) (room : p ≤ length (chars bytes)) where
  abbrev reading : Reading
  reading = of_utf8 bytes

  abbrev points : List ℕ
  points = chars bytes

  abbrev word : List ℕ
  word = chars bs

  own : encodes word ≡ bs
  own = encodes-chars bs utf8'

  pub utf8_beside : SameBeside reading bytes bs word p
  utf8_beside = record {
    right = λ ys e. front-points word (drop p points) ys (sym (bytes-behind bytes utf8 p) ∙ e ∙ ap (λ w. w ++ ys) (sym own));
    right_back = λ es e. (
      (encodes es, bytes-behind bytes utf8 p ∙ ap encodes e ∙ encodes-append word es ∙ ap (λ w. w ++ encodes es) own),
      right_end es e,
    );
    left = λ xs e. end-points word (take p points) xs (subst IsUtf8 (bytes-before bytes utf8 p) front_utf8) (subst IsUtf8 (sym own) utf8') (sym (bytes-before bytes utf8 p) ∙ e ∙ ap (λ w. xs ++ w) (sym own));
    left_back = λ es e. (
      (encodes es, bytes-before bytes utf8 p ∙ ap encodes e ∙ encodes-append es word ∙ ap (λ w. encodes es ++ w) own),
      left_end es e,
    );
  }
    where
      front_utf8 : IsUtf8 (take (offset reading p) bytes)
      front_utf8 = (take p points, (scalars-take points p (scalars-chars bytes utf8), sym (bytes-before bytes utf8 p)))

      right_end : (es : List ℕ) → drop p points ≡ word ++ es → offset reading p + length bs ≡ offset reading (p + length word)
      right_end es e =
          let a = offset-is bytes utf8 p in
          let b = offset-is bytes utf8 (p + length word) in
          let both : take (p + length word) points ≡ take p points ++ word =
          take-add p (length word) points ∙ ap (λ w. take p points ++ w) (ap (take (length word)) e ∙ take-append_seam word es) in
          let c : length (encodes (take (p + length word) points)) ≡ length (encodes (take p points)) + length bs =
          ap (λ w. length (encodes w)) both ∙ ap length (encodes-append (take p points) word) ∙ length-append (encodes (take p points)) (encodes word)
          ∙ ap (λ w. length (encodes (take p points)) + length w) own in
          omega (arith, a, b, c)

      left_end : (es : List ℕ) → take p points ≡ es ++ word → offset reading p - length bs ≡ offset reading (p - length word)
      left_end es e =
          let sizes = length-append es word in
          let f = ap length e in
          let g = length-take p points in
          let h : min p (length points) ≡ p = omega (arith, room) in
          let before : p - length word ≡ length es = omega (arith, sizes, f, g, h) in
          let whole : points ≡ es ++ (word ++ drop p points) = sym (take-append-drop p points) ∙ ap (λ w. w ++ drop p points) e ∙ append_assoc es word (drop p points) in
          let front : take (p - length word) points ≡ es = ap₂ take before whole ∙ take-append_seam es (word ++ drop p points) in
          let a = offset-is bytes utf8 p in
          let b : offset reading (p - length word) ≡ length (encodes es) = offset-is bytes utf8 (p - length word) ∙ ap (λ w. length (encodes w)) front in
          let c : length (encodes (take p points)) ≡ length (encodes es) + length bs =
          ap (λ w. length (encodes w)) e ∙ ap length (encodes-append es word) ∙ length-append (encodes es) (encodes word) ∙ ap (λ w. length (encodes es) + length w) own in
          omega (arith, a, b, c)

  pub utf8_inside : offset reading p ≤ length bytes
  utf8_inside =
      let a = offset-is bytes utf8 p in
      let b = ap length (cut bytes utf8 p) in
      let c = length-append (encodes (take p points)) (encodes (drop p points)) in
      omega (arith, a, b, c)

pub utf8_tells_bytes : (table : Table) (unicode : Bool) (bytes : List ℕ) → IsUtf8 bytes → TellsBytes (of_utf8 bytes) (utf8_input table unicode bytes)
utf8_tells_bytes table unicode bytes utf8 = record { literal = told }
  where
    told : (dir : Direction) (bs : List ℕ) → AreCharacters bs → (p : ℕ) → p ≤ length (chars bytes)
        → literal (utf8_input table unicode bytes) dir bs (offset (of_utf8 bytes) p)
        ≡ option_map (offset (of_utf8 bytes)) (placed (chars bs) (beside (context_of (of_utf8 bytes) (utf8_input table unicode bytes)) dir (length (chars bs)) p))
    told Forward bs are p room =
        told-right (utf8_input table unicode bytes) (of_utf8 bytes) bs (chars bs) p room (utf8_inside bytes utf8 bs are.1 p room) (utf8_beside bytes utf8 bs are.1 p room)
    told Backward bs are p room =
        told-left (utf8_input table unicode bytes) (of_utf8 bytes) bs (chars bs) p room (utf8_inside bytes utf8 bs are.1 p room) (utf8_beside bytes utf8 bs are.1 p room)

-- ---- ASCII bytes

ascii-front : (bs ys : List ℕ) → IsAscii (bs ++ ys) → IsAscii bs
ascii-front [] ys h zero = omega arith
ascii-front [] ys h (suc i) = omega arith
ascii-front (b ∷ bs) ys h zero = h 0
ascii-front (b ∷ bs) ys h (suc i) = ascii-front bs ys (λ j. h (suc j)) i

ascii-end : (xs bs : List ℕ) → IsAscii (xs ++ bs) → IsAscii bs
ascii-end [] bs h = h
ascii-end (x ∷ xs) bs h = ascii-end xs bs (λ j. h (suc j))

module _ (bytes : List ℕ) (ascii : IsAscii bytes) (bs : List ℕ) (utf8' : IsUtf8 bs) (p : ℕ) (room : p ≤ length bytes) where
  abbrev one_each : Reading
  one_each = of_ascii bytes

  abbrev at : ℕ → ℕ
  at q = offset one_each q

  ascii_inside : at p ≤ length bytes
  ascii_inside = let e = single_offset bytes p room in omega (arith, e)

  -- characters that are ASCII are their bytes
  spelled-same : IsAscii (chars bs) → chars bs ≡ bs
  spelled-same h = sym (encodes-IsAscii (chars bs) h) ∙ encodes-chars bs utf8'

  ascii_beside : SameBeside one_each bytes bs (chars bs) p
  ascii_beside = record {
    right = λ ys e.
        let same : chars bs ≡ bs = chars-IsAscii bs (ascii-front bs ys (subst IsAscii e (IsAscii-drop bytes (at p) ascii))) in
        (ys, ap (λ q. drop q bytes) (sym here) ∙ e ∙ ap (λ w. w ++ ys) (sym same));
    right_back = λ es e.
        let same : chars bs ≡ bs = spelled-same (ascii-front (chars bs) es (subst IsAscii e (IsAscii-drop bytes p ascii))) in
        let a = ap length e in
        let b = length-append (chars bs) es in
        let c = length-drop p bytes in
        let d = single_offset bytes (p + length (chars bs)) (omega (arith, a, b, c)) in
        let f = ap length same in
        ((es, ap (λ q. drop q bytes) here ∙ e ∙ ap (λ w. w ++ es) same), omega (arith, d, f, here));
    left = λ xs e.
        let same : chars bs ≡ bs = chars-IsAscii bs (ascii-end xs bs (subst IsAscii e (IsAscii-take bytes (at p) ascii))) in
        (xs, ap (λ q. take q bytes) (sym here) ∙ e ∙ ap (λ w. xs ++ w) (sym same));
    left_back = λ es e.
        let same : chars bs ≡ bs = spelled-same (ascii-end es (chars bs) (subst IsAscii e (IsAscii-take bytes p ascii))) in
        let d = single_offset bytes (p - length (chars bs)) (omega (arith, room)) in
        let f = ap length same in
        ((es, ap (λ q. take q bytes) here ∙ e ∙ ap (λ w. es ++ w) same), omega (arith, d, f, here));
  }
    where
      here : at p ≡ p
      here = single_offset bytes p room

pub ascii_tells_bytes : (table : Table) (unicode : Bool) (bytes : List ℕ) → IsAscii bytes → TellsBytes (of_ascii bytes) (ascii_input table unicode bytes)
ascii_tells_bytes table unicode bytes ascii = record { literal = told }
  where
    told : (dir : Direction) (bs : List ℕ) → AreCharacters bs → (p : ℕ) → p ≤ length bytes
        → literal (ascii_input table unicode bytes) dir bs (offset (of_ascii bytes) p)
        ≡ option_map (offset (of_ascii bytes)) (placed (chars bs) (beside (context_of (of_ascii bytes) (ascii_input table unicode bytes)) dir (length (chars bs)) p))
    told Forward bs are p room =
        told-right (ascii_input table unicode bytes) (of_ascii bytes) bs (chars bs) p room (ascii_inside bytes ascii bs are.1 p room) (ascii_beside bytes ascii bs are.1 p room)
    told Backward bs are p room =
        told-left (ascii_input table unicode bytes) (of_ascii bytes) bs (chars bs) p room (ascii_inside bytes ascii bs are.1 p room) (ascii_beside bytes ascii bs are.1 p room)
