-- Over units of UTF-16, comparing units does what comparing characters does, unless the far end lies inside a pair.
use Rattle.std.specs.Prelude.{nat_le, slice_range}
use Rattle.std.proofs.Common.{◌≡◌, ℕ, ◌+◌, ◌-◌, ◌≤◌, Bool, true, false, not, ◌&&◌, List, ◌++◌, append_assoc, length, take, drop, min, Some, None, if◌then◌else◌, option_map, All, refl, sym, ap, ap₂, ◌∙◌, subst, arith, length-append, length-take, length-drop}
use Rattle.std.proofs.lemmas.Bool.{and_parts, not-true}
use Rattle.std.proofs.Math.Seq.{take-append_seam, take-add}
use Rattle.std.proofs.lemmas.List.{take-append-drop}
use Rattle.std.proofs.lemmas.List.Elements.{All-drop}
use Rattle.regress_meaning.specs.Table.{Table}
use Rattle.regress_meaning.specs.Text.{same_text}
use Rattle.regress_meaning.specs.Meaning.{Direction, Forward, Backward, beside}
use Rattle.regress_meaning.specs.Offsets.{Reading, offset, of_utf16, characters}
use Rattle.regress_meaning.specs.Steps.{literal, repeated, splits, unless_split, same_units}
use Rattle.regress_front_nodes.specs.ByteInputs.{placed}
use Rattle.regress_engine_input.proofs.Tests.{le-true}
use Rattle.regress_meaning.specs.Inputs.{Input, context_of, utf16_input}
use Rattle.regress_engine_input.proofs.Standing.{stands_right, stands_left, right-split, split-right, left-split, split-left, placed-if, same_place}
use Rattle.regress_engine_input.proofs.Utf16Texts.{IsShort, utf16_tells}
use Rattle.regress_engine_input.proofs.Utf16Parts.{spells, spells-append, characters-append, characters-cut, splits-shift, splits-front, offset16, units-before, units-behind, place-outside}
use Rattle.regress_engine_input.proofs.References.{placed_by-same, repeated-told}

-- an offset where a test passes, unless it lies inside a pair
unless-if : (units : List ℕ) (b : Bool) (o : ℕ) → unless_split units (if b then Some o else None) ≡ (if b && not (splits units o) then Some o else None)
unless-if units false o = refl
unless-if units true o = by_test (splits units o)
  where
    by_test : (t : Bool) → (if t then None else Some o) ≡ (if not t then Some o else None)
    by_test true = refl
    by_test false = refl

module _ (units : List ℕ) (short : All IsShort units) where
  abbrev reading : Reading
  reading = of_utf16 units

  abbrev points : List ℕ
  points = characters units

  abbrev at : ℕ → ℕ
  at p = offset reading p

  at-inside : (p : ℕ) → at p ≤ length units
  at-inside p =
      let a = offset16 units short p in
      let b = ap length (units-before units short p) in
      let c = length-take (at p) units in
      omega (arith, a, b, c)

  -- the characters between two places, and their units
  abbrev word : ℕ → ℕ → List ℕ
  word a b = slice_range points a b

  word-front : (a b : ℕ) → a ≤ b → take b points ≡ take a points ++ word a b
  word-front a b order = let e : b ≡ a + (b - a) = omega (arith, order) in ap (λ n. take n points) e ∙ take-add a (b - a) points

  word-units : (a b : ℕ) → a ≤ b → slice_range units (at a) (at b) ≡ spells (word a b)
  word-units a b order =
      let rest : List ℕ = drop (b - a) (drop a points) in
      let behind : drop (at a) units ≡ spells (word a b) ++ spells rest =
      units-behind units short a ∙ ap spells (sym (take-append-drop (b - a) (drop a points))) ∙ spells-append (word a b) rest in
      let x = offset16 units short a in
      let y : at b ≡ length (spells (take a points) ++ spells (word a b)) =
      offset16 units short b ∙ ap (λ w. length (spells w)) (word-front a b order) ∙ ap length (spells-append (take a points) (word a b)) in
      let z = length-append (spells (take a points)) (spells (word a b)) in
      let size : at b - at a ≡ length (spells (word a b)) = omega (arith, x, y, z) in
      ap₂ take size behind ∙ take-append_seam (spells (word a b)) (spells rest)

  word-read : (a b : ℕ) → characters (spells (word a b)) ≡ word a b
  word-read a b =
      let own : characters (drop (at a) units) ≡ drop a points = ap characters (units-behind units short a) ∙ (characters-cut units short a).1 in
      let cut = (characters-cut (drop (at a) units) (All-drop IsShort (at a) units short) (b - a)).0 in
      subst (λ cs. characters (spells (take (b - a) cs)) ≡ take (b - a) cs) own cut

  -- between two places the units are read as the characters there
  pub part-read : (a b : ℕ) → a ≤ b → characters (slice_range units (at a) (at b)) ≡ word a b
  part-read a b order = ap characters (word-units a b order) ∙ word-read a b

  -- characters that are those of their units, and a place
  module _ (ws : List ℕ) (own : characters (spells ws) ≡ ws) (p : ℕ) (room : p ≤ length points) where
    abbrev o : ℕ
    o = at p

    abbrev us : List ℕ
    us = spells ws

    right : (ys : List ℕ) → drop o units ≡ us ++ ys → splits units (o + length us) ≡ false → (es : List ℕ) × (drop p points ≡ ws ++ es)
    right ys e outside =
        let front : List ℕ = take o units in
        let size : length front ≡ o = let a = length-take o units in let b = at-inside p in omega (arith, a, b) in
        let whole : units ≡ front ++ (us ++ ys) = sym (take-append-drop o units) ∙ ap (λ w. front ++ w) e in
        let seam : splits (us ++ ys) (length us) ≡ false =
        splits-shift front (us ++ ys) (length us) (ap₂ splits (sym whole) (ap (λ n. n + length us) size) ∙ outside) in (
          characters ys,
          sym ((characters-cut units short p).1) ∙ ap characters (sym (units-behind units short p) ∙ e) ∙ characters-append us ys seam ∙ ap (λ (w : List ℕ). w ++ characters ys) own,
        )

    right_end : (es : List ℕ) → drop p points ≡ ws ++ es → o + length us ≡ at (p + length ws)
    right_end es e =
        let both : take (p + length ws) points ≡ take p points ++ ws = take-add p (length ws) points ∙ ap (λ w. take p points ++ w) (ap (take (length ws)) e ∙ take-append_seam ws es) in
        let a = offset16 units short p in
        let b : at (p + length ws) ≡ length (spells (take p points) ++ us) =
        offset16 units short (p + length ws) ∙ ap (λ w. length (spells w)) both ∙ ap length (spells-append (take p points) ws) in
        let c = length-append (spells (take p points)) us in
        omega (arith, a, b, c)

    right_room : (es : List ℕ) → drop p points ≡ ws ++ es → p + length ws ≤ length points
    right_room es e = let a = ap length e in let b = length-append ws es in let c = length-drop p points in omega (arith, a, b, c, room)

    right_back : (es : List ℕ) → drop p points ≡ ws ++ es → (drop o units ≡ us ++ spells es) × (splits units (o + length us) ≡ false)
    right_back es e = (
      units-behind units short p ∙ ap spells e ∙ spells-append ws es,
      ap (splits units) (right_end es e) ∙ place-outside units short (p + length ws) (right_room es e),
    )

    left_end : (es : List ℕ) → take p points ≡ es ++ ws → o - length us ≡ at (p - length ws)
    left_end es e =
        let sizes = length-append es ws in
        let f = ap length e in
        let g = length-take p points in
        let h : min p (length points) ≡ p = omega (arith, room) in
        let before : p - length ws ≡ length es = omega (arith, sizes, f, g, h) in
        let whole : points ≡ es ++ (ws ++ drop p points) = sym (take-append-drop p points) ∙ ap (λ w. w ++ drop p points) e ∙ append_assoc es ws (drop p points) in
        let front : take (p - length ws) points ≡ es = ap₂ take before whole ∙ take-append_seam es (ws ++ drop p points) in
        let a : o ≡ length (spells es ++ us) = offset16 units short p ∙ ap (λ w. length (spells w)) e ∙ ap length (spells-append es ws) in
        let b : at (p - length ws) ≡ length (spells es) = offset16 units short (p - length ws) ∙ ap (λ w. length (spells w)) front in
        let c = length-append (spells es) us in
        omega (arith, a, b, c)

    left : (xs : List ℕ) → take o units ≡ xs ++ us → splits units (o - length us) ≡ false → (es : List ℕ) × (take p points ≡ es ++ ws)
    left xs e outside =
        let size : o - length us ≡ length xs = let a = length-take o units in let b = at-inside p in let c = ap length e in let d = length-append xs us in omega (arith, a, b, c, d) in
        let whole : units ≡ (xs ++ us) ++ drop o units = sym (take-append-drop o units) ∙ ap (λ w. w ++ drop o units) e in
        let seam : splits (xs ++ us) (length xs) ≡ false =
        splits-front (xs ++ us) (drop o units) (length xs) (ap₂ splits (sym whole) (sym size) ∙ outside) in (
          characters xs,
          sym ((characters-cut units short p).0) ∙ ap characters (sym (units-before units short p) ∙ e) ∙ characters-append xs us seam ∙ ap (λ (w : List ℕ). characters xs ++ w) own,
        )

    left_back : (es : List ℕ) → take p points ≡ es ++ ws → (take o units ≡ spells es ++ us) × (splits units (o - length us) ≡ false)
    left_back es e = (
      units-before units short p ∙ ap spells e ∙ spells-append es ws,
      ap (splits units) (left_end es e) ∙ place-outside units short (p - length ws) (omega (arith, room)),
    )

  module _ (table : Table) (unicode : Bool) (ws : List ℕ) (own : characters (spells ws) ≡ ws) (p : ℕ) (room : p ≤ length points) where
    abbrev input : Input
    input = utf16_input table unicode units

    both : (a b : Bool) → a ≡ true → b ≡ false → (a && not b) ≡ true
    both a b e f = ap₂ (λ x y. x && not y) e f

    beside-units : (dir : Direction) → unless_split units (literal input dir (spells ws) (at p)) ≡ option_map at (placed ws (beside (context_of reading input) dir (length ws) p))
    unfolding beside
    beside-units Forward =
        let k : ℕ = length ws in
        let n : ℕ = length points in
        let far : ℕ = at p + length (spells ws) in
        let s : Bool = stands_right units (at p) (spells ws) in
        let t : Bool = same_text ws (slice_range points p (p + k)) in
        unless-if units s far
        ∙ same_place at (s && not (splits units far)) (nat_le (p + k) n && t) far (p + k)
        (λ h. let ys = right-split units (at p) (spells ws) (and_parts s (not (splits units far)) h).0 in
        let es = right ws own p room ys.0 ys.1 (not-true (splits units far) (and_parts s (not (splits units far)) h).1) in
        ap₂ (λ x y. x && y) (le-true (p + k) n (right_room ws own p room es.0 es.1)) (split-right points p ws es.0 es.1))
        (λ h. let es = right-split points p ws (and_parts (nat_le (p + k) n) t h).1 in
        let r = right_back ws own p room es.0 es.1 in
        both s (splits units far) (split-right units (at p) (spells ws) (spells es.0) r.0) r.1)
        (λ h. let es = right-split points p ws (and_parts (nat_le (p + k) n) t h).1 in right_end ws own p room es.0 es.1)
        ∙ ap (option_map at) (sym (placed-if ws (slice_range points p (p + k)) (nat_le (p + k) n) (p + k)))
    beside-units Backward =
        let k : ℕ = length ws in
        let far : ℕ = at p - length (spells ws) in
        let s : Bool = stands_left units (at p) (spells ws) in
        unless-if units s far
        ∙ same_place at (s && not (splits units far)) (stands_left points p ws) far (p - k)
        (λ h. let xs = left-split units (at p) (spells ws) (and_parts s (not (splits units far)) h).0 in
        let es = left ws own p room xs.0 xs.1 (not-true (splits units far) (and_parts s (not (splits units far)) h).1) in
        split-left points p ws room es.0 es.1)
        (λ h. let es = left-split points p ws h in
        let r = left_back ws own p room es.0 es.1 in
        both s (splits units far) (split-left units (at p) (spells ws) (at-inside p) (spells es.0) r.0) r.1)
        (λ h. let es = left-split points p ws h in left_end ws own p room es.0 es.1)
        ∙ ap (option_map at) (sym (placed-if ws (slice_range points (p - k) p) (nat_le k p) (p - k)))

  -- What a group took between two places stands beside a third, code point by code point, just where its units do and the far end
  -- lies outside a pair.
  pub utf16_repeated : (table : Table) (unicode : Bool) (dir : Direction) (a b p : ℕ) → a ≤ b → b ≤ length points → p ≤ length points
      → repeated (utf16_input table unicode units) dir false (Some (at a, at b)) (at p)
      ≡ unless_split units (same_units (utf16_input table unicode units) dir (at a) (at b) (at p))
  utf16_repeated table unicode dir a b p order inside room =
      let input : Input = utf16_input table unicode units in
      let ws : List ℕ = word a b in
      let count : b - a ≡ length ws = let x = length-take (b - a) (drop a points) in let y = length-drop a points in omega (arith, x, y, inside) in
      repeated-told input reading (utf16_tells table unicode units short) false dir a b p order inside room
      ∙ ap (option_map at) (placed_by-same (context_of reading input) ws (beside (context_of reading input) dir (b - a) p))
      ∙ ap (λ n. option_map at (placed ws (beside (context_of reading input) dir n p))) count
      ∙ sym (beside-units table unicode ws (word-read a b) p room dir)
      ∙ ap (λ us. unless_split units (literal input dir us (at p))) (sym (word-units a b order))
