-- Units of UTF-16, cut at the offset of a place: the characters before it stand before it, and the others behind.
use Rattle.std.specs.Prelude.{slice_get, sum_by, nat_lt}
use Rattle.std.proofs.Common.{◌≡◌, ◌⊎◌, inl, inr, ℕ, zero, suc, ◌+◌, ◌-◌, ◌/◌, ◌%◌, ◌<◌, ◌≤◌, Bool, true, false, List, [], ◌∷◌, ◌++◌, append_assoc, length, take, drop, Option, Some, None, if◌then◌else◌, All, refl, sym, ap, ap₂, ◌∙◌, subst, arith, length-append, length-take}
use Rattle.std.proofs.Math.Seq.{take-append_seam, drop-append_seam}
use Rattle.std.proofs.lemmas.Option.{slice_get_past}
use Rattle.std.proofs.lemmas.List.{take-append-drop}
use Rattle.std.proofs.lemmas.List.Sums.{sum_by-cons}
use Rattle.std.proofs.lemmas.List.Elements.{All-head, All-tail, All-take}
use Rattle.std.proofs.lemmas.Bool.{cases_lt}
use Rattle.std.proofs.lemmas.Bool.Decides.{nat_tests}
use Rattle.regress_meaning.specs.Tokens.{joined}
use Rattle.regress_meaning.specs.Offsets.{offset, of_utf16, characters}
use Rattle.regress_meaning.specs.Inputs.{unit_before}
use Rattle.regress_meaning.specs.Steps.{pair_of, splits}
use Rattle.regress_engine_input.proofs.Utf16Texts.{wide, IsShort, are_pair, IsAlone, IsAfter, Front, fronts, utf16_end, characters-pair, characters-alone, alone-after}

-- the units of a character
abbrev pub spell : ℕ → List ℕ
spell c = if nat_lt c 0x1_0000 then c ∷ [] else (0xD800 + (c - 0x1_0000) / 0x400) ∷ (0xDC00 + (c - 0x1_0000) % 0x400) ∷ []

-- and of some
pub spells : List ℕ → List ℕ
spells [] = []
spells (c ∷ cs) = spell c ++ spells cs

spell-short : (u : ℕ) → IsShort u → spell u ≡ u ∷ []
spell-short u h = grind (arith, nat_tests)

high-from : (u v : ℕ) → are_pair u v ≡ true → (0xD800 ≤ u) × ((u ≤ 0xDBFF) × ((0xDC00 ≤ v) × (v ≤ 0xDFFF)))
high-from u v h = (grind (arith, nat_tests), (grind (arith, nat_tests), (grind (arith, nat_tests), grind (arith, nat_tests))))

spell-joined : (u v : ℕ) → are_pair u v ≡ true → spell (joined u v) ≡ u ∷ v ∷ []
spell-joined u v h =
    let r = high-from u v h in
    let big : nat_lt (joined u v) 0x1_0000 ≡ false = grind (arith, nat_tests) in
    let high : 0xD800 + (joined u v - 0x1_0000) / 0x400 ≡ u = omega (arith, r.0, r.1.0, r.1.1.0, r.1.1.1) in
    let low : 0xDC00 + (joined u v - 0x1_0000) % 0x400 ≡ v = omega (arith, r.0, r.1.0, r.1.1.0, r.1.1.1) in
    ap (λ b. if b then joined u v ∷ [] else (0xD800 + (joined u v - 0x1_0000) / 0x400) ∷ (0xDC00 + (joined u v - 0x1_0000) % 0x400) ∷ []) big
    ∙ ap₂ (λ x y. x ∷ y ∷ []) high low

length-spell : (c : ℕ) → length (spell c) ≡ wide c
length-spell c = by_test (nat_lt c 0x1_0000)
  where
    by_test : (b : Bool) → length (if b then c ∷ [] else (0xD800 + (c - 0x1_0000) / 0x400) ∷ (0xDC00 + (c - 0x1_0000) % 0x400) ∷ []) ≡ (if b then 1 else 2)
    by_test true = refl
    by_test false = refl

pub length-spells : (cs : List ℕ) → length (spells cs) ≡ sum_by wide cs
unfolding spells
length-spells [] = refl
length-spells (c ∷ cs) =
    let e = length-append (spell c) (spells cs) in let f = length-spell c in let g = sum_by-cons wide c cs in let h = length-spells cs in omega (arith, e, f, g, h)

pub spells-append : (cs ds : List ℕ) → spells (cs ++ ds) ≡ spells cs ++ spells ds
unfolding spells
spells-append [] ds = refl
spells-append (c ∷ cs) ds = ap (λ w. spell c ++ w) (spells-append cs ds) ∙ sym (append_assoc (spell c) (spells cs) (spells ds))

-- the characters of units spell the units
pub spells-characters : (units : List ℕ) → All IsShort units → spells (characters units) ≡ units
unfolding spells characters
spells-characters [] short = refl
spells-characters (u ∷ []) short = ap (λ w. w ++ []) (spell-short u (All-head IsShort u [] short))
spells-characters (u ∷ v ∷ us) short =
    by_pair (are_pair u v) refl (spells-characters us (All-tail IsShort v us (All-tail IsShort u (v ∷ us) short))) (spells-characters (v ∷ us) (All-tail IsShort u (v ∷ us) short))
  where
    by_pair : (b : Bool) → are_pair u v ≡ b → spells (characters us) ≡ us → spells (characters (v ∷ us)) ≡ v ∷ us → spells (characters (u ∷ v ∷ us)) ≡ u ∷ v ∷ us
    by_pair true e rest other = ap spells (characters-pair u v us e) ∙ ap₂ (λ w x. w ++ x) (spell-joined u v e) rest
    by_pair false e other rest = ap spells (characters-alone u v us e) ∙ ap₂ (λ w x. w ++ x) (spell-short u (All-head IsShort u (v ∷ us) short)) rest

-- a unit that is no pair with what follows is one character
characters-front : (u : ℕ) (xs : List ℕ) → IsAlone u (slice_get xs 0) → characters (u ∷ xs) ≡ u ∷ characters xs
unfolding characters
characters-front u [] h = refl
characters-front u (v ∷ xs) h = characters-alone u v xs h

-- two texts one behind the other, where no pair lies across
splits-behind : (u v : ℕ) (us ys : List ℕ) → splits (u ∷ v ∷ (us ++ ys)) (suc (suc (length us))) ≡ false → splits (us ++ ys) (length us) ≡ false
splits-behind u v [] ys h = refl
splits-behind u v (w ∷ us) ys h = h

alone-from : (u : ℕ) (x : Option ℕ) → pair_of (Some u) x ≡ false → IsAlone u x
alone-from u None h = tt
alone-from u (Some v) h = h

pub characters-append : (xs ys : List ℕ) → splits (xs ++ ys) (length xs) ≡ false → characters (xs ++ ys) ≡ characters xs ++ characters ys
unfolding characters
characters-append [] ys h = refl
characters-append (u ∷ []) ys h = characters-front u ys (alone-from u (slice_get ys 0) h)
characters-append (u ∷ v ∷ us) ys h = by_pair (are_pair u v) refl (characters-append us ys (splits-behind u v us ys h)) (characters-append (v ∷ us) ys h)
  where
    by_pair : (b : Bool) → are_pair u v ≡ b → characters (us ++ ys) ≡ characters us ++ characters ys → characters ((v ∷ us) ++ ys) ≡ characters (v ∷ us) ++ characters ys
        → characters (u ∷ v ∷ (us ++ ys)) ≡ characters (u ∷ v ∷ us) ++ characters ys
    by_pair true e rest other =
        characters-pair u v (us ++ ys) e ∙ ap (λ w. joined u v ∷ w) rest ∙ ap (λ (w : List ℕ). w ++ characters ys) (sym (characters-pair u v us e))
    by_pair false e other rest =
        characters-alone u v (us ++ ys) e ∙ ap (λ w. u ∷ w) rest ∙ ap (λ (w : List ℕ). w ++ characters ys) (sym (characters-alone u v us e))

-- a front of a text begins as the text does
alone-front : (u v : ℕ) (us xs ys : List ℕ) → are_pair u v ≡ false → xs ++ ys ≡ v ∷ us → IsAlone u (slice_get xs 0)
alone-front u v us [] ys e f = tt
alone-front u v us (x ∷ xs) ys e f = let g : x ≡ v = cc in ap (are_pair u) g ∙ e

-- Each front of the characters, and each rest, are the characters of their units.
abbrev AreCut : List ℕ → ℕ → Type 0
AreCut cs p = (characters (spells (take p cs)) ≡ take p cs) × (characters (spells (drop p cs)) ≡ drop p cs)

pub characters-cut : (units : List ℕ) → All IsShort units → (p : ℕ) → AreCut (characters units) p
unfolding characters spells
characters-cut units short zero = (refl, ap characters (spells-characters units short))
characters-cut [] short (suc p) = (refl, refl)
characters-cut (u ∷ []) short (suc zero) = (ap (λ w. characters (w ++ [])) (spell-short u (All-head IsShort u [] short)), refl)
characters-cut (u ∷ []) short (suc (suc p)) = (ap (λ w. characters (w ++ [])) (spell-short u (All-head IsShort u [] short)), refl)
characters-cut (u ∷ v ∷ us) short (suc p) =
    by_pair (are_pair u v) refl (characters-cut us (All-tail IsShort v us (All-tail IsShort u (v ∷ us) short)) p) (characters-cut (v ∷ us) (All-tail IsShort u (v ∷ us) short) p)
  where
    by_pair : (b : Bool) → are_pair u v ≡ b → AreCut (characters us) p → AreCut (characters (v ∷ us)) p → AreCut (characters (u ∷ v ∷ us)) (suc p)
    by_pair true e rest other =
        subst (λ cs. AreCut cs (suc p)) (sym (characters-pair u v us e))
        (ap (λ w. characters (w ++ spells (take p (characters us)))) (spell-joined u v e) ∙ characters-pair u v (spells (take p (characters us))) e ∙ ap (λ w. joined u v ∷ w) rest.0, rest.1)
    by_pair false e other rest =
        let cs : List ℕ = characters (v ∷ us) in
        let xs : List ℕ = spells (take p cs) in
        let whole : xs ++ spells (drop p cs) ≡ v ∷ us =
        sym (spells-append (take p cs) (drop p cs)) ∙ ap spells (take-append-drop p cs) ∙ spells-characters (v ∷ us) (All-tail IsShort u (v ∷ us) short) in
        subst (λ cs. AreCut cs (suc p)) (sym (characters-alone u v us e))
        (ap (λ w. characters (w ++ xs)) (spell-short u (All-head IsShort u (v ∷ us) short)) ∙ characters-front u xs (alone-front u v us xs (spells (drop p cs)) e whole) ∙ ap (λ w. u ∷ w) rest.0, rest.1)

-- a text behind another
splits-tail : (t : ℕ) (zs : List ℕ) (m : ℕ) → splits (t ∷ zs) (suc m) ≡ false → splits zs m ≡ false
splits-tail t zs zero h = refl
splits-tail t zs (suc m) h = h

pub splits-shift : (ts xs : List ℕ) (n : ℕ) → splits (ts ++ xs) (length ts + n) ≡ false → splits xs n ≡ false
splits-shift [] xs n h = let e : 0 + n ≡ n = omega arith in subst (λ m. splits xs m ≡ false) e h
splits-shift (t ∷ ts) xs n h =
    let e : length (t ∷ ts) + n ≡ suc (length ts + n) = omega arith in
    splits-shift ts xs n (splits-tail t (ts ++ xs) (length ts + n) (subst (λ m. splits (t ∷ (ts ++ xs)) m ≡ false) e h))

-- and a front of one
pair-front : (zs rest : List ℕ) (m : ℕ) → pair_of (slice_get (zs ++ rest) m) (slice_get (zs ++ rest) (suc m)) ≡ false → pair_of (slice_get zs m) (slice_get zs (suc m)) ≡ false
pair-front [] rest m h = refl
pair-front (z ∷ []) rest zero h = refl
pair-front (z ∷ w ∷ zs) rest zero h = h
pair-front (z ∷ zs) rest (suc m) h = pair-front zs rest m h

pub splits-front : (zs rest : List ℕ) (n : ℕ) → splits (zs ++ rest) n ≡ false → splits zs n ≡ false
splits-front zs rest zero h = refl
splits-front zs rest (suc m) h = pair-front zs rest m h

after-outside : (v : ℕ) (x : Option ℕ) → IsAfter v x → pair_of x (Some v) ≡ false
after-outside v None h = refl
after-outside v (Some u) h = h

none-outside : (x : Option ℕ) → pair_of x None ≡ false
none-outside None = refl
none-outside (Some u) = refl

module _ (units : List ℕ) (short : All IsShort units) where
  abbrev pub points : List ℕ
  points = characters units

  pub offset16 : (p : ℕ) → offset (of_utf16 units) p ≡ length (spells (take p points))
  offset16 p = sym (length-spells (take p points))

  whole : (p : ℕ) → units ≡ spells (take p points) ++ spells (drop p points)
  whole p = sym (spells-characters units short) ∙ ap spells (sym (take-append-drop p points)) ∙ spells-append (take p points) (drop p points)

  pub units-before : (p : ℕ) → take (offset (of_utf16 units) p) units ≡ spells (take p points)
  units-before p = ap₂ take (offset16 p) (whole p) ∙ take-append_seam (spells (take p points)) (spells (drop p points))

  pub units-behind : (p : ℕ) → drop (offset (of_utf16 units) p) units ≡ spells (drop p points)
  units-behind p = ap₂ drop (offset16 p) (whole p) ∙ drop-append_seam (spells (take p points)) (spells (drop p points))

  -- no place lies inside a pair
  pub place-outside : (p : ℕ) → p ≤ length points → splits units (offset (of_utf16 units) p) ≡ false
  place-outside p room = by_room (cases_lt p (length points))
    where
      o : ℕ
      o = offset (of_utf16 units) p

      by_unit : (v : ℕ) → p < length points → slice_get units o ≡ Some v → splits units o ≡ false
      by_unit v less e = ap (pair_of (unit_before units o)) e ∙ after-outside v (unit_before units o) (alone-after units short p v less e)

      by_front : p < length points → (next : ℕ) → Front units (slice_get points p) o next → splits units o ≡ false
      by_front less next (inl (u, a, c, e, f)) = by_unit u less a
      by_front less next (inr (u, v, a, b, c, e, f)) = by_unit u less a

      by_room : (p < length points) ⊎ (length points ≤ p) → splits units o ≡ false
      by_room (inl less) = by_front less (offset (of_utf16 units) (suc p)) (fronts units short p less)
      by_room (inr full) =
          let same : p ≡ length points = omega arith in
          let end : length units ≤ o = let e = ap (offset (of_utf16 units)) same ∙ utf16_end units short in omega (arith, e) in
          ap (pair_of (unit_before units o)) (slice_get_past units o end) ∙ none-outside (unit_before units o)

  -- outside a pair there is a place
  pub place-at : (at : ℕ) → at ≤ length units → splits units at ≡ false → (place : ℕ) × (place ≤ length (characters units)) × (offset (of_utf16 units) place ≡ at)
  place-at at room outside =
      let xs = take at units in
      let ys = drop at units in
      let whole : xs ++ ys ≡ units = take-append-drop at units in
      let size : length xs ≡ at = let e = length-take at units in omega (arith, e, room) in
      let seam : splits (xs ++ ys) (length xs) ≡ false = ap₂ splits whole size ∙ outside in
      let cut : characters units ≡ characters xs ++ characters ys = ap characters (sym whole) ∙ characters-append xs ys seam in
      let front : take (length (characters xs)) (characters units) ≡ characters xs = ap (take (length (characters xs))) cut ∙ take-append_seam (characters xs) (characters ys) in
      let width : sum_by wide (characters xs) ≡ at =
      sym (length-spells (characters xs)) ∙ ap length (spells-characters xs (All-take IsShort at units short)) ∙ size in
      let joined = ap length cut in
      (length (characters xs), let e = length-fits (characters xs) (characters ys) in omega (arith, e, joined), ap (sum_by wide) front ∙ width)
    where
      length-fits : (cs ds : List ℕ) → length cs ≤ length (cs ++ ds)
      length-fits cs ds = let e = length-append cs ds in omega (arith, e)
