-- The parts of matches of a whole text in a text at an offset of it: which matches have one, and that parts lie in order.
use Rattle.std.proofs.Common.{◌≡◌, ◌⊎◌, ℕ, zero, suc, ◌+◌, ◌-◌, ◌<◌, ◌≤◌, Bool, true, false, cond, ◌||◌, List, [], ◌∷◌, ◌++◌, length, take, drop, get_or, map, Option, inl, inr, refl, sym, ap, subst, ◌∙◌, append-nil, arith}
use Rattle.std.specs.Prelude.{◌↔◌, IsTrue, nat_lt, nat_le, filter, All, IfSome, option_map, if◌then◌else◌}
use Rattle.std.specs.Str.{IsCharBoundary}
use Rattle.std.specs.List.Sorted.{IsNonDecreasingBy}
use Rattle.std.proofs.lemmas.Bool.{cases_lt, ltb-true, leb-true, lt-ltb, le-ltb, le-leb, lt-leb, and_parts, and_left, and_right, or_cases, or_left, or_right, or_from}
use Rattle.std.proofs.lemmas.Bool.Decides.{same_from_decides}
use Rattle.std.proofs.lemmas.List.{get_or_past}
use Rattle.std.proofs.lemmas.List.Elements.{All-nil, All-head, All-tail}
use Rattle.std.specs.declared.ops.Range.{Range}
use Rattle.regress_meaning.specs.Matches.{Item}
use Rattle.regress_match.specs.declared.found.Match.{Match}
use Rattle.regress_match.specs.Views.{ends, item_of}
use Rattle.regress_match.specs.GroupViews.{names_of_match}
use Rattle.regress_match.specs.TextRanges.{LiesBetween, LiesInText}
use Rattle.esgrep_rows.specs.declared.ending.Ending.{Ending}
use Rattle.esgrep_rows.specs.declared.ending.Ending.TheVariants.{Newline, Nul}
use Rattle.esgrep_rows.specs.Found.{found_of, found_at, LieInOrder}
use Rattle.esgrep_rows.proofs.RewritingLemmas.{left-next, left-none}
use Rattle.esgrep_lines.specs.Parts.{splits_ending, touched, touches, told_in, part, is_between, has_part, parts_in}

-- ---- where matches touch lines

module _ (ending : Ending) (whole : List ℕ) where
  touched-low : (at : ℕ) → touched ending whole at ≤ at
  touched-low at = by ending
    where
      go : (b : Bool) → (if b then at - 1 else at) ≤ at
      go true = omega arith
      go false = omega arith

      by : (e : Ending) → touched e whole at ≤ at
      by Newline = go (splits_ending whole at)
      by Nul = omega arith

  touched-high : (at : ℕ) → at ≤ touched ending whole at + 1
  touched-high at = by ending
    where
      go : (b : Bool) → at ≤ (if b then at - 1 else at) + 1
      go true = omega arith
      go false = omega arith

      by : (e : Ending) → at ≤ touched e whole at + 1
      by Newline = go (splits_ending whole at)
      by Nul = omega arith

  touched-rise : (at to : ℕ) → at ≤ to → touched ending whole at ≤ touched ending whole to
  touched-rise at to order = by (cases_lt at to)
    where
      by : (at < to) ⊎ (to ≤ at) → touched ending whole at ≤ touched ending whole to
      by (inl less) = omega (arith, touched-low at, touched-high to, less)
      by (inr most) = let same : at ≡ to = omega (arith, order, most) in let e = ap (touched ending whole) same in omega (arith, e)

-- ---- where characters begin

between-boundary : (text : List ℕ) (at : ℕ) → at ≤ length text → is_between text at ≡ true → IsCharBoundary text at
between-boundary text at within is_so = (within, λ below high. by high (or_cases (nat_lt (get_or text at 0) 128) (nat_le 192 (get_or text at 0)) is_so))
  where
    by : 128 ≤ get_or text at 0 → (nat_lt (get_or text at 0) 128 ≡ true) ⊎ (nat_le 192 (get_or text at 0) ≡ true) → 192 ≤ get_or text at 0
    by high (inl low) = absurd (omega (arith, high, ltb-true (get_or text at 0) 128 low))
    by high (inr most) = leb-true 192 (get_or text at 0) most

pub between-end : (text : List ℕ) (at : ℕ) → length text ≤ at → is_between text at ≡ true
between-end text at past =
    let none = get_or_past text at 0 past in
    or_left (nat_lt (get_or text at 0) 128) (nat_le 192 (get_or text at 0)) (lt-ltb (get_or text at 0) 128 (omega (arith, none)))

pub boundary-between : (text : List ℕ) (at : ℕ) → IsCharBoundary text at → is_between text at ≡ true
boundary-between text at boundary = by (cases_lt at (length text)) (cases_lt (get_or text at 0) 128)
  where
    by : (at < length text) ⊎ (length text ≤ at) → (get_or text at 0 < 128) ⊎ (128 ≤ get_or text at 0) → is_between text at ≡ true
    by (inr past) _ = between-end text at past
    by (inl room) (inl low) = or_left (nat_lt (get_or text at 0) 128) (nat_le 192 (get_or text at 0)) (lt-ltb (get_or text at 0) 128 low)
    by (inl room) (inr high) = or_right (nat_lt (get_or text at 0) 128) (nat_le 192 (get_or text at 0)) (le-leb 192 (get_or text at 0) (boundary.1 room high))

-- what a test of an offset tells
pub between-same : (text : List ℕ) (at : ℕ) (b : Bool) → at ≤ length text → IsTrue b ↔ IsCharBoundary text at → b ≡ is_between text at
between-same text at b within is = same_from_decides b (is_between text at) is (between-boundary text at within, boundary-between text at)

-- ---- matches in order

order-weaken : (whole : List ℕ) (at to : ℕ) (ms : List Match) → at ≤ to → LieInOrder whole to ms → LieInOrder whole at ms
order-weaken whole at to [] less order = tt
order-weaken whole at to (m ∷ ms) less order = (omega (arith, less, order.0), order.1, order.2)

order-drop : (whole : List ℕ) (at : ℕ) (ms : List Match) (n : ℕ) → LieInOrder whole at ms → LieInOrder whole at (drop n ms)
order-drop whole at ms zero order = order
order-drop whole at [] (suc n) order = tt
order-drop whole at (m ∷ ms) (suc n) order = order-weaken whole at m.range.end (drop n ms) (omega (arith, order.0, order.1.0.0)) (order-drop whole m.range.end ms n order.2)

ends-later : (whole : List ℕ) (at : ℕ) (ms : List Match) → LieInOrder whole at ms → (k : ℕ) (d : Match) → k < length ms → at ≤ (get_or ms k d).range.end
ends-later whole at [] order k d below = absurd (omega (arith, below))
ends-later whole at (m ∷ ms) order zero d below = omega (arith, order.0, order.1.0.0)
ends-later whole at (m ∷ ms) order (suc k) d below =
    let less : k < length ms = omega (arith, below) in
    let later = ends-later whole m.range.end ms order.2 k d less in omega (arith, order.0, order.1.0.0, later)

pub ends-rise : (whole : List ℕ) (at : ℕ) (ms : List Match) → LieInOrder whole at ms → IsNonDecreasingBy (λ m. m.range.end) ms
ends-rise whole at [] order i j d less below = absurd (omega (arith, below))
ends-rise whole at (m ∷ ms) order zero zero d less below = omega arith
ends-rise whole at (m ∷ ms) order zero (suc j) d less below = ends-later whole m.range.end ms order.2 j d (omega (arith, below))
ends-rise whole at (m ∷ ms) order (suc i) zero d less below = absurd (omega (arith, less))
ends-rise whole at (m ∷ ms) order (suc i) (suc j) d less below = ends-rise whole m.range.end ms order.2 i j d (omega (arith, less)) (omega (arith, below))

-- ---- which matches have a part

module _ (ending : Ending) (whole : List ℕ) (start : ℕ) (text : List ℕ) where
  abbrev has : Match → Bool
  has m = has_part ending whole start text (item_of m)

  abbrev pub parts : List Match → List Item
  parts ms = parts_in ending whole (map item_of ms) start text

  pub parts-yes : (m : Match) (ms : List Match) → has m ≡ true → parts (m ∷ ms) ≡ part start text (item_of m) ∷ parts ms
  parts-yes m ms is_so =
      let fs : List Item = filter (has_part ending whole start text) (map item_of ms) in
      ap (λ b. map (part start text) (cond b (item_of m ∷ fs) fs)) is_so

  pub parts-no : (m : Match) (ms : List Match) → has m ≡ false → parts (m ∷ ms) ≡ parts ms
  parts-no m ms is_not =
      let fs : List Item = filter (has_part ending whole start text) (map item_of ms) in
      ap (λ b. map (part start text) (cond b (item_of m ∷ fs) fs)) is_not

  untouched : (i : Item) → touches ending whole start text i ≡ false → has_part ending whole start text i ≡ false
  untouched i is_not = and_left _ (is_between text (told_in start text i.end)) (and_left _ (is_between text (told_in start text i.start)) is_not)

  -- a match that ends before the text has none
  none-early : (m : Match) → m.range.start ≤ m.range.end → m.range.end < start → has m ≡ false
  none-early m order early =
      let from = touched ending whole m.range.start in
      let low = touched-low ending whole m.range.start in
      untouched (item_of m) (and_left (nat_le start from || nat_lt start m.range.end) (nat_le from (start + length text))
      (or_from (nat_le start from) (nat_lt start m.range.end) (lt-leb start from (omega (arith, low, order, early))) (le-ltb start m.range.end (omega (arith, early)))))

  -- nor has one that begins behind it
  none-late : (m : Match) → start + length text < touched ending whole m.range.start → has m ≡ false
  none-late m late =
      let from = touched ending whole m.range.start in
      untouched (item_of m) (and_right (nat_le start from || nat_lt start m.range.end) (nat_le from (start + length text)) (lt-leb from (start + length text) late))

  parts-early : (at : ℕ) (ms : List Match) (n : ℕ) → LieInOrder whole at ms
      → ((k : ℕ) (d : Match) → k < n → nat_lt (get_or ms k d).range.end start ≡ true) → parts (drop n ms) ≡ parts ms
  parts-early at ms zero order early = refl
  parts-early at [] (suc n) order early = refl
  parts-early at (m ∷ ms) (suc n) order early =
      parts-early m.range.end ms n order.2 (λ k d below. let less : suc k < suc n = omega (arith, below) in early (suc k) d less)
      ∙ sym (parts-no m ms (none-early m order.1.0.0 (ltb-true m.range.end start (early zero m (omega arith)))))

  parts-behind : (at : ℕ) (ms : List Match) → start + length text < touched ending whole at → LieInOrder whole at ms → parts ms ≡ []
  parts-behind at [] late order = refl
  parts-behind at (m ∷ ms) late order =
      let from = touched-rise ending whole at m.range.start order.0 in
      let to = touched-rise ending whole at m.range.end (omega (arith, order.0, order.1.0.0)) in
      parts-no m ms (none-late m (omega (arith, late, from))) ∙ parts-behind m.range.end ms (omega (arith, late, to)) order.2

  parts-late : (at : ℕ) (ms : List Match) (n : ℕ) (m : Match) → LieInOrder whole at ms → n < length ms → m ≡ get_or ms n m
      → start + length text < touched ending whole m.range.start → parts (drop n ms) ≡ []
  parts-late at ms n m order below is late =
      let next = left-next ms n m below is in
      let here = subst (LieInOrder whole at) next (order-drop whole at ms n order) in
      ap parts next ∙ parts-behind m.range.start (m ∷ drop (n + 1) ms) late (omega arith, here.1, here.2)

  parts-front : (ms : List Match) (n : ℕ) → parts (drop n ms) ≡ [] → parts (take n ms) ≡ parts ms
  parts-front ms zero none = sym none
  parts-front [] (suc n) none = refl
  parts-front (m ∷ ms) (suc n) none = by (parts-front ms n none) (has m) refl
    where
      by : parts (take n ms) ≡ parts ms → (b : Bool) → has m ≡ b → parts (m ∷ take n ms) ≡ parts (m ∷ ms)
      by rest true is_so = parts-yes m (take n ms) is_so ∙ ap (λ is. part start text (item_of m) ∷ is) rest ∙ sym (parts-yes m ms is_so)
      by rest false is_not = parts-no m (take n ms) is_not ∙ rest ∙ sym (parts-no m ms is_not)

  -- the matches from the n-th on, up to where one begins behind the text or none is left
  pub parts-near : (ms rest : List Match) (n count : ℕ) → LieInOrder whole 0 ms → rest ≡ drop n ms
      → ((k : ℕ) (d : Match) → k < n → nat_lt (get_or ms k d).range.end start ≡ true)
      → (length rest ≤ count) ⊎ ((m : Match) × (count < length rest) × (m ≡ get_or rest count m) × (start + length text < touched ending whole m.range.start))
      → parts (take count rest) ≡ parts ms
  parts-near ms rest n count order is early last =
      parts-front rest count (none (subst (LieInOrder whole 0) (sym is) (order-drop whole 0 ms n order)) last) ∙ ap parts is ∙ parts-early 0 ms n order early
    where
      none : LieInOrder whole 0 rest
          → (length rest ≤ count) ⊎ ((m : Match) × (count < length rest) × (m ≡ get_or rest count m) × (start + length text < touched ending whole m.range.start))
          → parts (drop count rest) ≡ []
      none order_rest (inl past) = ap parts (left-none rest count past)
      none order_rest (inr (m, below, here, late)) = parts-late 0 rest count m order_rest below here late

  -- the parts that were put out are all, where no match is left
  pub parts-all : (ns near : List Match) (n : ℕ) (all : List Item) → length near ≤ n → map item_of ns ++ parts (drop n near) ≡ parts near → parts near ≡ all → map item_of ns ≡ all
  parts-all ns near n all past put same =
      sym (append-nil (map item_of ns)) ∙ ap (λ is. map item_of ns ++ is) (sym (ap parts (left-none near n past))) ∙ put ∙ same

  -- ---- that parts lie in order

  told-rise : (at to : ℕ) → at ≤ to → told_in start text at ≤ told_in start text to
  told-rise at to order = omega (arith, order)

  lies-part : (n : Match) (i : Item) → i.start ≤ i.end → has_part ending whole start text i ≡ true → item_of n ≡ part start text i → LiesInText text n
  lies-part n i order is_so is =
      let both = and_parts _ (is_between text (told_in start text i.end)) is_so in
      let first = and_parts (touches ending whole start text i) (is_between text (told_in start text i.start)) both.0 in
      let from : n.range.start ≡ told_in start text i.start = ap (λ (j : Item). j.start) is in
      let to : n.range.end ≡ told_in start text i.end = ap (λ (j : Item). j.end) is in (
        (
          (let rise = told-rise i.start i.end order in omega (arith, from, to, rise)),
          subst (IsCharBoundary text) (sym from) (between-boundary text (told_in start text i.start) (omega arith) first.1),
          subst (IsCharBoundary text) (sym to) (between-boundary text (told_in start text i.end) (omega arith) both.1),
        ),
        ungrouped n.captures.items (ap (λ (j : Item). j.groups) is),
      )
    where
      ungrouped : (gs : List (Option (Range ℕ))) → map (option_map ends) gs ≡ [] → All (λ g. IfSome g (LiesBetween text)) gs
      ungrouped [] none = All-nil (λ g. IfSome g (LiesBetween text))
      ungrouped (g ∷ gs) none = absurd (cc none)

  pub parts-order : (ns ms : List Match) (low at : ℕ) → LieInOrder whole at ms → low ≤ told_in start text at → map item_of ns ≡ parts ms → LieInOrder text low ns
  parts-order ns [] low at order less is = by ns is
    where
      by : (ns : List Match) → map item_of ns ≡ [] → LieInOrder text low ns
      by [] none = tt
      by (n ∷ ns) none = absurd (cc none)
  parts-order ns (m ∷ ms) low at order less is = by (λ ns low less is. parts-order ns ms low m.range.end order.2 less is) (has m) refl ns is
    where
      by : ((ns : List Match) (low : ℕ) → low ≤ told_in start text m.range.end → map item_of ns ≡ parts ms → LieInOrder text low ns)
          → (b : Bool) → has m ≡ b → (ns : List Match) → map item_of ns ≡ parts (m ∷ ms) → LieInOrder text low ns
      by further false is_not ns is =
          let rise = told-rise at m.range.end (omega (arith, order.0, order.1.0.0)) in
          further ns low (omega (arith, less, rise)) (is ∙ parts-no m ms is_not)
      by further true is_so [] is = absurd (let some = is ∙ parts-yes m ms is_so in cc some)
      by further true is_so (n ∷ ns) is =
          let both = is ∙ parts-yes m ms is_so in
          let here : item_of n ≡ part start text (item_of m) = cc both in
          let rest : map item_of ns ≡ parts ms = cc both in
          let from : n.range.start ≡ told_in start text m.range.start = ap (λ (j : Item). j.start) here in
          let to : n.range.end ≡ told_in start text m.range.end = ap (λ (j : Item). j.end) here in
          let rise = told-rise at m.range.start order.0 in (
            omega (arith, less, rise, from),
            lies-part n (item_of m) order.1.0.0 is_so here,
            further ns n.range.end (omega (arith, to)) rest,
          )

-- what is shown of matches without groups
pub found-parts : (template : Option (List ℕ)) (text : List ℕ) (ms : List Match) → All (λ m. names_of_match m ≡ []) ms
    → map (found_of template text) ms ≡ map (found_at template [] text) (map item_of ms)
found-parts template text [] plain = refl
found-parts template text (m ∷ ms) plain =
    let here = All-head (λ (m : Match). names_of_match m ≡ []) m ms plain in
    let rest = found-parts template text ms (All-tail (λ (m : Match). names_of_match m ≡ []) m ms plain) in
    ap (λ names. found_at template names text (item_of m) ∷ map (found_of template text) ms) here ∙ ap (λ fs. found_at template [] text (item_of m) ∷ fs) rest
