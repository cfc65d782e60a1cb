-- Lines in front of an offset.
use Rattle.std.proofs.Common.{◌≡◌, ℕ, zero, suc, ◌+◌, ◌-◌, ◌<◌, ◌≤◌, ◌⊎◌, inl, inr, ⊎_elim, Bool, true, false, ◌&&◌, List, [], ◌∷◌, ◌++◌, length, take, drop, get_or, slice_index, All, Option, Some, None, IfSome, refl, sym, ap, subst, ◌∙◌, arith, eqb, add-one, append-nil, append_assoc, length-append, length-take, length-drop, get_or-take}
use Rattle.std.specs.Prelude.{nat_lt}
use Rattle.std.specs.Str.{IsUtf8, IsCharBoundary}
use Rattle.std.proofs.lemmas.Bool.{eqb-true, ltb-true}
use Rattle.std.proofs.lemmas.List.{take-append-drop}
use Rattle.std.proofs.lemmas.List.Elements.{All-nil, All-cons}
use Rattle.std.proofs.lemmas.Str.{IsUtf8-take, IsUtf8-drop, IsCharBoundary-end, IsCharBoundary-before_ascii, IsCharBoundary-after_ascii}
use Rattle.esgrep_rows.specs.declared.ending.Ending.{Ending}
use Rattle.esgrep_rows.specs.declared.ending.Ending.TheVariants.{Newline, Nul}
use Rattle.esgrep_rows.specs.Lines.{lines, in_front, is_last, body, body_len, byte_of, EndsBefore}
use Rattle.esgrep_rows.proofs.LineLemmas.{lines-end, lines-more, lines-none}

-- Where the first line of a text ends: at a byte that ends lines, or at the last byte.
record FirstEnd (end : ℕ) (text : List ℕ) : Type 0 where
  at : ℕ
  within : at < length text
  cut : lines end text ≡ take (suc at) text ∷ lines end (drop (suc at) text)
  last : (eqb (get_or text at 0) end ≡ true) ⊎ (suc at ≡ length text)

first_end : (end b : ℕ) (text : List ℕ) → FirstEnd end (b ∷ text)
first_end end b [] = by_test (eqb b end) refl
  where
    by_test : (t : Bool) → eqb b end ≡ t → FirstEnd end (b ∷ [])
    by_test true e = record { at = 0; within = omega arith; cut = lines-end end b [] e; last = inl e }
    by_test false e = record {
      at = 0;
      within = omega arith;
      cut = lines-more end b [] e ∙ ap (in_front b) (lines-none end) ∙ ap (λ ls. (b ∷ []) ∷ ls) (sym (lines-none end));
      last = inr refl;
    }
first_end end b (c ∷ text) = by_test (first_end end c text) (eqb b end) refl
  where
    by_test : FirstEnd end (c ∷ text) → (t : Bool) → eqb b end ≡ t → FirstEnd end (b ∷ c ∷ text)
    by_test f true e = record { at = 0; within = omega arith; cut = lines-end end b (c ∷ text) e; last = inl e }
    by_test f false e = record {
      at = suc f.at;
      within = omega (arith, f.within);
      cut = lines-more end b (c ∷ text) e ∙ ap (in_front b) f.cut;
      last = ⊎_elim (λ is. inl is) (λ is. inr (ap suc is)) f.last;
    }

-- the part of UTF-8 up to there is UTF-8, and what is behind it
end-boundary : (end : ℕ) (text : List ℕ) (f : FirstEnd end text) → end < 128 → IsUtf8 text → IsCharBoundary text (suc f.at)
end-boundary end text f ascii utf8 = ⊎_elim
    (λ is. let low : get_or text f.at 0 < 128 = omega (arith, eqb-true (get_or text f.at 0) end is, ascii) in
    subst (IsCharBoundary text) (add-one f.at) (IsCharBoundary-after_ascii text f.at utf8 f.within low))
    (λ is. subst (IsCharBoundary text) (sym is) (IsCharBoundary-end text))
    f.last

-- a text may be cut before its last byte, where that is ASCII
last-boundary : (b : ℕ) (text : List ℕ) → b < 128 → is_last b text ≡ true → (0 < length text) × IsCharBoundary text (length text - 1)
last-boundary b text ascii is = by_length (nat_lt 0 (length text)) refl is
  where
    by_length : (some : Bool) → nat_lt 0 (length text) ≡ some → (some && eqb (slice_index text (length text - 1)) b) ≡ true
        → (0 < length text) × IsCharBoundary text (length text - 1)
    by_length true e is =
        let some : 0 < length text = ltb-true 0 (length text) e in
        let low : get_or text (length text - 1) 0 < 128 = omega (arith, eqb-true (slice_index text (length text - 1)) b is, ascii) in
        (some, IsCharBoundary-before_ascii text (length text - 1) (omega (arith, some)) low)
    by_length false e is = absurd (cc is)

last-is : (b : ℕ) (text : List ℕ) → is_last b text ≡ true → eqb (slice_index text (length text - 1)) b ≡ true
last-is b text is = by_length (nat_lt 0 (length text)) is
  where
    by_length : (some : Bool) → (some && eqb (slice_index text (length text - 1)) b) ≡ true → eqb (slice_index text (length text - 1)) b ≡ true
    by_length true is = is
    by_length false is = absurd (cc is)

-- what is searched of a line of UTF-8 is UTF-8
body-boundary : (ending : Ending) (line : List ℕ) → IsUtf8 line → IsCharBoundary line (body_len ending line)
body-boundary Newline line utf8 = by_last (is_last 0x0A line) refl (is_last 0x0D (take (length line - 1) line)) refl
  where
    by_last : (ended : Bool) → is_last 0x0A line ≡ ended → (returned : Bool) → is_last 0x0D (take (length line - 1) line) ≡ returned
        → IsCharBoundary line (body_len Newline line)
    by_last false e returned r = rw e (IsCharBoundary-end line)
    by_last true e false r = rw (e, r) (last-boundary 0x0A line (omega arith) e).1
    by_last true e true r =
        let front : List ℕ = take (length line - 1) line in
        let some = (last-boundary 0x0A line (omega arith) e).0 in
        let size : length front ≡ length line - 1 = omega (arith, length-take (length line - 1) line, some) in
        let inner = last-boundary 0x0D front (omega arith) r in
        let at : length front - 1 ≡ length line - 2 = omega (arith, size) in
        let below : length line - 2 < length line - 1 = omega (arith, size, inner.0) in
        let is : eqb (slice_index front (length front - 1)) 0x0D ≡ true = last-is 0x0D front r in
        let low : get_or line (length line - 2) 0 < 128 =
        omega (arith, eqb-true (slice_index front (length front - 1)) 0x0D is, ap (slice_index front) at, get_or-take (length line - 1) line (length line - 2) 0 below) in
        rw (e, r) (IsCharBoundary-before_ascii line (length line - 2) (omega (arith, below)) low)
body-boundary Nul line utf8 = by_last (is_last 0 line) refl
  where
    by_last : (ended : Bool) → is_last 0 line ≡ ended → IsCharBoundary line (body_len Nul line)
    by_last false e = rw e (IsCharBoundary-end line)
    by_last true e = rw e (last-boundary 0 line (omega arith) e).1

-- what lies up to an offset, if there is one, and is not empty
up_to : (at : Option ℕ) (all part : ℕ) → part ≤ all → 0 < all → IfSome at (λ end. all ≤ end) → IfSome at (λ end. (part ≤ end) × (0 < end))
up_to None all part less some within = tt
up_to (Some end) all part less some within = (omega (arith, less, within), omega (arith, some, within))

fewer : (at : Option ℕ) (all part : ℕ) → part ≤ all → IfSome at (λ end. all ≤ end) → IfSome at (λ end. part ≤ end)
fewer None all part less within = tt
fewer (Some end) all part less within = omega (arith, less, within)

-- what is searched of the lines of a part that ends at an offset or before it ends there or before it
module _ (ending : Ending) (ascii : byte_of ending < 128) (whole : List ℕ) (at : Option ℕ) where
  abbrev Passed : List ℕ → Type 0
  Passed line = EndsBefore whole at (body ending line)

  lines-pass : (fuel : ℕ) (front text rest : List ℕ) → length text ≤ fuel → IsUtf8 text → whole ≡ front ++ text ++ rest → IfSome at (λ end. length front + length text ≤ end)
      → All Passed (lines (byte_of ending) text)
  lines-pass fuel front [] rest fits utf8 cut within = rw (lines-none (byte_of ending)) (All-nil Passed)
  lines-pass zero front (b ∷ text) rest fits utf8 cut within = absurd (omega (arith, fits))
  lines-pass (suc fuel) front (b ∷ text) rest fits utf8 cut within =
      let f = first_end (byte_of ending) b text in
      let n : ℕ = suc f.at in
      let all : List ℕ = b ∷ text in
      let boundary = end-boundary (byte_of ending) all f ascii utf8 in
      let line : List ℕ = take n all in
      let behind : List ℕ = drop n all in
      let k : ℕ = body_len ending line in
      let utf8_line : IsUtf8 line = IsUtf8-take all n utf8 boundary in
      let reaches : n ≤ length all = omega (arith, f.within) in
      let size : length line ≡ n = omega (arith, length-take n all, reaches) in
      let part : List ℕ = take k line in
      let few : length part ≤ n = omega (arith, length-take k line, size) in
      let more : whole ≡ front ++ part ++ (drop k line ++ behind ++ rest) =
      cut ∙ ap (λ t. front ++ t ++ rest) (sym (take-append-drop n all)) ∙ ap (λ t. front ++ (t ++ behind) ++ rest) (sym (take-append-drop k line)) ∙ simp append_assoc in
      let here : Passed line = (
        IsUtf8-take line k utf8_line (body-boundary ending line utf8_line),
        front,
        drop k line ++ behind ++ rest,
        more,
        up_to at (length front + length all) (length front + length part) (omega (arith, few, reaches)) (omega arith) within,
      ) in
      let next : whole ≡ (front ++ line) ++ behind ++ rest = cut ∙ ap (λ t. front ++ t ++ rest) (sym (take-append-drop n all)) ∙ simp append_assoc in
      let shorter : length behind ≤ fuel = omega (arith, fits, length-drop n all) in
      let left : length (front ++ line) + length behind ≤ length front + length all = omega (arith, length-append front line, size, length-drop n all, reaches) in
      let others = lines-pass fuel (front ++ line) behind rest shorter (IsUtf8-drop all n utf8 boundary) next (fewer at (length front + length all) (length (front ++ line) + length behind) left within) in
      subst (All Passed) (sym f.cut) (All-cons Passed line (lines (byte_of ending) behind) here others)

-- the lines in front of an offset
pub lines-before : (ending : Ending) (text : List ℕ) (at cut : ℕ) → byte_of ending < 128 → IsUtf8 text → IsCharBoundary text cut → cut ≤ at
    → All (λ line. EndsBefore text (Some at) (body ending line)) (lines (byte_of ending) (take cut text))
lines-before ending text at cut ascii utf8 boundary before =
    lines-pass ending ascii text (Some at) (length (take cut text)) [] (take cut text) (drop cut text) (omega arith) (IsUtf8-take text cut utf8 boundary)
    (sym (take-append-drop cut text)) (omega (arith, length-take cut text, before))

-- and without one all lines
pub lines-all_before : (ending : Ending) (text : List ℕ) → byte_of ending < 128 → IsUtf8 text → All (λ line. EndsBefore text None (body ending line)) (lines (byte_of ending) text)
lines-all_before ending text ascii utf8 = lines-pass ending ascii text None (length text) [] text [] (omega arith) utf8 (sym (append-nil text)) tt

pub byte-ascii : (ending : Ending) → byte_of ending < 128
byte-ascii Newline = omega arith
byte-ascii Nul = omega arith
