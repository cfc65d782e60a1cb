-- Lines that are passed over: none of them is selected.
use Rattle.std.proofs.Common.{◌≡◌, ℕ, zero, suc, ◌+◌, ◌-◌, ◌<◌, Bool, true, false, ◌&&◌, ◌||◌, List, [], ◌∷◌, ◌++◌, length, drop, get_or, sum_by, All, Option, not, refl, sym, ap, ap₂, ◌∙◌, add-zero, length-append, arith}
use Rattle.std.specs.Prelude.{nat_lt, flat_map, codes, if◌then◌else◌}
use Rattle.std.proofs.lemmas.Bool.{lt-ltb, le-ltb}
use Rattle.std.proofs.lemmas.List.{drop_all}
use Rattle.std.proofs.lemmas.List.Elements.{All-head, All-tail}
use Rattle.std.proofs.lemmas.List.Sums.{sum_by-cons}
use Rattle.esgrep_rows.specs.declared.options.Options.{Options}
use Rattle.esgrep_rows.specs.Lines.{Line, lines, numbered, body, tail, byte_of, EndsBefore}
use Rattle.esgrep_rows.specs.Found.{Found, Seen, rewritten}
use Rattle.esgrep_rows.specs.Views.{puts_matches}
use Rattle.esgrep_rows.specs.Rows.{Progress, rows, is_selected, held_back, left_out, following, found_at_line, before_row, selected_row, near_row, match_row, line_row, front, name_field, number_field}
use Rattle.esgrep_rows.proofs.CuttingLemmas.{lines-size, lines-some}
use Rattle.esgrep_lines.specs.Passing.{AreUnselected}
use Rattle.esgrep_lines.specs.Output.{count_from}
use Rattle.esgrep_lines.proofs.CountLemmas.{count-one, count-zero}
use Rattle.esgrep_lines.proofs.StepLemmas.{rows-held}
use Rattle.esgrep_lines.proofs.RowsLemmas.{numbered-line}

pub and-false : (a b : Bool) → b ≡ false → (a && b) ≡ false
and-false true b e = e
and-false false b e = refl

-- a line in which nothing is found is not selected
nothing-unselected : (o : Options) (seen : Seen) (start : ℕ) (line : List ℕ) → o.invert ≡ false → seen.find start (body o.ending line) ≡ [] → is_selected o seen start line ≡ false
nothing-unselected o seen start line plain none =
    let has : List Found → Bool = λ founds. nat_lt 0 (length founds) in
    and-false (not (seen.is_given_up start)) _ (ap₂ (λ (b : Bool) (founds : List Found). if b then not (has founds) else has founds) plain none)

-- lines in front of a candidate are not selected
pub before-unselected : (o : Options) (seen : Seen) (text : List ℕ) (at : Option ℕ) (lines : List (List ℕ)) → o.invert ≡ false
    → ((start : ℕ) (part : List ℕ) → EndsBefore text at part → seen.find start part ≡ []) → All (λ line. EndsBefore text at (body o.ending line)) lines → AreUnselected o seen lines
before-unselected o seen text at lines plain none before = λ k d below start.
    nothing-unselected o seen start (get_or lines k d) plain (none start (body o.ending (get_or lines k d)) (before k d below))

unchosen : (b : Bool) (x y : ℕ) → b ≡ false → (if b then x else y) ≡ y
unchosen true x y e = absurd (cc e)
unchosen false x y e = refl

-- none of them counts
count-past : (o : Options) (seen : Seen) (n start : ℕ) (xs ys : List (List ℕ)) → AreUnselected o seen xs
    → count_from o seen n (start + sum_by length xs) ys ≡ count_from o seen n start (xs ++ ys)
count-past o seen n start [] ys none = ap (λ s. count_from o seen n s ys) (add-zero start)
count-past o seen zero start (x ∷ xs) ys none = count-zero o seen (start + sum_by length (x ∷ xs)) ys ∙ sym (count-zero o seen start (x ∷ (xs ++ ys)))
count-past o seen (suc n) start (x ∷ xs) ys none =
    let here : is_selected o seen start x ≡ false = All-head (λ line. (start : ℕ) → is_selected o seen start line ≡ false) x xs none start in
    let rest = count-past o seen (suc n) (start + length x) xs ys (All-tail (λ line. (start : ℕ) → is_selected o seen start line ≡ false) x xs none) in
    let at : start + sum_by length (x ∷ xs) ≡ start + length x + sum_by length xs = omega (arith, sum_by-cons length x xs) in
    ap (λ s. count_from o seen (suc n) s ys) at ∙ rest
    ∙ sym (count-one o seen (suc n) start x (xs ++ ys) (omega arith) ∙ unchosen (is_selected o seen start x) (count_from o seen (suc n - 1) (start + length x) (xs ++ ys) + 1) (count_from o seen (suc n) (start + length x) (xs ++ ys)) here)

pub count-passed : (o : Options) (seen : Seen) (end n start : ℕ) (text passed rest : List ℕ) → lines end text ≡ lines end passed ++ lines end rest
    → AreUnselected o seen (lines end passed)
    → count_from o seen n (start + length passed) (lines end rest) ≡ count_from o seen n start (lines end text)
count-passed o seen end n start text passed rest cut none =
    ap (λ s. count_from o seen n (start + s) (lines end rest)) (sym (lines-size end passed))
    ∙ count-past o seen n start (lines end passed) (lines end rest) none ∙ ap (count_from o seen n start) (sym cut)

-- progress behind lines that are left out
abbrev past : List (List ℕ) → Progress → Progress
past [] p = p
past (x ∷ xs) p = left_out p

past-left : (xs : List (List ℕ)) (p : Progress) → past xs (left_out p) ≡ left_out p
past-left [] p = refl
past-left (x ∷ xs) p = refl

past-some : (xs : List (List ℕ)) (p : Progress) → (xs ≡ [] → ⊥) → past xs p ≡ left_out p
past-some [] p some = absurd (some refl)
past-some (x ∷ xs) p some = refl

abbrev made : Bool → List Line → Bool → Progress
made is_begun held has_gap = record { behind = 0; held = held; is_begun = is_begun; has_gap = has_gap }

or-true : (a b : Bool) → b ≡ true → (a || b) ≡ true
or-true true b e = refl
or-true false b e = e

-- where none may stand before a selected line, none is held back
pub held-none : (o : Options) (p : Progress) (line : Line) → o.before ≡ 0 → held_back o.before p line ≡ left_out p
held-none o p line none =
    let held : List Line = p.held ++ line ∷ [] in
    let some : 0 < length held = omega (arith, length-append p.held (line ∷ [])) in
    let dropped : drop (length held - o.before) held ≡ [] = drop_all (length held - o.before) held (omega (arith, none)) in
    let gap : (p.has_gap || nat_lt o.before (length held)) ≡ true = or-true p.has_gap (nat_lt o.before (length held)) (lt-ltb o.before (length held) (omega (arith, none, some))) in
    ap₂ (made p.is_begun) dropped gap

-- lines that are not selected are left out, where none stands near a selected one
rows-past : (o : Options) (seen : Seen) (name : List ℕ) (most number start : ℕ) (p : Progress) (xs ys : List (List ℕ)) → AreUnselected o seen xs → o.before ≡ 0 → p.behind ≡ 0
    → rows o seen name most (past xs p) (numbered (number + length xs) (start + sum_by length xs) ys) ≡ rows o seen name most p (numbered number start (xs ++ ys))
rows-past o seen name most number start p [] ys none before behind =
    ap₂ (λ n s. rows o seen name most p (numbered n s ys)) (add-zero number) (add-zero start)
rows-past o seen name most number start p (x ∷ xs) ys none before behind =
    let line : Line = record { number = number; start = start; bytes = x } in
    let more : List Line = numbered (number + 1) (start + length x) (xs ++ ys) in
    let here : (nat_lt 0 most && is_selected o seen start x) ≡ false =
    and-false (nat_lt 0 most) (is_selected o seen start x) (All-head (λ line. (start : ℕ) → is_selected o seen start line ≡ false) x xs none start) in
    let free : nat_lt 0 p.behind ≡ false = le-ltb 0 p.behind (omega (arith, behind)) in
    let rest = rows-past o seen name most (number + 1) (start + length x) (left_out p) xs ys (All-tail (λ line. (start : ℕ) → is_selected o seen start line ≡ false) x xs none) before refl in
    let count : number + length (x ∷ xs) ≡ number + 1 + length xs = omega arith in
    let at : start + sum_by length (x ∷ xs) ≡ start + length x + sum_by length xs = omega (arith, sum_by-cons length x xs) in
    ap₂ (λ n s. rows o seen name most (left_out p) (numbered n s ys)) count at
    ∙ ap (λ q. rows o seen name most q (numbered (number + 1 + length xs) (start + length x + sum_by length xs) ys)) (sym (past-left xs p))
    ∙ rest
    ∙ ap (λ q. rows o seen name most q more) (sym (held-none o p line before))
    ∙ sym (ap (rows o seen name most p) (numbered-line number start x (xs ++ ys)) ∙ rows-held o seen name most p line more here free)

-- either of two texts, the same
pub cond-same : (c : Bool) (a b x y : List ℕ) → a ≡ x → b ≡ y → (if c then a else b) ≡ (if c then x else y)
cond-same true a b x y e f = e
cond-same false a b x y e f = f

module _ (o : Options) (name : List ℕ) (n m start : ℕ) (bytes : List ℕ) (none : o.numbers ≡ false) where
  abbrev first : Line
  first = record { number = n; start = start; bytes = bytes }

  abbrev second : Line
  second = record { number = m; start = start; bytes = bytes }

  front-same : (mark : List ℕ) (offset : ℕ) → front o mark name n offset ≡ front o mark name m offset
  front-same mark offset =
      let with_number : ℕ → Bool → List ℕ = λ k b. (if o.names then name_field o mark name else []) ++ (if b then number_field o mark k else []) ++ (if o.offsets then number_field o mark offset else []) in
      ap (with_number n) none ∙ sym (ap (with_number m) none)

  line_row-same : (mark text : List ℕ) → line_row o mark name first text ≡ line_row o mark name second text
  line_row-same mark text = ap (λ l. l ++ text ++ tail o.ending bytes) (front-same mark start)

  match_row-same : (f : Found) → match_row o name first f ≡ match_row o name second f
  match_row-same f =
      cond-same (nat_lt f.item.start f.item.end) _ [] _ [] (ap (λ l. l ++ f.shown ++ byte_of o.ending ∷ []) (front-same (codes ":") (start + f.item.start))) refl

  match_rows-same : (founds : List Found) → flat_map (match_row o name first) founds ≡ flat_map (match_row o name second) founds
  match_rows-same [] = refl
  match_rows-same (f ∷ founds) = ap₂ (λ a b. a ++ b) (match_row-same f) (match_rows-same founds)

  selected_row-same : (founds : List Found) → selected_row o name first founds ≡ selected_row o name second founds
  selected_row-same founds =
      cond-same (puts_matches o.mode) _ _ _ _ (match_rows-same founds)
      (line_row-same (codes ":") (if o.rewrites then rewritten (body o.ending bytes) founds else body o.ending bytes))

  near_row-same : near_row o name first ≡ near_row o name second
  near_row-same = cond-same (puts_matches o.mode) [] _ [] _ refl (line_row-same (codes "-") (body o.ending bytes))

-- where no number is put out, it does not matter from which on lines are numbered
rows-unnumbered : (o : Options) (seen : Seen) (name : List ℕ) (most n m start : ℕ) (p : Progress) (ls : List (List ℕ)) → o.before ≡ 0 → o.numbers ≡ false
    → rows o seen name most p (numbered n start ls) ≡ rows o seen name most p (numbered m start ls)
unfolding rows numbered
rows-unnumbered o seen name most n m start p [] before none = refl
rows-unnumbered o seen name most n m start p (x ∷ xs) before none =
    let a : Line = record { number = n; start = start; bytes = x } in
    let b : Line = record { number = m; start = start; bytes = x } in
    let more : (most : ℕ) (q : Progress) → rows o seen name most q (numbered (n + 1) (start + length x) xs) ≡ rows o seen name most q (numbered (m + 1) (start + length x) xs) =
    λ most q. rows-unnumbered o seen name most (n + 1) (m + 1) (start + length x) q xs before none in
    cond-same (nat_lt 0 most && is_selected o seen start x) _ _ _ _
    (ap₂ (λ row rest. before_row o name p ++ row ++ rest) (selected_row-same o name n m start x none (found_at_line o seen start x)) (more (most - 1) (following o.after)))
    (cond-same (nat_lt 0 p.behind) _ _ _ _
    (ap₂ (λ row rest. row ++ rest) (near_row-same o name n m start x none) (more most (following (p.behind - 1))))
    (ap (λ q. rows o seen name most q (numbered (n + 1) (start + length x) xs)) (held-none o p a before)
    ∙ more most (left_out p)
    ∙ ap (λ q. rows o seen name most q (numbered (m + 1) (start + length x) xs)) (sym (held-none o p b before))))

lines-not_none : (end : ℕ) (text : List ℕ) → (text ≡ [] → ⊥) → lines end text ≡ [] → ⊥
lines-not_none end [] some none = some refl
lines-not_none end (b ∷ text) some none = lines-some end b text none

-- lines were passed over, of which none is selected, and counted where numbers are put out
pub rows-passed : (o : Options) (seen : Seen) (name : List ℕ) (end most number start count : ℕ) (text passed rest : List ℕ) (p : Progress)
    → lines end text ≡ lines end passed ++ lines end rest → AreUnselected o seen (lines end passed) → o.before ≡ 0 → p.behind ≡ 0 → (passed ≡ [] → ⊥)
    → count ≡ (if o.numbers then length (lines end passed) else 0)
    → rows o seen name most (left_out p) (numbered (number + count) (start + length passed) (lines end rest)) ≡ rows o seen name most p (numbered number start (lines end text))
rows-passed o seen name end most number start count text passed rest p cut none before behind some is = by_numbers o.numbers refl
  where
    counted : rows o seen name most (left_out p) (numbered (number + length (lines end passed)) (start + length passed) (lines end rest)) ≡ rows o seen name most p (numbered number start (lines end text))
    counted =
        ap₂ (λ q s. rows o seen name most q (numbered (number + length (lines end passed)) (start + s) (lines end rest)))
        (sym (past-some (lines end passed) p (lines-not_none end passed some))) (sym (lines-size end passed))
        ∙ rows-past o seen name most number start p (lines end passed) (lines end rest) none before behind
        ∙ ap (λ ls. rows o seen name most p (numbered number start ls)) (sym cut)

    by_numbers : (numbers : Bool) → o.numbers ≡ numbers
        → rows o seen name most (left_out p) (numbered (number + count) (start + length passed) (lines end rest)) ≡ rows o seen name most p (numbered number start (lines end text))
    by_numbers true e =
        let same : count ≡ length (lines end passed) = is ∙ ap (λ b. if b then length (lines end passed) else 0) e in
        ap (λ n. rows o seen name most (left_out p) (numbered (number + n) (start + length passed) (lines end rest))) same ∙ counted
    by_numbers false e = rows-unnumbered o seen name most (number + count) (number + length (lines end passed)) (start + length passed) (left_out p) (lines end rest) before e ∙ counted
