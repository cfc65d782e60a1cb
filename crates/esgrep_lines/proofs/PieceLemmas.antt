-- A text and its pieces.
use Rattle.std.proofs.Common.{◌≡◌, ℕ, suc, ◌+◌, ◌-◌, ◌<◌, ◌≤◌, Bool, true, false, not, ◌&&◌, List, [], ◌∷◌, ◌++◌, length, take, drop, get_or, refl, sym, ap, ap₂, ◌∙◌, arith, eqb, length-append, length-take}
use Rattle.std.specs.Prelude.{nat_lt, flat_map, filter, codes, if◌then◌else◌}
use Rattle.std.proofs.lemmas.Bool.{lt-ltb, le-ltb, ltb-true}
use Rattle.std.proofs.lemmas.List.Elements.{filter-append}
use Rattle.std.proofs.lemmas.List.{get_or_append_left}
use Rattle.std.proofs.lemmas.Grind.{flat_map-append}
use Rattle.std.proofs.Math.Seq.{take-append_seam, drop-append_seam}
use Rattle.esgrep_rows.specs.declared.options.Options.{Options}
use Rattle.esgrep_rows.specs.Lines.{Line, lines, numbered, body, tail, byte_of, is_last}
use Rattle.esgrep_rows.specs.Found.{Found, Find, Seen, but_for, rewritten}
use Rattle.esgrep_rows.specs.Views.{puts_matches}
use Rattle.esgrep_rows.specs.Rows.{Progress, rows, beginning, following, left_out, is_selected, selected_lines, found_at_line, before_row, selected_row, near_row, match_row, front, marked, name_field, number_field}
use Rattle.esgrep_rows.proofs.CuttingLemmas.{lines-cut, lines-few}
use Rattle.esgrep_lines.specs.Output.{all_rows}
use Rattle.esgrep_lines.specs.Pieces.{IsAnywhere, KnowsNoPlace}
use Rattle.esgrep_lines.proofs.PassingLemmas.{held-none, and-false, cond-same}
use Rattle.esgrep_lines.proofs.RowsLemmas.{rows-none, numbered-none, numbered-line}
use Rattle.esgrep_lines.proofs.StepLemmas.{rows-selected, rows-held}

-- a text whose first piece ends where a line does has the lines of both
pub lines-joined : (end : ℕ) (front rest : List ℕ) → is_last end front ≡ true → lines end (front ++ rest) ≡ lines end front ++ lines end rest
lines-joined end front rest ends = by_length (nat_lt 0 (length front)) refl ends
  where
    by_length : (some : Bool) → nat_lt 0 (length front) ≡ some → (some && eqb (get_or front (length front - 1) 0) end) ≡ true
        → lines end (front ++ rest) ≡ lines end front ++ lines end rest
    by_length false e is = absurd (cc is)
    by_length true e is =
        let k : ℕ = length front - 1 in
        let some : 0 < length front = ltb-true 0 (length front) e in
        let size : suc k ≡ length front = omega (arith, some) in
        let below : k < length (front ++ rest) = omega (arith, some, length-append front rest) in
        let here : get_or (front ++ rest) k 0 ≡ get_or front k 0 = get_or_append_left front rest 0 k (omega (arith, some)) in
        lines-cut end (front ++ rest) k below (ap (λ b. eqb b end) here ∙ is)
        ∙ ap₂ (λ a b. lines end a ++ lines end b) (ap (λ n. take n (front ++ rest)) size ∙ take-append_seam front rest) (ap (λ n. drop n (front ++ rest)) size ∙ drop-append_seam front rest)

-- Where nothing is given up, and what is found in a line is the same anywhere.
module _ (o : Options) (find : Find) (anywhere : IsAnywhere find) where
  abbrev seen : Seen
  seen = but_for [] find

  -- a line as if it stood first
  abbrev first : List ℕ → Line
  first line = record { number = 0; start = 0; bytes = line }

  abbrev selects : List ℕ → Bool
  selects line = is_selected o seen 0 line

  found-same : (start : ℕ) (line : List ℕ) → found_at_line o seen start line ≡ found_at_line o seen 0 line
  found-same start line = anywhere start 0 (body o.ending line)

  selected-same : (start : ℕ) (line : List ℕ) → is_selected o seen start line ≡ selects line
  selected-same start line = ap (λ (founds : List Found). let has = nat_lt 0 (length founds) in if o.invert then not has else has) (found-same start line)

  -- so many lines are selected as in both pieces
  abbrev chosen : List Line → List Line
  chosen ls = filter (λ line. is_selected o seen line.start line.bytes) ls

  chosen-count : (number start : ℕ) (ls : List (List ℕ)) → length (chosen (numbered number start ls)) ≡ length (filter selects ls)
  unfolding numbered
  chosen-count number start [] = refl
  chosen-count number start (x ∷ xs) = by_test (selects x) refl (chosen-count (number + 1) (start + length x) xs)
    where
      by_test : (t : Bool) → selects x ≡ t → length (chosen (numbered (number + 1) (start + length x) xs)) ≡ length (filter selects xs)
          → length (chosen (record { number = number; start = start; bytes = x } ∷ numbered (number + 1) (start + length x) xs)) ≡ length (filter selects (x ∷ xs))
      by_test true e more = rw (selected-same start x, e) (ap suc more)
      by_test false e more = rw (selected-same start x, e) more

  few : (ls : List (List ℕ)) → length (filter selects ls) ≤ length ls
  few [] = omega arith
  few (x ∷ xs) = by_test (selects x) refl (few xs)
    where
      by_test : (t : Bool) → selects x ≡ t → length (filter selects xs) ≤ length xs → length (filter selects (x ∷ xs)) ≤ length (x ∷ xs)
      by_test true e less = rw e (omega (arith, less))
      by_test false e less = rw e (omega (arith, less))

  count-of : (text : List ℕ) → length text ≤ o.most → length (selected_lines o seen text) ≡ length (filter selects (lines (byte_of o.ending) text))
  count-of text room =
      let ls = lines (byte_of o.ending) text in
      let all = chosen-count 1 0 ls in
      omega (arith, length-take o.most (chosen (numbered 1 0 ls)), all, few ls, lines-few (byte_of o.ending) text, room)

  pub count-pieces : (text other : List ℕ) → is_last (byte_of o.ending) text ≡ true → length text + length other ≤ o.most
      → length (selected_lines o seen (text ++ other)) ≡ length (selected_lines o seen text) + length (selected_lines o seen other)
  count-pieces text other ends room =
      let end = byte_of o.ending in
      let whole = count-of (text ++ other) (omega (arith, room, length-append text other)) in
      let joined : length (filter selects (lines end (text ++ other))) ≡ length (filter selects (lines end text)) + length (filter selects (lines end other)) =
      ap (λ ls. length (filter selects ls)) (lines-joined end text other ends) ∙ ap length (filter-append selects (lines end text) (lines end other))
      ∙ length-append (filter selects (lines end text)) (filter selects (lines end other)) in
      omega (arith, whole, joined, count-of text (omega (arith, room)), count-of other (omega (arith, room)))

  module _ (name : List ℕ) (plain : KnowsNoPlace o) where
    front-same : (mark : List ℕ) (n start m other : ℕ) → front o mark name n start ≡ front o mark name m other
    front-same mark n start m other =
        let with_both : ℕ → ℕ → Bool → Bool → List ℕ = λ k s b c. (if o.names then name_field o mark name else []) ++ (if b then number_field o mark k else []) ++ (if c then number_field o mark s else []) in
        ap₂ (with_both n start) plain.3 plain.4 ∙ sym (ap₂ (with_both m other) plain.3 plain.4)

    module _ (number start : ℕ) (bytes : List ℕ) where
      abbrev here : Line
      here = record { number = number; start = start; bytes = bytes }

      match_rows-same : (founds : List Found) → flat_map (match_row o name here) founds ≡ flat_map (match_row o name (first bytes)) founds
      match_rows-same [] = refl
      match_rows-same (f ∷ founds) =
          ap₂ ◌++◌ (cond-same (nat_lt f.item.start f.item.end) _ [] _ []
          (ap (λ l. l ++ f.shown ++ byte_of o.ending ∷ []) (front-same (codes ":") number (start + f.item.start) 0 (0 + f.item.start))) refl) (match_rows-same founds)

      row-same : (founds : List Found) → selected_row o name here founds ≡ selected_row o name (first bytes) founds
      row-same founds =
          cond-same (puts_matches o.mode) _ _ _ _ (match_rows-same founds)
          (ap (λ l. l ++ (if o.rewrites then rewritten (body o.ending bytes) founds else body o.ending bytes) ++ tail o.ending bytes) (front-same (codes ":") number start 0 0))

    -- what is put out for one line
    row_of : List ℕ → List ℕ
    row_of line = if selects line then selected_row o name (first line) (found_at_line o seen 0 line) else []

    -- rows of lines are those of each
    rows-each : (most number start : ℕ) (p : Progress) (ls : List (List ℕ)) → p.behind ≡ 0 → p.held ≡ [] → length ls ≤ most
        → rows o seen name most p (numbered number start ls) ≡ flat_map row_of ls
    unfolding row_of
    rows-each most number start p [] behind held room = ap (rows o seen name most p) (numbered-none number start) ∙ rows-none o seen name most p
    rows-each most number start p (x ∷ xs) behind held room =
        ap (rows o seen name most p) (numbered-line number start x xs)
        ∙ by_test (selects x) refl (λ less q b h fits. rows-each less (number + 1) (start + length x) q xs b h fits)
      where
        more : List Line
        more = numbered (number + 1) (start + length x) xs

        by_test : (t : Bool) → selects x ≡ t → ((less : ℕ) (q : Progress) → q.behind ≡ 0 → q.held ≡ [] → length xs ≤ less → rows o seen name less q more ≡ flat_map row_of xs)
            → rows o seen name most p (here number start x ∷ more) ≡ flat_map row_of (x ∷ xs)
        by_test true e each =
            let none : before_row o name p ≡ [] =
            ap₂ (λ (g : Bool) (held : List Line). (if g && p.is_begun && p.has_gap then marked o (codes "--") ++ codes "\n" else []) ++ flat_map (near_row o name) held) plain.2 held in
            rows-selected o seen name most p (here number start x) more (lt-ltb 0 most (omega (arith, room))) (selected-same start x ∙ e)
            ∙ ap₂ (λ front rest. front ++ selected_row o name (here number start x) (found_at_line o seen start x) ++ rest) none
            (each (most - 1) (following o.after) plain.1 refl (omega (arith, room)))
            ∙ ap (λ row. row ++ flat_map row_of xs) (row-same number start x (found_at_line o seen start x) ∙ ap (selected_row o name (first x)) (found-same start x)
            ∙ sym (ap (λ (b : Bool). if b then selected_row o name (first x) (found_at_line o seen 0 x) else []) e))
        by_test false e each =
            rows-held o seen name most p (here number start x) more (and-false (nat_lt 0 most) (is_selected o seen start x) (selected-same start x ∙ e)) (le-ltb 0 p.behind (omega (arith, behind)))
            ∙ ap (λ q. rows o seen name most q more) (held-none o p (here number start x) plain.0)
            ∙ each most (left_out p) refl refl (omega (arith, room))
            ∙ ap (λ row. row ++ flat_map row_of xs) (sym (ap (λ (b : Bool). if b then selected_row o name (first x) (found_at_line o seen 0 x) else []) e))

    rows-all : (text : List ℕ) → length text ≤ o.most → all_rows o seen name text ≡ flat_map row_of (lines (byte_of o.ending) text)
    rows-all text room = rows-each o.most 1 0 beginning (lines (byte_of o.ending) text) refl refl (omega (arith, lines-few (byte_of o.ending) text, room))

    pub rows-pieces : (text other : List ℕ) → is_last (byte_of o.ending) text ≡ true → length text + length other ≤ o.most
        → all_rows o seen name (text ++ other) ≡ all_rows o seen name text ++ all_rows o seen name other
    rows-pieces text other ends room =
        rows-all (text ++ other) (omega (arith, room, length-append text other))
        ∙ ap (flat_map row_of) (lines-joined (byte_of o.ending) text other ends)
        ∙ flat_map-append row_of (lines (byte_of o.ending) text) (lines (byte_of o.ending) other)
        ∙ sym (ap₂ ◌++◌ (rows-all text (omega (arith, room))) (rows-all other (omega (arith, room))))
