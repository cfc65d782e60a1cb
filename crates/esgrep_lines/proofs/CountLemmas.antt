-- Which lines are selected, and how many.
use Rattle.std.proofs.Common.{◌≡◌, ◌≢◌, ◌↔◌, ℕ, zero, suc, ◌+◌, ◌-◌, ◌<◌, ◌≤◌, Bool, true, false, not, ◌&&◌, List, [], ◌∷◌, length, take, refl, sym, ap, ◌∙◌, add-zero, length-take, lit≤, ne_eqb, arith}
use Rattle.std.specs.Prelude.{◌==◌, IsTrue, nat_lt, min, filter, if◌then◌else◌}
use Rattle.std.specs.Int.{from_bool}
use Rattle.std.proofs.lemmas.Bool.{lt-ltb, ltb-true, ltb-false, eqb-true}
use mathlib.Core.Bool.{beq}
use native.Mathlib.Numerals.{unary_clauses}
use Rattle.esgrep_rows.specs.declared.options.Options.{Options}
use Rattle.esgrep_rows.specs.declared.options.Mode.{Mode}
use Rattle.esgrep_rows.specs.declared.options.Mode.TheVariants.{Lines, Matches, Count, WithMatch, WithoutMatch, Quiet}
use Rattle.esgrep_rows.specs.Lines.{Line, numbered, numbered_lines, lines, byte_of}
use Rattle.esgrep_rows.specs.Found.{Found, Seen}
use Rattle.esgrep_rows.specs.Rows.{is_selected, selected_lines}
use Rattle.esgrep_lines.specs.Output.{count_from, count_of, told_count, needed, summary, summary_of}

-- whether a line with a match, or without one, is selected
pub selected-is : (m invert : Bool) (founds : List Found) → (IsTrue m ↔ (founds ≢ []))
    → not (beq m invert) ≡ (if invert then not (nat_lt 0 (length founds)) else nat_lt 0 (length founds))
selected-is true invert [] e = absurd (e.0 refl refl)
selected-is false true [] e = refl
selected-is false false [] e = refl
selected-is true invert (f ∷ fs) e = let some : nat_lt 0 (length (f ∷ fs)) ≡ true = lt-ltb 0 (length (f ∷ fs)) (omega arith) in with_match invert (nat_lt 0 (length (f ∷ fs))) some
  where
    with_match : (invert has : Bool) → has ≡ true → not (beq true invert) ≡ (if invert then not has else has)
    with_match true has e = rw e refl
    with_match false has e = rw e refl
selected-is false invert (f ∷ fs) e = let bad : false ≡ true = e.1 (λ same. cc same) in absurd (cc bad)

-- and where its matches are counted
pub found-is : (empty invert : Bool) (n : ℕ) → empty ≡ (n == 0) → beq empty invert ≡ (if invert then not (nat_lt 0 n) else nat_lt 0 n)
found-is empty invert zero is = ap (λ e. beq e invert) is ∙ by_invert invert
  where
    by_invert : (invert : Bool) → beq true invert ≡ (if invert then true else false)
    by_invert true = refl
    by_invert false = refl
found-is empty invert (suc n) is =
    let some : nat_lt 0 (suc n) ≡ true = lt-ltb 0 (suc n) (omega arith) in
    let none : empty ≡ false = is ∙ ne_eqb (suc n) 0 (λ same. absurd (omega (arith, same))) in
    ap (λ e. beq e invert) none ∙ by_invert invert ∙ sym (ap (λ b. if invert then not b else b) some)
  where
    by_invert : (invert : Bool) → beq false invert ≡ (if invert then false else true)
    by_invert true = refl
    by_invert false = refl

-- one line more
pub count-one : (o : Options) (seen : Seen) (n start : ℕ) (line : List ℕ) (lines : List (List ℕ)) → 0 < n
    → count_from o seen n start (line ∷ lines)
    ≡ (if is_selected o seen start line then count_from o seen (n - 1) (start + length line) lines + 1 else count_from o seen n (start + length line) lines)
unfolding count_from
count-one o seen zero start line lines some = absurd (omega (arith, some))
count-one o seen (suc n) start line lines some = simp unary_clauses refl

pub count-none : (o : Options) (seen : Seen) (n start : ℕ) → count_from o seen n start [] ≡ 0
unfolding count_from
count-none o seen zero start = refl
count-none o seen (suc n) start = refl

pub count-zero : (o : Options) (seen : Seen) (start : ℕ) (lines : List (List ℕ)) → count_from o seen 0 start lines ≡ 0
unfolding count_from
count-zero o seen start lines = refl

-- a test counts as one or none
pub one-at-most : (b : Bool) → from_bool b ≤ 1
one-at-most true = lit≤ tt
one-at-most false = lit≤ tt

-- a line more was searched, and counted where it is selected
pub count-step : (o : Options) (seen : Seen) (most count next start : ℕ) (line : List ℕ) (lines : List (List ℕ)) (selected : Bool)
    → selected ≡ (nat_lt count most && is_selected o seen start line) → next ≡ count + from_bool selected
    → next + count_from o seen (most - next) (start + length line) lines ≡ count + count_from o seen (most - count) start (line ∷ lines)
count-step o seen most count next start line lines selected is to = by_test (nat_lt count most) (is_selected o seen start line) refl refl
  where
    by_test : (may chosen : Bool) → nat_lt count most ≡ may → is_selected o seen start line ≡ chosen
        → next + count_from o seen (most - next) (start + length line) lines ≡ count + count_from o seen (most - count) start (line ∷ lines)
    by_test false chosen may chosen_is =
        let most_is : most ≤ count = ltb-false count most may in
        let full : most - count ≡ 0 = omega arith in
        let none : selected ≡ false = is ∙ ap (λ b. b && is_selected o seen start line) may in
        let stays : next ≡ count = to ∙ ap (λ b. count + from_bool b) none ∙ add-zero count in
        rw (stays, full, count-zero o seen (start + length line) lines, count-zero o seen start (line ∷ lines)) refl
    by_test true false may chosen_is =
        let most_is : count < most = ltb-true count most may in
        let some : 0 < most - count = omega arith in
        let none : selected ≡ false = is ∙ ap (λ b. b && is_selected o seen start line) may ∙ chosen_is in
        let stays : next ≡ count = to ∙ ap (λ b. count + from_bool b) none ∙ add-zero count in
        rw (stays, count-one o seen (most - count) start line lines some, chosen_is) refl
    by_test true true may chosen_is =
        let most_is : count < most = ltb-true count most may in
        let some : 0 < most - count = omega arith in
        let one : selected ≡ true = is ∙ ap (λ b. b && is_selected o seen start line) may ∙ chosen_is in
        let goes : next ≡ count + 1 = to ∙ ap (λ b. count + from_bool b) one in
        let fewer : most - (count + 1) ≡ most - count - 1 = omega arith in
        rw (goes, count-one o seen (most - count) start line lines some, chosen_is, fewer) (omega arith)

-- the lines of these that are selected
abbrev pub chosen : Options → Seen → List Line → List Line
chosen o seen lines = filter (λ line. is_selected o seen line.start line.bytes) lines

chosen-none : (o : Options) (seen : Seen) (n number start : ℕ) → length (take n (chosen o seen (numbered number start []))) ≡ 0
unfolding numbered
chosen-none o seen zero number start = refl
chosen-none o seen (suc n) number start = refl

chosen-more : (o : Options) (seen : Seen) (n number start : ℕ) (line : List ℕ) (lines : List (List ℕ)) (is : Bool) → is_selected o seen start line ≡ is
    → count_from o seen n (start + length line) lines ≡ length (take n (chosen o seen (numbered (number + 1) (start + length line) lines)))
    → count_from o seen (suc n) (start + length line) lines ≡ length (take (suc n) (chosen o seen (numbered (number + 1) (start + length line) lines)))
    → count_from o seen (suc n) start (line ∷ lines) ≡ length (take (suc n) (chosen o seen (numbered number start (line ∷ lines))))
unfolding numbered count_from
chosen-more o seen n number start line lines true is less same = rw (is, less) (omega arith)
chosen-more o seen n number start line lines false is less same = rw is same

-- what is counted is how many of the lines that are selected are taken
pub count-all : (o : Options) (seen : Seen) (n number start : ℕ) (lines : List (List ℕ))
    → count_from o seen n start lines ≡ length (take n (chosen o seen (numbered number start lines)))
count-all o seen n number start [] = count-none o seen n start ∙ sym (chosen-none o seen n number start)
count-all o seen zero number start (line ∷ lines) = count-zero o seen start (line ∷ lines)
count-all o seen (suc n) number start (line ∷ lines) =
    chosen-more o seen n number start line lines (is_selected o seen start line) refl
    (count-all o seen n (number + 1) (start + length line) lines) (count-all o seen (suc n) (number + 1) (start + length line) lines)

one_of : (most : ℕ) (lines : List Line) → length (take (min most 1) lines) ≡ min 1 (length (take most lines))
one_of most lines = omega (arith, length-take (min most 1) lines, length-take most lines)

-- at least one is at least one of at most one
some_of : (n : ℕ) → nat_lt 0 (min 1 n) ≡ nat_lt 0 n
some_of zero = refl
some_of (suc n) = let h : 0 < min 1 (suc n) = omega arith in let k : 0 < suc n = omega arith in lt-ltb 0 (min 1 (suc n)) h ∙ sym (lt-ltb 0 (suc n) k)

-- How many lines are counted is how many are told of.
pub told-needed : (mode : Mode) (most : ℕ) (lines : List Line) → length (take (needed mode most) lines) ≡ told_count mode (length (take most lines))
told-needed Lines most lines = refl
told-needed Matches most lines = refl
told-needed Count most lines = refl
told-needed WithMatch most lines = one_of most lines
told-needed WithoutMatch most lines = one_of most lines
told-needed Quiet most lines = one_of most lines

-- A summary tells no more than that.
pub summary-told : (o : Options) (name : List ℕ) (mode : Mode) (n : ℕ) → summary o name mode (told_count mode n) ≡ summary o name mode n
summary-told o name Lines n = refl
summary-told o name Matches n = refl
summary-told o name Count n = refl
summary-told o name WithMatch n = rw (some_of n) refl
summary-told o name WithoutMatch n = rw (some_of n) refl
summary-told o name Quiet n = refl

-- what is selected where a line may be
pub may-and : (may a b : Bool) → may ≡ true → a ≡ b → a ≡ (may && b)
may-and true a b is same = same
may-and false a b is same = cc

lines-none : (end : ℕ) → lines end [] ≡ []
unfolding lines
lines-none end = refl

-- a text is empty where that is told
pub empty-text : (rest : List ℕ) (empty : Bool) → empty ≡ (length rest == 0) → empty ≡ true → rest ≡ []
empty-text [] empty is told = refl
empty-text (b ∷ rest) empty is told = let none : length (b ∷ rest) ≡ 0 = eqb-true (length (b ∷ rest)) 0 (sym is ∙ told) in absurd (omega (arith, none))

-- no line is left, so all are counted
pub count-over_text : (o : Options) (seen : Seen) (end most count start : ℕ) (rest : List ℕ) (all : ℕ) → rest ≡ []
    → count + count_from o seen (most - count) start (lines end rest) ≡ all → count ≡ all
count-over_text o seen end most count start rest all none counted =
    let over : count_from o seen (most - count) start (lines end rest) ≡ 0 =
    ap (λ t. count_from o seen (most - count) start (lines end t)) none
    ∙ ap (count_from o seen (most - count) start) (lines-none end) ∙ count-none o seen (most - count) start in
    omega (arith, over, counted)

-- as many are counted as may be
pub count-over_most : (o : Options) (seen : Seen) (most count start : ℕ) (lines : List (List ℕ)) (all : ℕ) → most ≤ count
    → count + count_from o seen (most - count) start lines ≡ all → count ≡ all
count-over_most o seen most count start lines all full counted =
    let none : most - count ≡ 0 = omega (arith, full) in
    let over : count_from o seen (most - count) start lines ≡ 0 = ap (λ n. count_from o seen n start lines) none ∙ count-zero o seen start lines in
    omega (arith, over, counted)

-- a text's lines that are selected, as they are counted
pub count-selected : (o : Options) (seen : Seen) (text : List ℕ)
    → count_from o seen o.most 0 (lines (byte_of o.ending) text) ≡ length (selected_lines o seen text)
count-selected o seen text = count-all o seen o.most 1 0 (lines (byte_of o.ending) text)

-- and how many of them are told of
pub count-told : (o : Options) (seen : Seen) (text : List ℕ) (limit count : ℕ) → limit ≡ needed o.mode o.most
    → count ≡ count_from o seen limit 0 (lines (byte_of o.ending) text) → count ≡ count_of o seen text
count-told o seen text limit count is counted =
    counted ∙ ap (λ n. count_from o seen n 0 (lines (byte_of o.ending) text)) is
    ∙ count-all o seen (needed o.mode o.most) 1 0 (lines (byte_of o.ending) text)
    ∙ told-needed o.mode o.most (chosen o seen (numbered_lines o.ending text))

-- a summary by how many are told of
pub summary-counted : (o : Options) (seen : Seen) (name text : List ℕ) (count : ℕ) → count ≡ count_of o seen text → summary o name o.mode count ≡ summary_of o seen name text
summary-counted o seen name text count counted = ap (summary o name o.mode) counted ∙ summary-told o name o.mode (length (selected_lines o seen text))
