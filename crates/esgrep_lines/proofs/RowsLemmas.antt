-- From the steps of a search to all rows of a text.
use Rattle.std.proofs.Common.{◌≡◌, ℕ, ◌+◌, ◌-◌, ◌<◌, ◌≤◌, Bool, true, false, List, [], ◌∷◌, ◌++◌, length, Option, Some, None, refl, sym, ap, subst, ◌∙◌, append_assoc, append-nil, add-zero, arith}
use Rattle.std.specs.Prelude.{nat_lt, if◌then◌else◌}
use Rattle.std.specs.Int.{from_bool}
use Rattle.std.proofs.lemmas.Bool.{ltb-true, ltb-false, lt-ltb, le-ltb}
use Rattle.std.proofs.Math.Seq.{take-append_seam}
use Rattle.std.proofs.KnownBytes.{Appends-nil, Appends-trans}
use Rattle.std.specs.Io.KnownBytes.{Appends, append_known}
use Rattle.esgrep_rows.specs.declared.options.Options.{Options}
use Rattle.esgrep_rows.specs.Lines.{Line, lines, numbered}
use Rattle.esgrep_rows.specs.Found.{Seen}
use Rattle.esgrep_rows.specs.Rows.{Progress, rows, held_back}
use Rattle.esgrep_lines.specs.Putting.{AppendsFront, IsBeginning}
use Rattle.esgrep_lines.proofs.StepLemmas.{rows-held}

pub rows-none : (o : Options) (seen : Seen) (name : List ℕ) (most : ℕ) (p : Progress) → rows o seen name most p [] ≡ []
unfolding rows
rows-none o seen name most p = refl

-- where no line may be selected any more, and none behind one is to be put out, nothing is
pub rows-over : (o : Options) (seen : Seen) (name : List ℕ) (p : Progress) (lines : List Line) → p.behind ≡ 0 → rows o seen name 0 p lines ≡ []
rows-over o seen name p [] none = rows-none o seen name 0 p
rows-over o seen name p (line ∷ lines) none =
    let behind : nat_lt 0 p.behind ≡ false = le-ltb 0 p.behind (omega (arith, none)) in
    rows-held o seen name 0 p line lines refl behind ∙ rows-over o seen name (held_back o.before p line) lines refl

pub numbered-none : (number start : ℕ) → numbered number start [] ≡ []
unfolding numbered
numbered-none number start = refl

pub numbered-line : (number start : ℕ) (line : List ℕ) (lines : List (List ℕ))
    → numbered number start (line ∷ lines) ≡ record { number = number; start = start; bytes = line } ∷ numbered (number + 1) (start + length line) lines
unfolding numbered
numbered-line number start line lines = refl

-- Of all that is put out this much was, and the rows of the lines that are left are the rest.
pub record IsPut (o : Options) (seen : Seen) (name : List ℕ) (old new : Option (List ℕ)) (most : ℕ) (p : Progress) (left : List Line) (all : List ℕ) : Type 0 where
  pub done : List ℕ
  pub appended : Appends old new done
  pub whole : done ++ rows o seen name most p left ≡ all

pub IsPut-begin : (o : Options) (seen : Seen) (name : List ℕ) (a : Option (List ℕ)) (most : ℕ) (p : Progress) (left : List Line)
    → IsPut o seen name a a most p left (rows o seen name most p left)
IsPut-begin o seen name a most p left = record { done = []; appended = Appends-nil a; whole = refl }

-- a row was put out
pub IsPut-step : (o : Options) (seen : Seen) (name : List ℕ) (a b c : Option (List ℕ)) (most less : ℕ) (p q : Progress) (left more : List Line) (row all : List ℕ)
    → IsPut o seen name a b most p left all → row ++ rows o seen name less q more ≡ rows o seen name most p left → Appends b c row
    → IsPut o seen name a c less q more all
IsPut-step o seen name a b c most less p q left more row all put step now = record {
  done = put.done ++ row;
  appended = Appends-trans a b c put.done row put.appended now;
  whole = append_assoc put.done row (rows o seen name less q more) ∙ ap (λ l. put.done ++ l) step ∙ put.whole;
}

-- other lines are left, whose rows are the same
pub IsPut-left : (o : Options) (seen : Seen) (name : List ℕ) (a b : Option (List ℕ)) (most : ℕ) (p q : Progress) (left more : List Line) (all : List ℕ)
    → rows o seen name most q more ≡ rows o seen name most p left → IsPut o seen name a b most p left all → IsPut o seen name a b most q more all
IsPut-left o seen name a b most p q left more all same put = record { done = put.done; appended = put.appended; whole = ap (λ l. put.done ++ l) same ∙ put.whole }

-- a beginning of all was put out
pub IsPut-front : (o : Options) (seen : Seen) (name : List ℕ) (a b : Option (List ℕ)) (most : ℕ) (p : Progress) (left : List Line) (all : List ℕ)
    → IsPut o seen name a b most p left all → AppendsFront a b all
IsPut-front o seen name a b most p left all put =
    (length put.done, rw (← put.whole, take-append_seam put.done (rows o seen name most p left)) put.appended)

-- nothing is left, so all was put out
pub IsPut-all : (o : Options) (seen : Seen) (name : List ℕ) (a b : Option (List ℕ)) (most : ℕ) (p : Progress) (left : List Line) (all : List ℕ)
    → IsPut o seen name a b most p left all → rows o seen name most p left ≡ [] → Appends a b all
IsPut-all o seen name a b most p left all put none =
    subst (Appends a b) (sym (append-nil put.done) ∙ ap (λ l. put.done ++ l) (sym none) ∙ put.whole) put.appended

-- a beginning of what was put out before is one of all
beginning-behind : (w a b : Option (List ℕ)) (done row rest all : List ℕ) → Appends a b done → done ++ (row ++ rest) ≡ all
    → IsBeginning w (append_known b row) → IsBeginning w (append_known a all)
beginning-behind None None b done row rest all now whole front = tt
beginning-behind None (Some xs) b done row rest all now whole front = tt
beginning-behind (Some w) None b done row rest all now whole front = tt
beginning-behind (Some w) (Some xs) None done row rest all now whole front = absurd now
beginning-behind (Some w) (Some xs) (Some ys) done row rest all now whole front = (
  front.0 ++ rest,
  sym (append_assoc w front.0 rest) ∙ ap (λ l. l ++ rest) (front.1 ∙ ap (λ l. l ++ row) now)
      ∙ append_assoc (xs ++ done) row rest ∙ append_assoc xs done (row ++ rest) ∙ ap (λ l. xs ++ l) whole,
)

-- the row of the next line was put out in part
pub IsPut-unwritten : (o : Options) (seen : Seen) (name : List ℕ) (w a b : Option (List ℕ)) (most less : ℕ) (p q : Progress) (left more : List Line) (row all : List ℕ)
    → IsPut o seen name a b most p left all → row ++ rows o seen name less q more ≡ rows o seen name most p left
    → IsBeginning w (append_known b row) → IsBeginning w (append_known a all)
IsPut-unwritten o seen name w a b most less p q left more row all put step front =
    beginning-behind w a b put.done row (rows o seen name less q more) all put.appended (ap (λ l. put.done ++ l) step ∙ put.whole) front

-- so many lines may still be selected, and whether one may
pub may-select : (most count : ℕ) (may : Bool) → may ≡ nat_lt count most → nat_lt 0 (most - count) ≡ may
may-select most count true is = lt-ltb 0 (most - count) (let h : count < most = ltb-true count most (sym is) in omega arith)
may-select most count false is = le-ltb 0 (most - count) (let h = ltb-false count most (sym is) in omega (arith, h))

-- and how many behind a line
fewer-left : (most count next : ℕ) (selected : Bool) → next ≡ count + from_bool selected
    → (if selected then most - count - 1 else most - count) ≡ most - next
fewer-left most count next true is = let e : next ≡ count + 1 = is in omega (arith, e)
fewer-left most count next false is = let e : next ≡ count = is ∙ add-zero count in omega (arith, e)

-- the row of the next line stands before those of the lines behind it
pub row-step : (o : Options) (seen : Seen) (name : List ℕ) (end most count next number start : ℕ) (rest first behind row old : List ℕ) (selected : Bool) (p q : Progress)
    → lines end rest ≡ first ∷ lines end behind → old ≡ [] → next ≡ count + from_bool selected
    → row ++ rows o seen name (if selected then most - count - 1 else most - count) q (numbered (number + 1) (start + length first) (lines end behind))
    ≡ old ++ rows o seen name (most - count) p (record { number = number; start = start; bytes = first } ∷ numbered (number + 1) (start + length first) (lines end behind))
    → row ++ rows o seen name (most - next) q (numbered (number + 1) (start + length first) (lines end behind))
    ≡ rows o seen name (most - count) p (numbered number start (lines end rest))
row-step o seen name end most count next number start rest first behind row old selected p q cut none to step =
    let more : List Line = numbered (number + 1) (start + length first) (lines end behind) in
    let left : numbered number start (lines end rest) ≡ record { number = number; start = start; bytes = first } ∷ more =
    ap (numbered number start) cut ∙ numbered-line number start first (lines end behind) in
    ap (λ n. row ++ rows o seen name n q more) (sym (fewer-left most count next selected to)) ∙ step
    ∙ ap (λ l. l ++ rows o seen name (most - count) p (record { number = number; start = start; bytes = first } ∷ more)) none
    ∙ ap (rows o seen name (most - count) p) (sym left)

lines-none : (end : ℕ) → lines end [] ≡ []
unfolding lines
lines-none end = refl

-- no line is left
pub rows-over_text : (o : Options) (seen : Seen) (name : List ℕ) (end most number start : ℕ) (rest : List ℕ) (p : Progress) → rest ≡ []
    → rows o seen name most p (numbered number start (lines end rest)) ≡ []
rows-over_text o seen name end most number start rest p none =
    ap (λ t. rows o seen name most p (numbered number start (lines end t))) none
    ∙ ap (λ ls. rows o seen name most p (numbered number start ls)) (lines-none end)
    ∙ ap (rows o seen name most p) (numbered-none number start) ∙ rows-none o seen name most p

-- as many are selected as may be, and none behind one is to be put out
pub rows-over_most : (o : Options) (seen : Seen) (name : List ℕ) (most count : ℕ) (p : Progress) (left : List Line) → most ≤ count → p.behind ≡ 0
    → rows o seen name (most - count) p left ≡ []
rows-over_most o seen name most count p left full none =
    let no_more : most - count ≡ 0 = omega (arith, full) in
    ap (λ n. rows o seen name n p left) no_more ∙ rows-over o seen name p left none
