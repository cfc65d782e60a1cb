-- Lines whose search was given up: which they are, and that they are not selected.
use Rattle.std.proofs.Common.{◌≡◌, ℕ, ◌+◌, ◌<◌, ◌≤◌, Bool, true, false, ◌||◌, ◌&&◌, not, List, [], ◌∷◌, ◌++◌, length, get_or, sum_by, refl, sym, ap, subst, ◌∙◌, inl, inr, append_assoc, add-zero, ne_eqb, eq-eqb, arith, Result, Ok, Err, IfOk}
use Rattle.std.specs.Prelude.{◌==◌, All, nat_lt, if◌then◌else◌}
use Rattle.std.proofs.lemmas.List.Folds.{list_any_none, list_any_at, list_any-append}
use Rattle.std.proofs.lemmas.List.Elements.{All-push, All-nil}
use Rattle.std.proofs.lemmas.List.Sums.{sum_by-append, sum_by-cons}
use Rattle.regress_front_core.specs.declared.error.Error.{Error}
use Rattle.esgrep_rows.specs.declared.ending.Ending.{Ending}
use Rattle.esgrep_rows.specs.declared.options.Options.{Options}
use Rattle.esgrep_rows.specs.Lines.{lines, body, byte_of}
use Rattle.esgrep_rows.specs.Found.{Found, Seen, is_among}
use Rattle.esgrep_rows.specs.Rows.{is_selected, found_at_line}
use Rattle.esgrep_rows.proofs.CuttingLemmas.{lines-size}
use Rattle.esgrep_lines.specs.GivenUp.{IsBehind, LineBegins, AreGivenUp, Notes, TellsAt, TellsBefore}

-- of offsets before another none is that
pub among-none : (starts : List ℕ) (at : ℕ) → All (λ s. s < at) starts → is_among starts at ≡ false
among-none starts at low =
    list_any_none (λ s. s == at) starts (λ k d below. ne_eqb (get_or starts k d) at (λ same. let h = low k d below in absurd (omega (arith, h, same))))

or-true : (a b : Bool) → b ≡ true → (a || b) ≡ true
or-true true b e = refl
or-true false b e = e

or-false : (a b : Bool) → b ≡ false → (a || b) ≡ a
or-false true b e = refl
or-false false b e = e

-- the last of some is one of them
pub among-last : (starts : List ℕ) (at : ℕ) → is_among (starts ++ at ∷ []) at ≡ true
among-last starts at =
    list_any-append (λ s. s == at) starts (at ∷ [])
    ∙ or-true (is_among starts at) (is_among (at ∷ []) at) (list_any_at (λ s. s == at) (at ∷ []) 0 at (omega arith) (eq-eqb at at refl))

-- and the others are as they were
pub among-before : (starts : List ℕ) (last at : ℕ) → at < last → is_among (starts ++ last ∷ []) at ≡ is_among starts at
among-before starts last at less =
    let none : is_among (last ∷ []) at ≡ false =
    list_any_none (λ s. s == at) (last ∷ []) (All-push (λ s. (s == at) ≡ false) [] last (All-nil (λ s. (s == at) ≡ false)) (ne_eqb last at (λ same. absurd (omega (arith, less, same))))) in
    list_any-append (λ s. s == at) starts (last ∷ []) ∙ or-false (is_among starts at) (is_among (last ∷ []) at) none

-- a line that was searched is selected by its matches
pub searched-is : (o : Options) (seen : Seen) (starts : List ℕ) (at : ℕ) (line : List ℕ) → All (λ s. s < at) starts → TellsAt seen starts at → (founds : List Found)
    → found_at_line o seen at line ≡ founds
    → is_selected o seen at line ≡ (if o.invert then not (nat_lt 0 (length founds)) else nat_lt 0 (length founds))
searched-is o seen starts at line low tells founds is =
    ap (λ (given : Bool). not given && (if o.invert then not (nat_lt 0 (length (found_at_line o seen at line))) else nat_lt 0 (length (found_at_line o seen at line)))) (tells ∙ among-none starts at low)
    ∙ ap (λ (fs : List Found). if o.invert then not (nat_lt 0 (length fs)) else nat_lt 0 (length fs)) is

-- one whose search was given up is not
pub given-is : (o : Options) (seen : Seen) (starts : List ℕ) (at : ℕ) (line : List ℕ) → TellsAt seen (starts ++ at ∷ []) at → is_selected o seen at line ≡ false
given-is o seen starts at line tells =
    ap (λ (given : Bool). not given && (if o.invert then not (nat_lt 0 (length (found_at_line o seen at line))) else nat_lt 0 (length (found_at_line o seen at line)))) (tells ∙ among-last starts at)

-- so it is where a search was given up or memory was refused
pub given-selected : (r : Result Bool Error) (o : Options) (seen : Seen) (old new : List ℕ) (at : ℕ) (line : List ℕ)
    → IfOk r (λ selected. (selected ≡ false) × (new ≡ old ++ at ∷ [])) → TellsAt seen new at → IfOk r (λ selected. selected ≡ is_selected o seen at line)
given-selected (Ok selected) o seen old new at line noted tells =
    noted.0 ∙ sym (given-is o seen old at line (subst (λ starts. TellsAt seen starts at) noted.1 tells))
given-selected (Err e) o seen old new at line noted tells = tt

-- what is noted lies before what follows the line
pub noted-low : (MayGiveUp : Type 0) (at bound : ℕ) (old new : List ℕ) → at < bound → All (λ s. s < at) old → Notes MayGiveUp at old new → All (λ s. s < bound) new
noted-low MayGiveUp at bound old new less low noted =
    let before : All (λ s. s < bound) old = λ k d below. (let h = low k d below in omega (arith, h, less)) in
    elim noted [
      | inl same ↦ subst (All (λ s. s < bound)) (sym same) before
      | inr more ↦ subst (All (λ s. s < bound)) (sym more.0) (All-push (λ s. s < bound) old at before less)
    ]

-- what a search tells of the lines before, it told before this line
pub noted-before : (MayGiveUp : Type 0) (seen : Seen) (at bound : ℕ) (old new : List ℕ) → at ≤ bound → Notes MayGiveUp at old new → TellsBefore seen new bound → TellsBefore seen old at
noted-before MayGiveUp seen at bound old new within noted tells = λ k below. tells k (omega (arith, below, within)) ∙ (elim noted [
  | inl same ↦ ap (λ starts. is_among starts k) same
  | inr more ↦ ap (λ starts. is_among starts k) more.0 ∙ among-before old at k below
])

-- the search of each line that is noted may be given up
pub noted-given : (GivesUp : List ℕ → Type 0) (ending : Ending) (text : List ℕ) (at : ℕ) (line old new : List ℕ) → AreGivenUp GivesUp ending text old
    → LineBegins ending text at line → Notes (GivesUp (body ending line)) at old new → AreGivenUp GivesUp ending text new
noted-given GivesUp ending text at line old new given begins noted = elim noted [
  | inl same ↦ subst (AreGivenUp GivesUp ending text) (sym same) given
  | inr more ↦ subst (AreGivenUp GivesUp ending text) (sym more.0)
      (All-push (λ at. (line : List ℕ) × LineBegins ending text at line × GivesUp (body ending line)) old at given (line, begins, more.1))
]

-- before the first line
pub behind-none : (ending : Ending) (text : List ℕ) → IsBehind ending text 0 text
behind-none ending text = ([], refl, refl)

-- the next line begins where the others end
pub line-begins : (ending : Ending) (text rest line behind : List ℕ) (at : ℕ) → IsBehind ending text at rest
    → lines (byte_of ending) rest ≡ line ∷ lines (byte_of ending) behind → LineBegins ending text at line
line-begins ending text rest line behind at is cut =
    (is.0, lines (byte_of ending) behind, is.1 ∙ ap (λ ls. is.0 ++ ls) cut, is.2)

-- and other lines follow it
pub behind-line : (ending : Ending) (text rest line behind : List ℕ) (at : ℕ) → IsBehind ending text at rest
    → lines (byte_of ending) rest ≡ line ∷ lines (byte_of ending) behind → IsBehind ending text (at + length line) behind
behind-line ending text rest line behind at is cut = (
  is.0 ++ line ∷ [],
  is.1 ∙ ap (λ ls. is.0 ++ ls) cut ∙ sym (append_assoc is.0 (line ∷ []) (lines (byte_of ending) behind)),
  (let size : sum_by length (line ∷ []) ≡ length line = sum_by-cons length line [] ∙ add-zero (length line) in
      omega (arith, sum_by-append length is.0 (line ∷ []), size, is.2)),
)

-- and so do those behind lines that were passed over
pub behind-passed : (ending : Ending) (text rest further : List ℕ) (at count : ℕ) → IsBehind ending text at rest → IsBehind ending rest count further
    → IsBehind ending text (at + count) further
behind-passed ending text rest further at count is passed = (
  is.0 ++ passed.0,
  is.1 ∙ ap (λ ls. is.0 ++ ls) passed.1 ∙ sym (append_assoc is.0 passed.0 (lines (byte_of ending) further)),
  omega (arith, sum_by-append length is.0 passed.0, is.2, passed.2),
)

-- lines that were cut off stand before the others
pub behind-cut : (ending : Ending) (text passed further : List ℕ) → lines (byte_of ending) text ≡ lines (byte_of ending) passed ++ lines (byte_of ending) further
    → IsBehind ending text (length passed) further
behind-cut ending text passed further cut = (lines (byte_of ending) passed, cut, lines-size (byte_of ending) passed)
