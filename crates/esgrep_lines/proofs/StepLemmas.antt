-- From what is put out for one line to the rows of the lines from it on.
use Rattle.std.proofs.Common.{◌≡◌, ℕ, ◌-◌, Bool, true, false, ◌&&◌, List, ◌∷◌, ◌++◌, refl, sym, ◌∙◌, append_assoc}
use Rattle.std.specs.Prelude.{nat_lt}
use Rattle.esgrep_rows.specs.declared.options.Options.{Options}
use Rattle.esgrep_rows.specs.Lines.{Line}
use Rattle.esgrep_rows.specs.Found.{Seen}
use Rattle.esgrep_rows.specs.Rows.{Progress, rows, is_selected, found_at_line, before_row, selected_row, near_row, following, held_back}

module _ (o : Options) (seen : Seen) (name : List ℕ) where
  pub rows-selected : (most : ℕ) (p : Progress) (line : Line) (more : List Line) → nat_lt 0 most ≡ true → is_selected o seen line.start line.bytes ≡ true
      → rows o seen name most p (line ∷ more)
      ≡ before_row o name p ++ selected_row o name line (found_at_line o seen line.start line.bytes) ++ rows o seen name (most - 1) (following o.after) more
  unfolding rows
  rows-selected most p line more some is = rw (some, is) refl

  rows-behind : (most : ℕ) (p : Progress) (line : Line) (more : List Line) → (nat_lt 0 most && is_selected o seen line.start line.bytes) ≡ false → nat_lt 0 p.behind ≡ true
      → rows o seen name most p (line ∷ more) ≡ near_row o name line ++ rows o seen name most (following (p.behind - 1)) more
  unfolding rows
  rows-behind most p line more none behind = rw (none, behind) refl

  pub rows-held : (most : ℕ) (p : Progress) (line : Line) (more : List Line) → (nat_lt 0 most && is_selected o seen line.start line.bytes) ≡ false → nat_lt 0 p.behind ≡ false
      → rows o seen name most p (line ∷ more) ≡ rows o seen name most (held_back o.before p line) more
  unfolding rows
  rows-held most p line more none behind = rw (none, behind) refl

  -- a selected line was put out
  pub step-selected : (most : ℕ) (p q : Progress) (line : Line) (more : List Line) (old mid new : List ℕ) → nat_lt 0 most ≡ true → is_selected o seen line.start line.bytes ≡ true
      → mid ≡ old ++ before_row o name p → new ≡ mid ++ selected_row o name line (found_at_line o seen line.start line.bytes) → q ≡ following o.after
      → new ++ rows o seen name (most - 1) q more ≡ old ++ rows o seen name most p (line ∷ more)
  step-selected most p q line more old mid new some is before after next =
      rw (after, before, next, rows-selected most p line more some is) (simp append_assoc)

  -- a line behind a selected one was put out
  pub step-behind : (most : ℕ) (p q : Progress) (line : Line) (more : List Line) (old new : List ℕ) → (nat_lt 0 most && is_selected o seen line.start line.bytes) ≡ false
      → nat_lt 0 p.behind ≡ true → new ≡ old ++ near_row o name line → q ≡ following (p.behind - 1)
      → new ++ rows o seen name most q more ≡ old ++ rows o seen name most p (line ∷ more)
  step-behind most p q line more old new none behind put next = rw (put, next, rows-behind most p line more none behind) (simp append_assoc)

  -- a line was held back
  pub step-held : (most : ℕ) (p q : Progress) (line : Line) (more : List Line) (old : List ℕ) → (nat_lt 0 most && is_selected o seen line.start line.bytes) ≡ false
      → nat_lt 0 p.behind ≡ false → q ≡ held_back o.before p line
      → old ++ rows o seen name most q more ≡ old ++ rows o seen name most p (line ∷ more)
  step-held most p q line more old none behind next = rw (next, rows-held most p line more none behind) refl

-- a line that may not be selected, and one that is not
pub not-may : (a b may : Bool) → a ≡ may → may ≡ false → (a && b) ≡ false
not-may a b may e f = rw (e, f) refl

pub not-is : (a b is : Bool) → is ≡ b → is ≡ false → (a && b) ≡ false
not-is true b is e f = sym e ∙ f
not-is false b is e f = refl
