-- Lines that need no search.
use Rattle.std.specs.Prelude.{◌≡◌, ℕ, false, List, All}
use Rattle.esgrep_rows.specs.declared.options.Options.{Options}
use Rattle.esgrep_rows.specs.Found.{Seen}
use Rattle.esgrep_rows.specs.Rows.{is_selected}

-- none of these lines is selected, wherever it begins
abbrev pub AreUnselected : Options → Seen → List (List ℕ) → Type 0
AreUnselected o seen lines = All (λ line. (start : ℕ) → is_selected o seen start line ≡ false) lines
