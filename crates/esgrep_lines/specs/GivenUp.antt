-- Lines whose search was given up.
use Rattle.std.specs.Prelude.{◌≡◌, ◌<◌, ◌⊎◌, ℕ, List, [], ◌∷◌, ◌++◌, length, sum_by, All}
use Rattle.esgrep_rows.specs.declared.ending.Ending.{Ending}
use Rattle.esgrep_rows.specs.Lines.{lines, body, byte_of}
use Rattle.esgrep_rows.specs.Found.{Seen, is_among}

-- behind these lines, of so many bytes, a text has the lines of this rest
abbrev pub IsBehind : Ending → List ℕ → ℕ → List ℕ → Type 0
IsBehind ending text at rest = (front : List (List ℕ)) × (lines (byte_of ending) text ≡ front ++ lines (byte_of ending) rest) × (sum_by length front ≡ at)

-- a line of a text begins at an offset
abbrev pub LineBegins : Ending → List ℕ → ℕ → List ℕ → Type 0
LineBegins ending text at line =
    (front : List (List ℕ)) × (rest : List (List ℕ)) × (lines (byte_of ending) text ≡ front ++ line ∷ rest) × (sum_by length front ≡ at)

-- Each of these offsets is that of a line of a text, and the search of what is searched of that line may be given up.
abbrev pub AreGivenUp : (List ℕ → Type 0) → Ending → List ℕ → List ℕ → Type 0
AreGivenUp GivesUp ending text starts = All (λ at. (line : List ℕ) × LineBegins ending text at line × GivesUp (body ending line)) starts

-- nothing was noted, or this offset behind the others, where the search may be given up
abbrev pub Notes : Type 0 → ℕ → (old new : List ℕ) → Type 0
Notes MayGiveUp at old new = (new ≡ old) ⊎ ((new ≡ old ++ at ∷ []) × MayGiveUp)

-- of the line at an offset a search tells that it was given up where that offset was noted
abbrev pub TellsAt : Seen → List ℕ → ℕ → Type 0
TellsAt seen starts at = seen.is_given_up at ≡ is_among starts at

-- and so of each line before an offset
abbrev pub TellsBefore : Seen → List ℕ → ℕ → Type 0
TellsBefore seen starts bound = (at : ℕ) → at < bound → TellsAt seen starts at
