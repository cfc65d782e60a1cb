-- The pieces of a replacement text.
use Rattle.std.specs.Prelude.{◌≡◌, ℕ, List, flat_map}
use Rattle.regress_replacing.specs.Replacing.{given_behind}
use Rattle.regress_replacing.specs.declared.replacement.Piece.{Piece}
use Rattle.regress_replacing.specs.declared.replacement.Piece.TheVariants.{Text, Numbered, Named}

-- what a piece gives, where the text of each group is known by number and by name
abbrev pub piece_gives : (ℕ → List ℕ) → (List ℕ → List ℕ) → Piece → List ℕ
piece_gives by_number by_name (Text text) = text.now
piece_gives by_number by_name (Numbered number) = by_number number
piece_gives by_number by_name (Named name) = by_name name.now

-- the pieces give what the replacement text gives
abbrev pub AreReadFrom : List ℕ → List Piece → Type 0
AreReadFrom replacement pieces =
    (by_number : ℕ → List ℕ) (by_name : List ℕ → List ℕ) → flat_map (piece_gives by_number by_name) pieces ≡ given_behind by_number by_name 0 replacement
