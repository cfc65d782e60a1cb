-- What `Parts` find.
use Rattle.std.specs.Prelude.{◌≡◌, ℕ, List, Option, map}
use Rattle.regress_meaning.specs.Matches.{Item}
use Rattle.regress_match.specs.Views.{item_of}
use Rattle.esgrep_rows.specs.Found.{Find}
use Rattle.esgrep_lines.specs.Parts.{found_parts}
use Rattle.esgrep_lines.specs.declared.parts.Parts.{Parts}

-- the matches of the whole text
abbrev pub matches_of : Parts → List Item
matches_of p = map item_of p.founds.items

-- Parts of the matches of a whole text find this in each text, with what is shown of a part.
abbrev pub FindsParts : Parts → Option (List ℕ) → Find → Type 0
FindsParts p template find = (start : ℕ) → (text : List ℕ) → find start text ≡ found_parts p.ending p.text.now (matches_of p) template start text
