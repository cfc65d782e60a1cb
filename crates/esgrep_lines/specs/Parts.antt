-- What is found of matches that cross lines: of each match the part that lies in the line.
use Rattle.std.specs.Prelude.{ℕ, ◌+◌, ◌-◌, ◌==◌, ◌&&◌, ◌||◌, Bool, nat_lt, nat_le, min, List, [], length, slice_index, map, filter, Option, if◌then◌else◌}
use Rattle.regress_meaning.specs.Matches.{Item}
use Rattle.esgrep_rows.specs.declared.ending.Ending.{Ending}
use Rattle.esgrep_rows.specs.declared.ending.Ending.TheVariants.{Newline, Nul}
use Rattle.esgrep_rows.specs.Found.{Find, found_at}

-- an offset lies between a `\r` and a `\n`
abbrev pub splits_ending : List ℕ → ℕ → Bool
splits_ending whole at = (slice_index whole (at - 1) == 0x0D) && (slice_index whole at == 0x0A)

-- From where on a match that begins at this offset touches lines: from there, or from the `\r` on where it begins between that and a `\n`.
abbrev pub touched : Ending → List ℕ → ℕ → ℕ
touched Newline whole at = if splits_ending whole at then at - 1 else at
touched Nul whole at = at

-- A match of a whole text touches a text that stands at an offset: it begins in that or at its end, or before it and ends behind its start.
abbrev pub touches : Ending → List ℕ → ℕ → List ℕ → Item → Bool
touches ending whole start text i =
    let from = touched ending whole i.start in (nat_le start from || nat_lt start i.end) && nat_le from (start + length text)

-- an offset of the whole text, told in bytes of a text that stands at another; where it lies outside, the end that is nearer
abbrev pub told_in : ℕ → List ℕ → ℕ → ℕ
told_in start text at = min (at - start) (length text)

-- the part of a match that lies in a text, without groups
abbrev pub part : ℕ → List ℕ → Item → Item
part start text i = record { start = told_in start text i.start; end = told_in start text i.end; groups = [] }

-- a character begins at an offset of a text, or the text ends there
abbrev pub is_between : List ℕ → ℕ → Bool
is_between text at = nat_lt (slice_index text at) 128 || nat_le 192 (slice_index text at)

-- a match has a part in a text: it touches that, and the part begins and ends between characters (in a line of the whole text it always does)
abbrev pub has_part : Ending → List ℕ → ℕ → List ℕ → Item → Bool
has_part ending whole start text i =
    touches ending whole start text i && is_between text (told_in start text i.start) && is_between text (told_in start text i.end)

-- The parts of matches of a whole text in a text that stands at an offset.
abbrev pub parts_in : Ending → List ℕ → List Item → ℕ → List ℕ → List Item
parts_in ending whole matches start text = map (part start text) (filter (has_part ending whole start text) matches)

-- What is found of such matches in each text: these parts, with what is shown of each.
abbrev pub found_parts : Ending → List ℕ → List Item → Option (List ℕ) → Find
found_parts ending whole matches template start text = map (found_at template [] text) (parts_in ending whole matches start text)
