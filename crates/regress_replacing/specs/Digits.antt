-- The digits behind a `$`.
use Rattle.std.specs.Prelude.{◌≡◌, ℕ, ◌<◌, ◌≤◌, true, List, ◌++◌, length, drop}
use Rattle.std.specs.Char.{is_ascii_digit}
use Rattle.std.specs.List.{list_all}
use Rattle.regress_meaning.specs.Matches.{Item}
use Rattle.regress_replacing.specs.Substitution.{at_digit}

-- one digit, or two
abbrev pub IsOneOrTwo : List ℕ → Type 0
IsOneOrTwo t = (0 < length t) × (length t ≤ 2) × (list_all is_ascii_digit t ≡ true)

-- what a `$` and digits give: the text of a group and the digits that are not read, or all as it stands
abbrev pub digits_give : List (List ℕ) → List ℕ → Item → List ℕ → List ℕ
digits_give names text i digits = (at_digit names text i digits).0 ++ drop (at_digit names text i digits).1 digits
