-- Replacement texts, and a text with others in the place of its matches. Texts, and the offsets of items, are told in bytes of
-- UTF-8, or both in code points.
use Rattle.std.specs.Prelude.{ℕ, zero, suc, ◌+◌, ◌-◌, ◌*◌, ◌==◌, ◌&&◌, nat_le, nat_lt, List, [], ◌∷◌, ◌++◌, length, take, drop, Option, Some, None, slice_range, codes, if◌then◌else◌}
use Rattle.std.specs.Char.{is_ascii_digit}
use Rattle.std.specs.List.{position_or_len}
use Rattle.regress_meaning.specs.Text.{is_at}
use Rattle.regress_meaning.specs.Limits.{most_groups}
use Rattle.regress_meaning.specs.Matches.{Item}
use Rattle.regress_match.specs.GroupRanges.{numbered, named}

-- The number that digits at the front write, behind n, and how many are taken: those while the number is at most 65535.
unfoldable pub number_after : ℕ → List ℕ → ℕ × ℕ
number_after n [] = (n, 0)
number_after n (c ∷ t) =
    if is_ascii_digit c && nat_le n most_groups
    then ((number_after (n * 10 + (c - 0x30)) t).0, (number_after (n * 10 + (c - 0x30)) t).1 + 1)
    else (n, 0)

-- What a replacement text gives, where the text of each group is known by number and by name.
module _ (by_number : ℕ → List ℕ) (by_name : List ℕ → List ℕ) where
  -- behind `${`: the text of the name up to the next `}`, or without a `}` all as it stands; and how much is taken
  abbrev pub at_name : List ℕ → List ℕ × ℕ
  at_name t =
      let end = position_or_len (λ c. c == 0x7D) t in
      if nat_lt end (length t) then (by_name (take end t), end + 2) else (codes "${" ++ t, length t + 1)

  -- behind `$`: what it gives, and how much behind it is taken
  abbrev pub at_dollar : List ℕ → List ℕ × ℕ
  at_dollar t =
      if is_at (λ c. c == 0x24) t then (codes "$", 1)
      else if is_at (λ c. c == 0x7B) t then at_name (drop 1 t)
      else if is_at is_ascii_digit t then (by_number (number_after 0 t).0, (number_after 0 t).1)
      else (codes "$", 0)

  -- a replacement text, once some of it is passed over
  unfoldable pub given_behind : ℕ → List ℕ → List ℕ
  given_behind passed [] = []
  given_behind (suc n) (c ∷ t) = given_behind n t
  given_behind zero (c ∷ t) =
      if c == 0x24 then (at_dollar t).0 ++ given_behind (at_dollar t).1 t else c ∷ given_behind zero t

-- the range of the group of that number, where 0 is the whole match
abbrev pub range_of_number : Item → ℕ → Option (ℕ × ℕ)
range_of_number i n = numbered (Some (i.start, i.end) ∷ i.groups) n

-- the part of a text at a range, and nothing without one
abbrev pub part_at : List ℕ → Option (ℕ × ℕ) → List ℕ
part_at text None = []
part_at text (Some range) = slice_range text range.0 range.1

-- What a replacement text gives at an item of a text, where the groups have these names.
abbrev pub expansion : List (List ℕ) → List ℕ → List ℕ → Item → List ℕ
expansion names replacement text i =
    given_behind (λ n. part_at text (range_of_number i n)) (λ name. part_at text (named names i.groups name)) 0 replacement

-- A text from an offset on, with the new texts in the place of the items, one for each in order.
unfoldable pub replaced_from : List ℕ → ℕ → List Item → List (List ℕ) → List ℕ
replaced_from text at (i ∷ items) (new ∷ news) = slice_range text at i.start ++ new ++ replaced_from text i.end items news
replaced_from text at _ _ = drop at text

-- a text with the new texts in the place of the items
abbrev pub replaced : List ℕ → List Item → List (List ℕ) → List ℕ
replaced text items news = replaced_from text 0 items news
