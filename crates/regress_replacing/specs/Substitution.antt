-- Replacement templates of the standard ("GetSubstitution"). Texts, and the offsets of items, are told in bytes of UTF-8, or both
-- in code points.
use Rattle.std.specs.Prelude.{ℕ, zero, suc, ◌+◌, ◌==◌, ◌&&◌, Bool, not, nat_le, nat_lt, List, [], ◌∷◌, ◌++◌, length, take, drop, slice_range, codes, if◌then◌else◌}
use Rattle.std.specs.Char.{is_ascii_digit}
use Rattle.std.specs.List.{list_any, position_or_len}
use Rattle.regress_meaning.specs.Text.{same_text}
use Rattle.regress_meaning.specs.Matches.{Item}
use Rattle.regress_match.specs.NamedRanges.{named_taken}
use Rattle.regress_replacing.specs.Replacing.{number_after, range_of_number, part_at}

-- some group has a name
abbrev pub is_some_named : List (List ℕ) → Bool
is_some_named names = list_any (λ name. not (same_text name [])) names

-- The number that two digits at the front write, or the first digit alone where no second stands there or both write a number
-- past the last of m groups; and how many digits these are.
abbrev pub number_read : ℕ → List ℕ → ℕ × ℕ
number_read m t = if nat_le (number_after 0 (take 2 t)).0 m then number_after 0 (take 2 t) else number_after 0 (take 1 t)

-- What a template gives at an item of a text, where the groups have these names.
module _ (names : List (List ℕ)) (text : List ℕ) (i : Item) where
  -- behind `$`, at a digit: the text of the group of that number; where there is no such group the `$` stands for itself
  abbrev pub at_digit : List ℕ → List ℕ × ℕ
  at_digit t =
      let m = length i.groups in
      let (n, taken) = number_read m t in
      if nat_le 1 n && nat_le n m then (part_at text (range_of_number i n), taken) else (codes "$", 0)

  -- behind `$<`: the text of the group of the name up to the next `>`; where no group has a name, or without a `>`, the `$`
  -- stands for itself
  abbrev pub at_bracket : List ℕ → List ℕ × ℕ
  at_bracket t =
      let end = position_or_len (λ c. c == 0x3E) t in
      if is_some_named names && nat_lt end (length t) then (part_at text (named_taken names i.groups (take end t)), end + 2)
      else (codes "$", 0)

  -- behind `$`: what it gives, and how much behind it is taken; it is `$`, what stands before the match, the text of the match,
  -- what stands behind it, the text of a group, or the `$` itself
  abbrev pub at_mark : List ℕ → List ℕ × ℕ
  at_mark [] = (codes "$", 0)
  at_mark (c ∷ t) =
      if c == 0x24 then (codes "$", 1)
      else if c == 0x60 then (take i.start text, 1)
      else if c == 0x26 then (slice_range text i.start i.end, 1)
      else if c == 0x27 then (drop i.end text, 1)
      else if is_ascii_digit c then at_digit (c ∷ t)
      else if c == 0x3C then at_bracket t
      else (codes "$", 0)

  -- a template, once some of it is passed over
  unfoldable pub substituted_behind : ℕ → List ℕ → List ℕ
  substituted_behind passed [] = []
  substituted_behind (suc n) (c ∷ t) = substituted_behind n t
  substituted_behind zero (c ∷ t) =
      if c == 0x24 then (at_mark t).0 ++ substituted_behind (at_mark t).1 t else c ∷ substituted_behind zero t

-- What a template gives at an item of a text, where the groups have these names.
abbrev pub substitution : List (List ℕ) → List ℕ → List ℕ → Item → List ℕ
substitution names template text i = substituted_behind names text i 0 template
