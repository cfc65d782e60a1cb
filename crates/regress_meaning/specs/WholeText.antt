-- A pattern over a whole text, as HTML's `pattern` attribute has it: between the start and the end of the text.
use Rattle.std.specs.Prelude.{◌≡◌, ℕ, ◌==◌, List, [], ◌++◌, Option, None, length, replicate, filter, Any}
use lib.Chars.{codes}
use Rattle.regress_meaning.specs.Table.{Table}
use Rattle.regress_meaning.specs.Pattern.{Pattern, names_of, nothing, sequence, grouped, modified, line_start, line_end}
use Rattle.regress_meaning.specs.Flags.{Options, is_unicode, first_settings, settings_of}
use Rattle.regress_meaning.specs.Meaning.{State, Forward, outcomes}
use Rattle.regress_meaning.specs.Matches.{Item, item_at}

-- an assertion that the flag `m` doesn't change: `(?-m:A)`
abbrev pub of_text : Pattern → Pattern
of_text a = modified (settings_of []) (settings_of (codes "m")) (sequence a nothing)

-- The pattern over a whole text: the tree of `(?-m:^)(?:P)(?-m:$)`.
abbrev pub whole_text : Pattern → Pattern
whole_text p = sequence (of_text line_start) (sequence (grouped p) (sequence (of_text line_end) nothing))

-- `(?-m:^)(?:` and `)(?-m:$)` around a pattern
abbrev pub in_whole_text : List ℕ → List ℕ
in_whole_text source = codes "(?-m:^)(?:" ++ source ++ codes ")(?-m:$)"

module _ (table : Table) (o : Options) (p : Pattern) (text : List ℕ) where
  -- all outcomes from the start of the text, with no group set
  abbrev pub outcomes_from_start : List State
  outcomes_from_start =
      outcomes (record { text = text; table = table; unicode = is_unicode o }) p Forward (first_settings o)
      (record { place = 0; groups = replicate (length (names_of p)) None })

  -- the item of the first of them that ends at the end of the text
  abbrev pub whole_item : Option Item
  whole_item = item_at 0 (filter (λ s. s.place == length text) outcomes_from_start)

  -- The pattern matches the whole text: some outcome ends at its end, preferred or not.
  abbrev pub MatchesWhole : Type 0
  MatchesWhole = Any (λ s. s.place ≡ length text) outcomes_from_start
