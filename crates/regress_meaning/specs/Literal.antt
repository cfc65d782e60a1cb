-- A literal: the pattern text that stands for it, and its occurrences in a text.
use Rattle.std.specs.Prelude.{ℕ, ◌+◌, Bool, List, [], ◌∷◌, length, Option, Some, None, drop, nat_le, ◌&&◌, if◌then◌else◌}
use Rattle.std.specs.List.{starts_with}
use Rattle.regress_meaning.specs.Text.{◌∈◌}
use Rattle.regress_meaning.specs.Table.{Table}
use Rattle.regress_meaning.specs.Pattern.{Pattern, nothing, character, sequence}
use Rattle.regress_meaning.specs.Flags.{Options, is_unicode}
use Rattle.regress_meaning.specs.Meaning.{same}
use Rattle.regress_meaning.specs.Matches.{Item, all_found}

-- c does not stand for itself in every pattern ("SyntaxCharacter")
abbrev pub is_syntax_character : ℕ → Bool
is_syntax_character c = c ∈ "^$\\.*+?()[]{}|"

-- a backslash before each syntax character, nothing else changed
unfoldable pub escaped_text : List ℕ → List ℕ
escaped_text [] = []
escaped_text (c ∷ cs) = if is_syntax_character c then 0x5C ∷ c ∷ escaped_text cs else c ∷ escaped_text cs

-- the tree of a literal: its characters one after another
unfoldable pub literal_pattern : List ℕ → Pattern
literal_pattern [] = nothing
literal_pattern (c ∷ cs) = sequence (character c) (literal_pattern cs)

module _ (table : Table) (o : Options) (literal text : List ℕ) where
  -- the literal stands at a place of the text; under `i` each of its characters up to its case
  abbrev pub occurrence_at : ℕ → Option Item
  occurrence_at q =
      if nat_le q (length text) && starts_with (same table (is_unicode o) o.icase) (drop q text) literal
      then Some (record { start = q; end = q + length literal; groups = [] })
      else None

  -- The occurrences from a place on: the least place where it stands, then those from its end, or from one place later
  -- for the empty literal.
  unfoldable pub occurrences : ℕ → List Item
  occurrences q = all_found occurrence_at (length text) q
