-- What a run reads, searches and writes.
use Rattle.std.specs.Prelude.{◌≡◌, ℕ, List, [], ◌++◌, take, map, Option, Some, chars, IsUtf8}
use Rattle.std.specs.Io.KnownBytes.{Appends}
use Rattle.regress_meaning.specs.Table.{Table}
use Rattle.regress_meaning.specs.TableParts.{table_of, small_parts}
use Rattle.regress_meaning.specs.Pattern.{Pattern}
use Rattle.regress_meaning.specs.Flags.{Options, options_of}
use Rattle.regress_meaning.specs.Grammar.{Spells}
use Rattle.regress_meaning.specs.Limits.{WithinLimits}
use Rattle.regress_meaning.specs.Matches.{match_list}
use Rattle.regress_meaning.specs.Offsets.{of_utf8, told}
use Rattle.regress_meaning.specs.Output.{lines_of}

-- the small table
abbrev pub small : Table
small = table_of small_parts

-- the output for a tree and a text in UTF-8: the line of each match
abbrev pub output : Table → Options → Pattern → List ℕ → List ℕ
output table o p text = lines_of (map (told (of_utf8 text)) (match_list table o p (chars text) 0))

-- written bytes grow by a beginning of these
abbrev pub AppendsFront : Option (List ℕ) → Option (List ℕ) → List ℕ → Type 0
AppendsFront old new bytes = (count : ℕ) × Appends old new (take count bytes)

-- written bytes grew by a beginning of these, and the others of these wait to be written
abbrev pub Waits : Option (List ℕ) → Option (List ℕ) → List ℕ → List ℕ → Type 0
Waits old new pending bytes = (done : List ℕ) × Appends old new done × (done ++ pending ≡ bytes)

-- The pattern's text spells a tree within the limits, under the flags of a word.
pub record Accepted (flags pattern : List ℕ) : Type 0 where
  pub tree : Pattern
  pub spelled : Spells small (options_of (chars flags)) (chars pattern) tree
  pub within : WithinLimits tree

-- All of the input was read, it is UTF-8, the pattern is accepted, and this holds of the output for its tree.
pub record Searched (flags pattern input : List ℕ) (left : Option (List ℕ)) (Wrote : List ℕ → Type 0) : Type 0 where
  pub read : left ≡ Some []
  pub utf8 : IsUtf8 input
  pub accepted : Accepted flags pattern
  pub wrote : Wrote (output small (options_of (chars flags)) accepted.tree input)
