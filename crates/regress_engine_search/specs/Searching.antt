-- What is found in a text that is searched with a program of bytes, whatever finds it.
use Rattle.std.specs.Prelude.{◌≡◌, ℕ, List, Option, map, chars}
use Rattle.regress_meaning.specs.Flags.{is_unicode}
use Rattle.regress_meaning.specs.Matches.{Item}
use Rattle.regress_meaning.specs.Meaning.{Context}
use Rattle.regress_meaning.specs.Offsets.{Begins, of_utf8, told}
use Rattle.regress_front_core.specs.FlagWords.{options}
use Rattle.regress_front_tables.specs.TableViews.{table}
use Rattle.regress_front_nodes.specs.Trees.{Tree}
use Rattle.regress_front_nodes.specs.WellFormed.{IsWellFormed}
use Rattle.regress_front_nodes.specs.NodeMatches.{node_match_list}
use Rattle.regress_match.specs.declared.found.Match.{Match}
use Rattle.regress_match.specs.Iterating.{coming_on}
use Rattle.regress_match.specs.TextRanges.{IsMatchIn}
use Rattle.regress_engine_code.specs.declared.compiled.CompiledRegex.{CompiledRegex}
use Rattle.regress_engine_insn.specs.Layout.{IsLayout}
use Rattle.regress_engine_code.specs.Standing.{names_of, target_of}

-- the characters of a text, with the table and the mode of a program
abbrev pub context_in : CompiledRegex → List ℕ → Context
context_in compiled bytes = record { text = chars bytes; table = table compiled.tables; unicode = is_unicode (options compiled.flags) }

-- A search may start wherever a place of the text is, or past its end; from there on the items are the matches of each tree
-- that the program is a layout of, told in bytes; and each match lies in the text, between characters.
pub record Searches {Position : Type 0} (compiled : CompiledRegex) (bytes : List ℕ) (IsStart : ℕ → Type 0) (StartsAt : ℕ → Option Position → Type 0)
    (items_from : Position → List Item) (IsOfSearch : Match → Type 0) : Type 0 where
  pub starts : (at place : ℕ) → Begins (of_utf8 bytes) at place → IsStart at
  pub lists : (n : ℕ) (t : Tree) → IsWellFormed n t → IsLayout (target_of compiled) n t → (at place : ℕ) → Begins (of_utf8 bytes) at place
      → (position : Option Position) → StartsAt at position → coming_on items_from position ≡ map (told (of_utf8 bytes)) (node_match_list (context_in compiled bytes) n t place)
  pub inside : (m : Match) → IsOfSearch m → IsMatchIn bytes (names_of compiled) m
