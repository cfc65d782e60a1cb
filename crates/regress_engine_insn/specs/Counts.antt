-- How many instructions a tree has, as written.
use Rattle.std.specs.Prelude.{ℕ, ◌+◌, ◌-◌, ◌*◌, Bool, List, [], ◌∷◌, length, if◌then◌else◌, chars, sum_by}
use Rattle.std.specs.Int.{div_ceil}
use Rattle.regress_meaning.specs.Table.{Table}
use Rattle.regress_front_nodes.specs.Trees.{Tree}
use Rattle.regress_front_nodes.specs.Trees as tree
use Rattle.regress_front_nodes.specs.Pieces.{pieces_of}
use Rattle.regress_engine_insn.specs.Layout.{most_bytes}

-- of a literal: in units one for each character, in bytes one for each 16 bytes and one for what is left
abbrev pub literal_count : Bool → List ℕ → ℕ
literal_count units bs = if units then length (chars bs) else div_ceil (length bs) most_bytes

-- of one piece of a string
abbrev pub piece_count : Bool → Tree → ℕ
piece_count units (tree.bytes bs) = literal_count units bs
piece_count units _ = 1

module _ (units : Bool) (table : Table) (unicode : Bool) where
  -- of a string: those of its pieces
  abbrev pub string_count : Bool → List ℕ → ℕ
  string_count icase cs = sum_by (piece_count units) (pieces_of table icase unicode cs)

  -- of a set of strings: one that fails, or those of the strings and two for each string but one
  abbrev pub strings_count : Bool → List (List ℕ) → ℕ
  strings_count icase [] = 1
  strings_count icase (cs ∷ strings) = sum_by (string_count icase) (cs ∷ strings) + 2 * length strings

  -- Of a tree, in a program of units or else of bytes.
  unfoldable pub count : Tree → ℕ
  count tree.empty = 0
  count tree.no_part = 0
  count (tree.bytes bs) = literal_count units bs
  count (tree.cat a b) = count a + count b
  count (tree.alt a b) = count a + count b + 2
  count (tree.capture k name a) = count a + 2
  count (tree.string_set strings icase) = strings_count icase strings
  count (tree.submatch kind first last a) = count a + 2
  count (tree.loop a first last least most greedy) = count a + 2 + (last - first)
  count (tree.single_loop a least most greedy) = 2
  count tree.goal = 1
  count (tree.char c) = 1
  count (tree.byte_set bs) = 1
  count (tree.char_set cs) = 1
  count tree.any = 1
  count tree.any_in_line = 1
  count (tree.line_start multiline) = 1
  count (tree.line_end multiline) = 1
  count (tree.boundary inverted folded) = 1
  count (tree.back k icase) = 1
  count (tree.bracket inverted intervals) = 1
