-- The pieces of a text: what each of its code points may be, with neighbouring characters joined to literals.
use Rattle.std.specs.Prelude.{ℕ, Bool, ◌==◌, List, [], ◌∷◌, ◌++◌, if◌then◌else◌, nat_lt, map, filter, encode_utf8}
use Rattle.std.specs.List.{list_all}
use Rattle.regress_meaning.specs.Text.{count_up}
use Rattle.regress_meaning.specs.Table.{Table, canon, code_points}
use Rattle.regress_meaning.specs.TableParts.{is_surrogate}
use Rattle.regress_front_nodes.specs.Trees.{Tree, char, bytes, byte_set, char_set}
use Rattle.regress_front_nodes.specs.declared.piece.OpenPieces.{OpenPieces}
use Rattle.regress_front_nodes.specs.declared.piece.Piece.{Piece}
use Rattle.regress_front_nodes.specs.declared.piece.Piece.TheVariants.{Char, ByteSequence, ByteSet, CharSet}

-- the tree that a piece stands for
abbrev pub piece_tree : Piece → Tree
piece_tree (Char c) = char c
piece_tree (ByteSequence bs) = bytes bs.items
piece_tree (ByteSet bs) = byte_set bs.items
piece_tree (CharSet cs) = char_set cs.items

-- the numbers below n that pass, from low to high
unfoldable pub passing_below : ℕ → (ℕ → Bool) → List ℕ
passing_below n test = filter test (count_up 0 n)

-- what a code point of a text stands for, from low to high: itself, or where case is ignored all with its canon
unfoldable pub expansion : Table → Bool → Bool → ℕ → List ℕ
expansion table icase unicode c = if icase then passing_below code_points (λ d. canon table unicode d == canon table unicode c) else c ∷ []

-- characters as bytes, before other pieces: joined with a literal that stands first there
abbrev pub bytes_before : List ℕ → List Tree → List Tree
bytes_before [] ts = ts
bytes_before (b ∷ bs) (bytes ds ∷ ts) = bytes (b ∷ bs ++ ds) ∷ ts
bytes_before (b ∷ bs) ts = bytes (b ∷ bs) ∷ ts

-- One code point of a text, before the pieces of what follows. Alone it is part of a literal, but for a surrogate, which has
-- no bytes; where it stands for several, they are a set.
abbrev pub before : List ℕ → List Tree → List Tree
before (c ∷ []) ts = if is_surrogate c then char c ∷ ts else bytes_before (encode_utf8 c) ts
before cs ts = (if list_all (λ c. nat_lt c 0x80) cs then byte_set cs else char_set cs) ∷ ts

-- The pieces of a text.
unfoldable pub pieces_of : Table → Bool → Bool → List ℕ → List Tree
pieces_of table icase unicode [] = []
pieces_of table icase unicode (c ∷ cs) = before (expansion table icase unicode c) (pieces_of table icase unicode cs)

-- the pieces of a whole text, from those of its rest
abbrev pub completed : OpenPieces → List Tree → List Tree
completed front ts = map piece_tree front.pieces.items ++ bytes_before front.literal.items ts
