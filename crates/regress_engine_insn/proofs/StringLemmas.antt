-- The pieces of a string: which trees they are, in either order.
use Rattle.std.specs.List.{list_all}
use Rattle.std.specs.Char.{IsScalar}
use Rattle.std.proofs.Common.{◌≡◌, ℕ, ◌<◌, nat_lt, encode_utf8, Bool, true, false, List, [], ◌∷◌, ◌++◌, length, reverse, All, if◌then◌else◌, refl, sym, subst, arith}
use Rattle.std.proofs.lemmas.List.{reverse-append}
use Rattle.std.proofs.lemmas.List.Elements.{All-nil, All-cons, All-head, All-tail, All-append}
use Rattle.std.proofs.lemmas.Str.{IsUtf8-append, IsUtf8-encode, length-encode, len_utf8_bounds}
use Rattle.regress_meaning.specs.Table.{Table}
use Rattle.regress_meaning.specs.TableParts.{is_code_point, is_surrogate}
use Rattle.regress_front_nodes.specs.Trees.{Tree}
use Rattle.regress_front_nodes.specs.Trees as tree
use Rattle.regress_front_nodes.specs.WellFormed.{AreCharacters}
use Rattle.regress_front_nodes.specs.Forms.{in_reading_order}
use Rattle.regress_front_nodes.specs.Pieces.{expansion, bytes_before, before, pieces_of}
use Rattle.regress_front_nodes.proofs.PieceLemmas.{expansion-points, scalar-from}

-- what a string falls into: its literals are whole characters
abbrev pub IsPiece : Tree → Type 0
IsPiece (tree.char c) = Unit {0}
IsPiece (tree.bytes bs) = AreCharacters bs
IsPiece (tree.byte_set bs) = Unit {0}
IsPiece (tree.char_set cs) = Unit {0}
IsPiece _ = ⊥

-- characters before pieces
characters-before : (xs : List ℕ) (ts : List Tree) → AreCharacters xs → All IsPiece ts → All IsPiece (bytes_before xs ts)
characters-before [] ts whole h = absurd (omega (arith, whole.0))
characters-before (b ∷ bs) [] whole h = All-cons IsPiece (tree.bytes (b ∷ bs)) [] whole (All-nil IsPiece)
characters-before (b ∷ bs) (tree.bytes ds ∷ ts) whole h =
    let rest : AreCharacters ds = All-head IsPiece (tree.bytes ds) ts h in
    let longer : 0 < length (b ∷ bs ++ ds) = omega arith in
    All-cons IsPiece (tree.bytes (b ∷ bs ++ ds)) ts (longer, IsUtf8-append (b ∷ bs) ds whole.1 rest.1) (All-tail IsPiece (tree.bytes ds) ts h)
characters-before (b ∷ bs) (t ∷ ts) whole h = All-cons IsPiece (tree.bytes (b ∷ bs)) (t ∷ ts) whole h

-- what a code point stands for before pieces
set-before : (ms : List ℕ) (ts : List Tree) (ascii : Bool) → All IsPiece ts → All IsPiece ((if ascii then tree.byte_set ms else tree.char_set ms) ∷ ts)
set-before ms ts true h = All-cons IsPiece (tree.byte_set ms) ts tt h
set-before ms ts false h = All-cons IsPiece (tree.char_set ms) ts tt h

point-before : (ms : List ℕ) (ts : List Tree) → All is_code_point ms → All IsPiece ts → All IsPiece (before ms ts)
point-before [] ts points h = set-before [] ts true h
point-before (m ∷ []) ts points h = by_kind (is_surrogate m) refl
  where
    by_kind : (b : Bool) → is_surrogate m ≡ b → All IsPiece (if b then tree.char m ∷ ts else bytes_before (encode_utf8 m) ts)
    by_kind true e = All-cons IsPiece (tree.char m) ts tt h
    by_kind false e =
        let is_scalar : IsScalar m = scalar-from m (All-head is_code_point m [] points) e in
        let some = (len_utf8_bounds m).0 in
        characters-before (encode_utf8 m) ts (omega (arith, length-encode m), IsUtf8-encode m is_scalar) h
point-before (m ∷ k ∷ ms) ts points h = set-before (m ∷ k ∷ ms) ts (list_all (λ c. nat_lt c 0x80) (m ∷ k ∷ ms)) h

-- all pieces of a string
pub all-pieces : (table : Table) (icase unicode : Bool) (cs : List ℕ) → All is_code_point cs → All IsPiece (pieces_of table icase unicode cs)
unfolding pieces_of
all-pieces table icase unicode [] points = All-nil IsPiece
all-pieces table icase unicode (c ∷ cs) points =
    point-before (expansion table icase unicode c) (pieces_of table icase unicode cs)
    (expansion-points table unicode c icase (All-head is_code_point c cs points)) (all-pieces table icase unicode cs (All-tail is_code_point c cs points))

-- in either order
pub All-reverse : {X : Type 0} (P : X → Type 0) (xs : List X) → All P xs → All P (reverse xs)
All-reverse P [] h = All-nil P
All-reverse P (x ∷ xs) h =
    subst (All P) (sym (reverse-append (x ∷ []) xs))
    (All-append P (reverse xs) (x ∷ []) (All-reverse P xs (All-tail P x xs h)) (All-cons P x [] (All-head P x xs h) (All-nil P)))

pub ordered-pieces : (b : Bool) (ts : List Tree) → All IsPiece ts → All IsPiece (in_reading_order b ts)
ordered-pieces true ts h = All-reverse IsPiece ts h
ordered-pieces false ts h = h
