-- A text before other terms: it has no groups, names or loops, and its pieces are as small.
use Rattle.std.proofs.Common.{◌≡◌, ℕ, ◌+◌, ◌<◌, ◌≤◌, Bool, true, false, List, [], ◌∷◌, ◌++◌, length, if◌then◌else◌, nat_lt, chars, encode_utf8, map, reverse, Vec, Global, Result, Ok, Err, IfOk, All, IsUtf8, refl, sym, ap, ◌∙◌, arith}
use Rattle.std.specs.List.{list_all}
use Rattle.std.specs.Char.{IsScalar}
use lib.Utf8.{scalar}
use Rattle.std.proofs.lemmas.Bool.{and_from}
use Rattle.std.proofs.lemmas.List.{append-nil, reverse-append}
use Rattle.std.proofs.lemmas.List.Elements.{All-nil, All-cons, All-head, All-tail}
use Rattle.std.proofs.lemmas.Str.{chars-append, chars-encodes, IsUtf8-encode, length-encode, len_utf8_bounds}
use Rattle.regress_meaning.specs.Text.{count_up}
use Rattle.regress_meaning.specs.Table.{Table}
use Rattle.regress_meaning.specs.TableParts.{is_code_point, is_surrogate}
use Rattle.regress_meaning.specs.Pattern.{Pattern, names_of, character}
use Rattle.regress_meaning.specs.Numbering.{group_numbers, FitsGroups}
use Rattle.regress_meaning.specs.Limits.{quantifiers}
use Rattle.regress_meaning.specs.Points.{HoldsNoStrings}
use Rattle.regress_meaning.specs.Weights.{weight}
use Rattle.regress_front_tokens.specs.Trees.{sequence_of}
use Rattle.regress_front_nodes.specs.Trees.{Tree, char, bytes, byte_set, char_set, cat_of}
use Rattle.regress_front_nodes.specs.WellFormed.{AreLawful}
use Rattle.regress_front_nodes.specs.Sizes.{size}
use Rattle.regress_front_nodes.specs.declared.piece.Piece.{Piece}
use Rattle.regress_front_nodes.specs.declared.piece.Piece.TheVariants.{Char, ByteSequence, ByteSet, CharSet}
use Rattle.regress_front_nodes.specs.Pieces.{expansion, bytes_before, before, piece_tree, pieces_of}
use Rattle.regress_front_nodes.proofs.PieceLemmas.{expansion-points, scalar-from}
use Rattle.regress_front_tree.specs.Lowering.{is_piece, ArePieces}
use Rattle.regress_front_tree.proofs.GroupLemmas.{Fits, same-fits, Leaf, leaf, leaf-cat, cat-fits, back-fits, no_part-leaf, All-turned}
use Rattle.regress_front_tree.proofs.NumberLemmas.{IsNumberedFrom}
use Rattle.regress_front_tree.proofs.SameLemmas.{same-join}

-- characters before other patterns

pub text-names : (cs : List ℕ) (ps : List Pattern) → names_of (sequence_of (map character cs ++ ps)) ≡ names_of (sequence_of ps)
text-names [] ps = refl
text-names (c ∷ cs) ps = text-names cs ps

text-numbers : (cs : List ℕ) (ps : List Pattern) → group_numbers (sequence_of (map character cs ++ ps)) ≡ group_numbers (sequence_of ps)
text-numbers [] ps = refl
text-numbers (c ∷ cs) ps = text-numbers cs ps

text-quantifiers : (cs : List ℕ) (ps : List Pattern) → quantifiers (sequence_of (map character cs ++ ps)) ≡ quantifiers (sequence_of ps)
text-quantifiers [] ps = refl
text-quantifiers (c ∷ cs) ps = omega (arith, text-quantifiers cs ps)

text-fitting : (n : ℕ) (cs : List ℕ) (ps : List Pattern) → FitsGroups n (sequence_of (map character cs ++ ps)) → FitsGroups n (sequence_of ps)
text-fitting n [] ps h = h
text-fitting n (c ∷ cs) ps h = text-fitting n cs ps h.1

pub text-plain : (cs : List ℕ) (ps : List Pattern) → HoldsNoStrings (sequence_of (map character cs ++ ps)) → HoldsNoStrings (sequence_of ps)
text-plain [] ps h = h
text-plain (c ∷ cs) ps h = text-plain cs ps h.1

pub text-weight : (cs : List ℕ) (ps : List Pattern) → weight (sequence_of (map character cs ++ ps)) ≡ length cs + weight (sequence_of ps)
text-weight [] ps = omega arith
text-weight (c ∷ cs) ps = omega (arith, text-weight cs ps)

pub text-numbered : {n k : ℕ} (cs : List ℕ) (ps : List Pattern) → IsNumberedFrom n k (sequence_of (map character cs ++ ps)) → IsNumberedFrom n k (sequence_of ps)
text-numbered {n = n} {k = k} cs ps h =
    let names = text-names cs ps in
    record {
      in_order = sym (text-numbers cs ps) ∙ h.in_order ∙ ap (λ ns. count_up k (length ns)) names;
      fitting = text-fitting n cs ps h.fitting;
      few = omega (arith, h.few, ap length names);
    }

-- pieces have no groups

piece-leaf : {n k : ℕ} (u : Tree) → is_piece u ≡ true → AreLawful 0 u → Leaf n k u
piece-leaf (char c) e h = leaf (char c) refl h refl refl (λ i. refl) tt
piece-leaf (bytes bs) e h = leaf (bytes bs) refl h refl refl (λ i. refl) tt
piece-leaf (byte_set bs) e h = leaf (byte_set bs) refl h refl refl (λ i. refl) tt
piece-leaf (char_set cs) e h = leaf (char_set cs) refl h refl refl (λ i. refl) tt
piece-leaf _ e h = absurd (cc)

pieces-leaf : {n k : ℕ} (us : List Tree) → All (λ u. is_piece u ≡ true) us → All (AreLawful 0) us → Leaf n k (cat_of us)
pieces-leaf [] kinds lawful = no_part-leaf
pieces-leaf (u ∷ us) kinds lawful =
    let IsPiece : Tree → Type 0 = λ v. is_piece v ≡ true in
    leaf-cat (piece-leaf u (All-head IsPiece u us kinds) (All-head (AreLawful 0) u us lawful)) (pieces-leaf us (All-tail IsPiece u us kinds) (All-tail (AreLawful 0) u us lawful))

-- a text's trees before those of other terms have the groups, names and loops of these alone, in both orders
pub text-fits : {n k : ℕ} (cs : List ℕ) (ps : List Pattern) (us ts : List Tree) → All (λ u. is_piece u ≡ true) us → All (AreLawful 0) us
    → (let Before : Tree → Type 0 = Fits n k (group_numbers (sequence_of ps)) (names_of (sequence_of ps)) (quantifiers (sequence_of ps)) in
    let Whole : Tree → Type 0 = Fits n k (group_numbers (sequence_of (map character cs ++ ps))) (names_of (sequence_of (map character cs ++ ps))) (quantifiers (sequence_of (map character cs ++ ps))) in
    Before (cat_of ts) × Before (cat_of (reverse ts)) → Whole (cat_of (us ++ ts)) × Whole (cat_of (reverse (us ++ ts))))
text-fits {n = n} {k = k} cs ps us ts kinds lawful rest =
    let e : k ≡ k + 0 = omega arith in
    let first = cat-fits e (pieces-leaf us kinds lawful) rest.0 in
    let turned = back-fits e (pieces-leaf (reverse us) (All-turned (λ v. is_piece v ≡ true) true us kinds) (All-turned (AreLawful 0) true us lawful)) rest.1 in (
      whole (cat_of (us ++ ts)) (same-fits (same-join us ts) first),
      whole (cat_of (reverse (us ++ ts))) (rw (reverse-append us ts) (same-fits (same-join (reverse ts) (reverse us)) turned)),
    )
  where
    whole : (t : Tree) → Fits n k (group_numbers (sequence_of ps)) (names_of (sequence_of ps)) (0 + quantifiers (sequence_of ps)) t
        → Fits n k (group_numbers (sequence_of (map character cs ++ ps))) (names_of (sequence_of (map character cs ++ ps))) (quantifiers (sequence_of (map character cs ++ ps))) t
    whole t f =
        let none : 0 + quantifiers (sequence_of ps) ≡ quantifiers (sequence_of ps) = omega arith in
        rw (text-numbers cs ps, text-names cs ps, text-quantifiers cs ps) (rw none at f)

-- there are no more pieces than characters

bytes_before-size : (c : ℕ) (xs : List ℕ) (ts : List Tree) → 0 < length xs → IsUtf8 xs → chars xs ≡ c ∷ [] → size (cat_of (bytes_before xs ts)) ≤ size (cat_of ts) + 1
bytes_before-size c [] ts some utf8 e = absurd (omega arith)
bytes_before-size c (b ∷ bs) [] some utf8 e = omega (arith, ap length e)
bytes_before-size c (b ∷ bs) (bytes ds ∷ ts) some utf8 e = omega (arith, ap length (chars-append (b ∷ bs) ds utf8 ∙ ap (λ xs. xs ++ chars ds) e))
bytes_before-size c (b ∷ bs) (t ∷ ts) some utf8 e = omega (arith, ap length e)

set-size : (ms : List ℕ) (b : Bool) (ts : List Tree) → size (cat_of ((if b then byte_set ms else char_set ms) ∷ ts)) ≤ size (cat_of ts) + 1
set-size ms true ts = omega arith
set-size ms false ts = omega arith

before-size : (ms : List ℕ) (ts : List Tree) → All is_code_point ms → size (cat_of (before ms ts)) ≤ size (cat_of ts) + 1
before-size [] ts points = set-size [] true ts
before-size (m ∷ []) ts points = by_kind (is_surrogate m) refl
  where
    by_kind : (b : Bool) → is_surrogate m ≡ b → size (cat_of (if b then char m ∷ ts else bytes_before (encode_utf8 m) ts)) ≤ size (cat_of ts) + 1
    by_kind true e = omega arith
    by_kind false e =
        let is_scalar : IsScalar m = scalar-from m (All-head is_code_point m [] points) e in
        let some = (len_utf8_bounds m).0 in
        let alone : chars (encode_utf8 m) ≡ m ∷ [] = ap chars (sym (append-nil (encode_utf8 m))) ∙ chars-encodes (m ∷ []) (and_from (scalar m) true is_scalar refl) in
        bytes_before-size m (encode_utf8 m) ts (omega (arith, length-encode m)) (IsUtf8-encode m is_scalar) alone
before-size (m ∷ k ∷ ms) ts points = set-size (m ∷ k ∷ ms) (list_all (λ c. nat_lt c 0x80) (m ∷ k ∷ ms)) ts

pub pieces-size : (table : Table) (icase unicode : Bool) (cs : List ℕ) → All is_code_point cs → size (cat_of (pieces_of table icase unicode cs)) ≤ length cs + 1
unfolding pieces_of
pieces-size table icase unicode [] points = omega arith
pieces-size table icase unicode (c ∷ cs) points =
    let own = expansion-points table unicode c icase (All-head is_code_point c cs points) in
    let first = before-size (expansion table icase unicode c) (pieces_of table icase unicode cs) own in
    omega (arith, first, pieces-size table icase unicode cs (All-tail is_code_point c cs points))

-- what was made for a text are its pieces

kinds-of : (qs : List Piece) → All (λ u. is_piece u ≡ true) (map piece_tree qs)
kinds-of [] = All-nil (λ u. is_piece u ≡ true)
kinds-of (q ∷ qs) = All-cons (λ u. is_piece u ≡ true) (piece_tree q) (map piece_tree qs) (kind q) (kinds-of qs)
  where
    kind : (q : Piece) → is_piece (piece_tree q) ≡ true
    kind (Char c) = refl
    kind (ByteSequence bs) = refl
    kind (ByteSet bs) = refl
    kind (CharSet cs) = refl

pub made-pieces : {E : Type 0} (table : Table) (unicode icase : Bool) (cs : List ℕ) (made : Result (Vec Piece Global) E) → All is_code_point cs
    → IfOk made (λ pieces. map piece_tree pieces.items ≡ pieces_of table icase unicode cs) → IfOk made (λ pieces. All (AreLawful 0) (map piece_tree pieces.items))
    → IfOk made (λ pieces. ArePieces table unicode icase cs (map piece_tree pieces.items))
made-pieces table unicode icase cs (Ok pieces) points are lawful = record { points = points; are = are; kinds = kinds-of pieces.items; lawful = lawful }
made-pieces table unicode icase cs (Err error) points are lawful = tt
