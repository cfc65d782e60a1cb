-- How many instructions a tree has, by its size.
use lib.Utf8.{scalar}
use Rattle.std.specs.Prelude.{chars, encode_utf8, sum_by}
use Rattle.std.specs.Int.{div_ceil}
use Rattle.std.specs.Char.{IsScalar}
use Rattle.std.specs.List.{list_all}
use Rattle.std.specs.Str.{encode_utf8_all}
use Rattle.std.proofs.Common.{◌≡◌, ◌⊎◌, inl, inr, ℕ, suc, ◌+◌, ◌-◌, ◌*◌, ◌<◌, ◌≤◌, nat_lt, Bool, true, false, List, [], ◌∷◌, ◌++◌, length, All, if◌then◌else◌, refl, sym, ap, ◌∙◌, arith, length-append}
use Rattle.std.proofs.lemmas.Bool.{and_from, cases_lt}
use Rattle.std.proofs.lemmas.List.{append-nil}
use Rattle.std.proofs.lemmas.List.Elements.{All-head, All-tail}
use Rattle.std.proofs.lemmas.List.Sums.{sum_by-cons}
use Rattle.std.proofs.lemmas.Str.{IsUtf8-encode, chars-append, chars-encodes, encodes-chars, length-encode, len_utf8_bounds}
use Rattle.regress_meaning.specs.Table.{Table}
use Rattle.regress_meaning.specs.TableParts.{is_code_point, is_surrogate}
use Rattle.regress_front_nodes.specs.Trees.{Tree}
use Rattle.regress_front_nodes.specs.Trees as tree
use Rattle.regress_front_nodes.specs.Sizes.{size, loops, spread}
use Rattle.regress_front_nodes.specs.Pieces.{expansion, bytes_before, before, pieces_of}
use Rattle.regress_front_nodes.specs.WellFormed.{AreCharacters, AreLawful, IsWellFormed}
use Rattle.regress_front_nodes.proofs.PieceLemmas.{expansion-points, scalar-from}
use Rattle.regress_engine_insn.specs.Counts.{literal_count, piece_count, string_count, count}
use Rattle.regress_engine_insn.proofs.StringLemmas.{IsPiece, all-pieces}
use Rattle.regress_engine_runs.proofs.Places.{occurs}
use Rattle.regress_engine_runs.proofs.Looks.{inside_one, outside_none}
use Rattle.regress_engine_runs.proofs.Loops.{within-true, within-false}

-- a character takes at most four bytes
encoded-short : (cs : List ℕ) → length (encode_utf8_all cs) ≤ 4 * length cs
encoded-short [] = omega arith
encoded-short (c ∷ cs) =
    let size = length-append (encode_utf8 c) (encode_utf8_all cs) in
    let own = length-encode c in
    let most = (len_utf8_bounds c).1 in
    let rest = encoded-short cs in
    omega (arith, size, own, most, rest)

few-chunks : (bytes characters : ℕ) → bytes ≤ 4 * characters → div_ceil bytes 16 ≤ characters
few-chunks bytes characters few = omega arith

-- a literal has at most one instruction for each character
literal-bounded : (units : Bool) (bs : List ℕ) → AreCharacters bs → literal_count units bs ≤ length (chars bs)
literal-bounded true bs whole = omega arith
literal-bounded false bs whole =
    let same : length (encode_utf8_all (chars bs)) ≡ length bs = ap length (encodes-chars bs whole.1) in
    few-chunks (length bs) (length (chars bs)) (omega (arith, encoded-short (chars bs), same))

-- how many characters a piece takes
abbrev characters_of : Tree → ℕ
characters_of (tree.bytes bs) = length (chars bs)
characters_of _ = 1

piece-bounded : (units : Bool) (t : Tree) → IsPiece t → piece_count units t ≤ characters_of t
piece-bounded units (tree.bytes bs) is = literal-bounded units bs is
piece-bounded units (tree.char c) is = omega arith
piece-bounded units (tree.byte_set bs) is = omega arith
piece-bounded units (tree.char_set cs) is = omega arith
piece-bounded units _ is = absurd is

pieces-bounded : (units : Bool) (ts : List Tree) → All IsPiece ts → sum_by (piece_count units) ts ≤ sum_by characters_of ts
pieces-bounded units [] are = omega arith
pieces-bounded units (t ∷ ts) are =
    let own = sum_by-cons (piece_count units) t ts in
    let all = sum_by-cons characters_of t ts in
    let first = piece-bounded units t (All-head IsPiece t ts are) in
    let rest = pieces-bounded units ts (All-tail IsPiece t ts are) in
    omega (arith, own, all, first, rest)

-- characters before pieces are so many more
characters-before : (xs : List ℕ) (ts : List Tree) → AreCharacters xs → sum_by characters_of (bytes_before xs ts) ≡ length (chars xs) + sum_by characters_of ts
characters-before [] ts whole = absurd (omega (arith, whole.0))
characters-before (b ∷ bs) [] whole = let e = sum_by-cons characters_of (tree.bytes (b ∷ bs)) [] in omega (arith, e)
characters-before (b ∷ bs) (tree.bytes ds ∷ ts) whole =
    let joined = sum_by-cons characters_of (tree.bytes (b ∷ bs ++ ds)) ts in
    let apart = sum_by-cons characters_of (tree.bytes ds) ts in
    let both : length (chars (b ∷ bs ++ ds)) ≡ length (chars (b ∷ bs)) + length (chars ds) =
    ap length (chars-append (b ∷ bs) ds whole.1) ∙ length-append (chars (b ∷ bs)) (chars ds) in
    omega (arith, joined, apart, both)
characters-before (b ∷ bs) (t ∷ ts) whole = sum_by-cons characters_of (tree.bytes (b ∷ bs)) (t ∷ ts)

set-before : (ms : List ℕ) (ts : List Tree) (ascii : Bool) → sum_by characters_of ((if ascii then tree.byte_set ms else tree.char_set ms) ∷ ts) ≡ suc (sum_by characters_of ts)
set-before ms ts true = let e = sum_by-cons characters_of (tree.byte_set ms) ts in omega (arith, e)
set-before ms ts false = let e = sum_by-cons characters_of (tree.char_set ms) ts in omega (arith, e)

-- what a code point stands for is one more
point-before : (ms : List ℕ) (ts : List Tree) → All is_code_point ms → sum_by characters_of (before ms ts) ≡ suc (sum_by characters_of ts)
point-before [] ts points = set-before [] ts true
point-before (m ∷ []) ts points = by_kind (is_surrogate m) refl
  where
    by_kind : (b : Bool) → is_surrogate m ≡ b → sum_by characters_of (if b then tree.char m ∷ ts else bytes_before (encode_utf8 m) ts) ≡ suc (sum_by characters_of ts)
    by_kind true e = let f = sum_by-cons characters_of (tree.char m) ts in omega (arith, f)
    by_kind false e =
        let is_scalar : IsScalar m = scalar-from m (All-head is_code_point m [] points) e in
        let some = (len_utf8_bounds m).0 in
        let whole : AreCharacters (encode_utf8 m) = (omega (arith, length-encode m, some), IsUtf8-encode m is_scalar) in
        let own : length (chars (encode_utf8 m)) ≡ 1 = one m is_scalar in
        let more = characters-before (encode_utf8 m) ts whole in
        omega (arith, own, more)
      where
        one : (m : ℕ) → IsScalar m → length (chars (encode_utf8 m)) ≡ 1
        one m is_scalar =
            ap (λ bs. length (chars bs)) (sym (append-nil (encode_utf8 m)))
            ∙ ap length (chars-encodes (m ∷ []) (and_from (scalar m) true is_scalar refl))
point-before (m ∷ k ∷ ms) ts points = set-before (m ∷ k ∷ ms) ts (list_all (λ c. nat_lt c 0x80) (m ∷ k ∷ ms))

-- so the pieces of a string take as many characters as it has code points
pieces-size : (table : Table) (icase unicode : Bool) (cs : List ℕ) → All is_code_point cs → sum_by characters_of (pieces_of table icase unicode cs) ≡ length cs
unfolding pieces_of
pieces-size table icase unicode [] points = refl
pieces-size table icase unicode (c ∷ cs) points =
    let first = point-before (expansion table icase unicode c) (pieces_of table icase unicode cs) (expansion-points table unicode c icase (All-head is_code_point c cs points)) in
    let rest = pieces-size table icase unicode cs (All-tail is_code_point c cs points) in
    omega (arith, first, rest)

module _ (units : Bool) (table : Table) (unicode : Bool) where
  string-bounded : (icase : Bool) (cs : List ℕ) → All is_code_point cs → string_count units table unicode icase cs ≤ length cs
  string-bounded icase cs points =
      let fewer = pieces-bounded units (pieces_of table icase unicode cs) (all-pieces table icase unicode cs points) in
      let same = pieces-size table icase unicode cs points in
      omega (arith, fewer, same)

  strings-bounded : (icase : Bool) (strings : List (List ℕ)) → All (All is_code_point) strings → sum_by (string_count units table unicode icase) strings ≤ sum_by length strings
  strings-bounded icase [] points = omega arith
  strings-bounded icase (cs ∷ strings) points =
      let own = sum_by-cons (string_count units table unicode icase) cs strings in
      let all = sum_by-cons length cs strings in
      let first = string-bounded icase cs (All-head (All is_code_point) cs strings points) in
      let rest = strings-bounded icase strings (All-tail (All is_code_point) cs strings points) in
      omega (arith, own, all, first, rest)

  -- A tree of n groups has at most three instructions for each node, and for each loop the resets of n groups.
  bounded : (n : ℕ) (t : Tree) → AreLawful n t → ((k : ℕ) → 0 < occurs k t → k < n) → count units table unicode t ≤ 3 * size t + loops t * n
  unfolding count
  bounded n (tree.bytes bs) lawful groups = omega (arith, literal-bounded units bs lawful)
  bounded n (tree.cat a b) lawful groups =
      let e = bounded n a lawful.0 (λ k some. groups k (omega (arith, some))) in
      let f = bounded n b lawful.1 (λ k some. groups k (omega (arith, some))) in
      omega (arith, e, f)
  bounded n (tree.alt a b) lawful groups =
      let e = bounded n a lawful.0 (λ k some. groups k (omega (arith, some))) in
      let f = bounded n b lawful.1 (λ k some. groups k (omega (arith, some))) in
      omega (arith, e, f)
  bounded n (tree.capture k name a) lawful groups =
      let e = bounded n a lawful.1 (λ j some. groups j (omega (arith, some))) in omega (arith, e)
  bounded n (tree.submatch kind first last a) lawful groups = let e = bounded n a lawful.1 groups in omega (arith, e)
  bounded n (tree.loop a first last least most greedy) lawful groups =
      let e = bounded n a lawful.2 groups in
      let few : last - first ≤ n = inside (cases_lt first last) in
      omega (arith, e, few)
    where
      inside : (first < last) ⊎ (last ≤ first) → last - first ≤ n
      inside (inr none) = omega arith
      inside (inl some) =
          let one = inside_one first last a lawful.0 (last - 1) (within-true first last (last - 1) (omega arith) (omega arith)) in
          let below = groups (last - 1) (omega (arith, one)) in
          omega (arith, below, some)
  bounded n (tree.single_loop a least most greedy) lawful groups = omega arith
  bounded n (tree.string_set [] icase) lawful groups = omega arith
  bounded n (tree.string_set (cs ∷ strings) icase) lawful groups =
      let few = strings-bounded icase (cs ∷ strings) lawful in omega (arith, few)
  bounded n tree.empty lawful groups = omega arith
  bounded n tree.no_part lawful groups = omega arith
  bounded n tree.goal lawful groups = omega arith
  bounded n (tree.char c) lawful groups = omega arith
  bounded n (tree.byte_set bs) lawful groups = omega arith
  bounded n (tree.char_set cs) lawful groups = omega arith
  bounded n tree.any lawful groups = omega arith
  bounded n tree.any_in_line lawful groups = omega arith
  bounded n (tree.line_start multiline) lawful groups = omega arith
  bounded n (tree.line_end multiline) lawful groups = omega arith
  bounded n (tree.boundary inverted folded) lawful groups = omega arith
  bounded n (tree.back k icase) lawful groups = omega arith
  bounded n (tree.bracket inverted intervals) lawful groups = omega arith

  -- So has a well-formed tree.
  pub count-bounded : (n : ℕ) (t : Tree) → IsWellFormed n t → count units table unicode t ≤ 3 * size t + loops t * n
  count-bounded n t formed = bounded n t formed.lawful groups
    where
      groups : (k : ℕ) → 0 < occurs k t → k < n
      groups k some = by_place (cases_lt k n)
        where
          by_place : (k < n) ⊎ (n ≤ k) → k < n
          by_place (inl less) = less
          by_place (inr more) = let none = outside_none 0 n t formed.numbered k (within-false 0 n k (inr more)) in absurd (omega (arith, some, none))

  -- A tree has at most two instructions for each node that it may spread over.
  pub spread-bounded : (n : ℕ) (t : Tree) → AreLawful n t → count units table unicode t ≤ 2 * spread t
  unfolding count
  spread-bounded n (tree.bytes bs) lawful = omega (arith, literal-bounded units bs lawful)
  spread-bounded n (tree.cat a b) lawful = omega (arith, spread-bounded n a lawful.0, spread-bounded n b lawful.1)
  spread-bounded n (tree.alt a b) lawful = omega (arith, spread-bounded n a lawful.0, spread-bounded n b lawful.1)
  spread-bounded n (tree.capture k name a) lawful = omega (arith, spread-bounded n a lawful.1)
  spread-bounded n (tree.submatch kind first last a) lawful = omega (arith, spread-bounded n a lawful.1)
  spread-bounded n (tree.loop a first last least most greedy) lawful = omega (arith, spread-bounded n a lawful.2)
  spread-bounded n (tree.single_loop a least most greedy) lawful = omega arith
  spread-bounded n (tree.string_set [] icase) lawful = omega arith
  spread-bounded n (tree.string_set (cs ∷ strings) icase) lawful =
      let few = strings-bounded icase (cs ∷ strings) lawful in omega (arith, few)
  spread-bounded n tree.empty lawful = omega arith
  spread-bounded n tree.no_part lawful = omega arith
  spread-bounded n tree.goal lawful = omega arith
  spread-bounded n (tree.char c) lawful = omega arith
  spread-bounded n (tree.byte_set bs) lawful = omega arith
  spread-bounded n (tree.char_set cs) lawful = omega arith
  spread-bounded n tree.any lawful = omega arith
  spread-bounded n tree.any_in_line lawful = omega arith
  spread-bounded n (tree.line_start multiline) lawful = omega arith
  spread-bounded n (tree.line_end multiline) lawful = omega arith
  spread-bounded n (tree.boundary inverted folded) lawful = omega arith
  spread-bounded n (tree.back k icase) lawful = omega arith
  spread-bounded n (tree.bracket inverted intervals) lawful = omega arith
