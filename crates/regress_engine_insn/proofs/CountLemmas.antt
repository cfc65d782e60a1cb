-- A layout has as many instructions and loops as are written of its tree.
use Rattle.std.specs.Prelude.{chars, sum_by}
use Rattle.std.specs.Int.{div_ceil}
use Rattle.std.proofs.Common.{◌≡◌, ℕ, zero, suc, ◌+◌, ◌-◌, ◌*◌, ◌<◌, ◌≤◌, Bool, true, false, List, [], ◌∷◌, length, map, reverse, drop, All, if◌then◌else◌, refl, ap, ◌∙◌, arith, length-append, length-drop}
use Rattle.std.proofs.lemmas.List.{length-map, reverse-append, length-reverse}
use Rattle.std.proofs.lemmas.List.Elements.{All-head, All-tail}
use Rattle.std.proofs.lemmas.List.Sums.{sum_by-append, sum_by-cons}
use Rattle.regress_meaning.specs.TableParts.{is_code_point}
use Rattle.regress_front_nodes.specs.Trees.{Tree}
use Rattle.regress_front_nodes.specs.TreeMeaning.{reads_backward}
use Rattle.regress_front_nodes.specs.Trees as tree
use Rattle.regress_front_nodes.specs.Pieces.{pieces_of}
use Rattle.regress_front_nodes.specs.Forms.{in_reading_order}
use Rattle.regress_front_nodes.specs.Singles.{takes_one}
use Rattle.regress_front_nodes.specs.Sizes.{loops}
use Rattle.regress_front_nodes.specs.WellFormed.{AreLawful}
use Rattle.regress_engine_insn.specs.Instructions.{Instruction, Program}
use Rattle.regress_engine_insn.specs.Instructions as code
use Rattle.regress_engine_insn.specs.Layout.{ProgramPoint, next, later, Target, most_bytes, chunks, literal_code, piece_code, pieces_code, string_code, AreArms, Lies, IsLayout}
use Rattle.regress_engine_insn.specs.Counts.{literal_count, piece_count, string_count, strings_count, count}
use Rattle.regress_engine_insn.proofs.LayoutLemmas.{at-same}
use Rattle.regress_engine_insn.proofs.LiteralLemmas.{one-character, literal-alone}
use Rattle.regress_engine_insn.proofs.StringLemmas.{IsPiece, all-pieces, ordered-pieces}

-- the chunks are as many as their bytes need
chunks-bounds : (n : ℕ) (bs : List ℕ) → length bs ≤ n → (length bs ≤ 16 * length (chunks n bs)) × (16 * length (chunks n bs) < length bs + 16)
chunks-bounds zero [] few = (omega arith, omega arith)
chunks-bounds zero (b ∷ bs) few = absurd (omega arith)
chunks-bounds (suc n) [] few = (omega arith, omega arith)
chunks-bounds (suc n) (b ∷ bs) few =
    let size = length-drop most_bytes (b ∷ bs) in
    let rest = chunks-bounds n (drop most_bytes (b ∷ bs)) (omega (arith, size, few)) in
    let below = rest.0 in
    let above = rest.1 in
    (omega (arith, size, below), above-by n (length bs) (length (drop most_bytes (b ∷ bs))) (length (chunks n (drop most_bytes (b ∷ bs)))) size above (none n (drop most_bytes (b ∷ bs))))
  where
    none : (n : ℕ) (ds : List ℕ) → length ds ≡ 0 → length (chunks n ds) ≡ 0
    none zero [] e = refl
    none (suc n) [] e = refl
    none n (d ∷ ds) e = absurd (omega arith)

    above-by : (n size rest parts : ℕ) → rest ≡ suc size - 16 → 16 * parts < rest + 16 → (rest ≡ 0 → parts ≡ 0) → 16 * suc parts < suc size + 16
    above-by n size rest parts e above empty = omega arith

rounded-up : (a k : ℕ) → a ≤ 16 * k → 16 * k < a + 16 → k ≡ div_ceil a 16
rounded-up a k below above = omega arith

in_order-length : {A : Type 0} (b : Bool) (xs : List A) → length (in_reading_order b xs) ≡ length xs
in_order-length true xs = length-reverse xs
in_order-length false xs = refl

pub literal-length : (program : Program) (b : Bool) (bs : List ℕ) → length (literal_code program b bs) ≡ literal_count program.units bs
literal-length program b bs = by_units program.units
  where
    by_units : (u : Bool) → length (in_reading_order b (if u then map code.char (chars bs) else map code.byte_seq (chunks (length bs) bs))) ≡ literal_count u bs
    by_units true = in_order-length b (map code.char (chars bs)) ∙ length-map (chars bs) code.char
    by_units false =
        let bounds = chunks-bounds (length bs) bs (omega arith) in
        in_order-length b (map code.byte_seq (chunks (length bs) bs)) ∙ length-map (chunks (length bs) bs) code.byte_seq ∙ rounded-up (length bs) (length (chunks (length bs) bs)) bounds.0 bounds.1

-- ---- strings

piece-length : (program : Program) (b : Bool) (t : Tree) → IsPiece t → length (piece_code program b t) ≡ piece_count program.units t
piece-length program b (tree.char c) is = refl
piece-length program b (tree.bytes bs) is = literal-length program b bs
piece-length program b (tree.byte_set bs) is = refl
piece-length program b (tree.char_set cs) is = refl
piece-length program b _ is = absurd is

pieces-length : (program : Program) (b : Bool) (ts : List Tree) → All IsPiece ts → length (pieces_code program b ts) ≡ sum_by (piece_count program.units) ts
pieces-length program b [] are = refl
pieces-length program b (t ∷ ts) are =
    let size = length-append (piece_code program b t) (pieces_code program b ts) in
    let first = piece-length program b t (All-head IsPiece t ts are) in
    let rest = pieces-length program b ts (All-tail IsPiece t ts are) in
    let sum = sum_by-cons (piece_count program.units) t ts in
    omega (arith, size, first, rest, sum)

last-first : (a b c d : ℕ) → a ≡ b → d ≡ c + b → a + (0 + c) ≡ d
last-first a b c d e h = omega arith

sum-turned : (f : Tree → ℕ) (b : Bool) (ts : List Tree) → sum_by f (in_reading_order b ts) ≡ sum_by f ts
sum-turned f false ts = refl
sum-turned f true [] = refl
sum-turned f true (t ∷ ts) =
    let turned = ap (sum_by f) (reverse-append (t ∷ []) ts) in
    let parts = sum_by-append f (reverse ts) (t ∷ []) in
    let rest = sum-turned f true ts in
    turned ∙ parts ∙ last-first (sum_by f (reverse ts)) (sum_by f ts) (f t) (sum_by f (t ∷ ts)) rest (sum_by-cons f t ts)

-- the loops of a program point that is told by another
loops-at : (p q : ProgramPoint) → q ≡ p → q.loops ≡ p.loops
loops-at p q e = ap (λ (m : ProgramPoint). m.loops) e

module _ (target : Target) where
  abbrev Counted : ProgramPoint → ProgramPoint → ℕ → ℕ → Type 0
  Counted p q n k = (q.address ≡ p.address + n) × (q.loops ≡ p.loops + k)

  abbrev own : Tree → ℕ
  own t = count target.program.units target.table target.unicode t

  -- one instruction
  one : (p q : ProgramPoint) → q ≡ next p → Counted p q 1 0
  one p q e = let a = at-same (next p) q e in let l = loops-at (next p) q e in (omega (arith, a), omega (arith, l))

  none : (p q : ProgramPoint) → q ≡ p → Counted p q 0 0
  none p q e = let a = at-same p q e in let l = loops-at p q e in (omega (arith, a), omega (arith, l))

  some : (p q : ProgramPoint) (n m : ℕ) → q ≡ later p n → n ≡ m → Counted p q m 0
  some p q n m e f = let a = at-same (later p n) q e in let l = loops-at (later p n) q e in (omega (arith, a, f), omega (arith, l))

  pub string-length : (b icase : Bool) (cs : List ℕ) → All is_code_point cs
      → length (string_code target b icase cs)
      ≡ string_count target.program.units target.table target.unicode icase cs
  string-length b icase cs points =
      let ts : List Tree = pieces_of target.table icase target.unicode cs in
      pieces-length target.program b (in_reading_order b ts) (ordered-pieces b ts (all-pieces target.table icase target.unicode cs points))
      ∙ sum-turned (piece_count target.program.units) b ts

  arms-counted : (b icase : Bool) (strings : List (List ℕ)) (p q : ProgramPoint) → All (All is_code_point) strings → AreArms target b icase strings p q
      → Counted p q (strings_count target.program.units target.table target.unicode icase strings) 0
  arms-counted b icase [] p q points (here, end) = one p q end
  arms-counted b icase (cs ∷ []) p q points (stand, end) =
      let size = string-length b icase cs (All-head (All is_code_point) cs [] points) in
      some p q _ _ end (omega (arith, size))
  arms-counted b icase (cs ∷ ds ∷ strings) p q points (m, first, alt, jump, rest) =
      let size = string-length b icase cs (All-head (All is_code_point) cs (ds ∷ strings) points) in
      let e = some (next p) m _ _ first.1 size in
      let f = arms-counted b icase (ds ∷ strings) (next m) q (All-tail (All is_code_point) cs (ds ∷ strings) points) rest in
      let sum = sum_by-cons (string_count target.program.units target.table target.unicode icase) cs (ds ∷ strings) in
      let at = e.0 in let more = f.0 in let loop = e.1 in let loops' = f.1 in
      (omega (arith, at, more, sum), omega (arith, loop, loops'))

  -- what takes one character is one instruction
  single-counted : (n : ℕ) (a : Tree) (b : Bool) (p q : ProgramPoint) → Lies target b a p q → takes_one a ≡ true → AreLawful n a → Counted p q 1 0
  single-counted n (tree.char c) b p q h is lawful = one p q h.1
  single-counted n tree.any b p q h is lawful = one p q h.1
  single-counted n tree.any_in_line b p q h is lawful = one p q h.1
  single-counted n (tree.byte_set bs) b p q h is lawful = one p q h.1
  single-counted n (tree.char_set cs) b p q h is lawful = one p q h.1
  single-counted n (tree.bracket inverted intervals) b p q (i, has, h) is lawful = one p q h.1
  single-counted n (tree.bytes bs) b p q (stand, end) is lawful =
      let alone = one-character bs is in some p q _ 1 end (ap length (literal-alone target.program b bs alone.0 alone.1 lawful))
  single-counted n _ b p q h is lawful = absurd (grind arith)

  -- Between the two program points are as many addresses as the tree has instructions, and as many loops as it has.
  pub counted : (n : ℕ) (t : Tree) (b : Bool) (p q : ProgramPoint) → Lies target b t p q → AreLawful n t → Counted p q (own t) (loops t)
  unfolding count
  counted n tree.empty b p q h lawful = none p q h
  counted n tree.no_part b p q h lawful = none p q h
  counted n (tree.bytes bs) b p q (stand, end) lawful = some p q _ _ end (literal-length target.program b bs)
  counted n (tree.cat s t) b p q (m, h, k) lawful =
      let e = counted n s b p m h lawful.0 in let f = counted n t b m q k lawful.1 in
      let at = e.0 in let more = f.0 in let loop = e.1 in let loops' = f.1 in
      (omega (arith, at, more), omega (arith, loop, loops'))
  counted n (tree.alt s t) b p q (m, alt, h, jump, k) lawful =
      let e = counted n s b (next p) m h lawful.0 in let f = counted n t b (next m) q k lawful.1 in
      let at = e.0 in let more = f.0 in let loop = e.1 in let loops' = f.1 in
      (omega (arith, at, more), omega (arith, loop, loops'))
  counted n (tree.capture k name a) b p q (m, begin, h, end) lawful =
      let e = counted n a b (next p) m h lawful.1 in let f = one m q end.1 in
      let at = e.0 in let more = f.0 in let loop = e.1 in let loops' = f.1 in
      (omega (arith, at, more), omega (arith, loop, loops'))
  counted n (tree.submatch kind first last a) b p q (m, begin, h, end) lawful =
      let e = counted n a (reads_backward kind b) (next p) m h lawful.1 in let f = one m q end.1 in
      let at = e.0 in let more = f.0 in let loop = e.1 in let loops' = f.1 in
      (omega (arith, at, more), omega (arith, loop, loops'))
  counted n (tree.loop a first last least most greedy) b p q (m, begin, reset, h, end) lawful =
      let e = counted n a b _ m h lawful.2 in let f = one m q end.1 in
      let at = e.0 in let more = f.0 in let loop = e.1 in let loops' = f.1 in
      (omega (arith, at, more), omega (arith, loop, loops'))
  counted n (tree.single_loop a least most greedy) b p q (here, h) lawful =
      let e = single-counted n a b (next p) q h lawful.0 lawful.2 in
      let none' = without n a lawful.0 in
      let at = e.0 in let loop = e.1 in
      (omega (arith, at), omega (arith, loop, none'))
    where
      without : (n : ℕ) (a : Tree) → takes_one a ≡ true → loops a ≡ 0
      without n (tree.cat s t) is = absurd (grind arith)
      without n (tree.alt s t) is = absurd (grind arith)
      without n (tree.capture k name a) is = absurd (grind arith)
      without n (tree.submatch kind first last a) is = absurd (grind arith)
      without n (tree.loop a first last least most greedy) is = absurd (grind arith)
      without n (tree.single_loop a least most greedy) is = absurd (grind arith)
      without n _ is = refl
  counted n (tree.bracket inverted intervals) b p q (i, has, h) lawful = one p q h.1
  counted n (tree.string_set strings icase) b p q h lawful = arms-counted b icase strings p q lawful h
  counted n tree.goal b p q h lawful = one p q h.1
  counted n (tree.char c) b p q h lawful = one p q h.1
  counted n (tree.byte_set bs) b p q h lawful = one p q h.1
  counted n (tree.char_set cs) b p q h lawful = one p q h.1
  counted n tree.any b p q h lawful = one p q h.1
  counted n tree.any_in_line b p q h lawful = one p q h.1
  counted n (tree.line_start multiline) b p q h lawful = one p q h.1
  counted n (tree.line_end multiline) b p q h lawful = one p q h.1
  counted n (tree.boundary inverted folded) b p q h lawful = one p q h.1
  counted n (tree.back k icase) b p q h lawful = one p q h.1

  -- so have the whole program and its tree
  pub all-counted : (n : ℕ) (t : Tree) → AreLawful n t → IsLayout target n t
      → (length target.program.instructions ≡ own t) × (target.program.loops ≡ loops t)
  all-counted n t lawful layout =
      let e = counted n t false (record { address = 0; loops = 0 }) (record { address = length target.program.instructions; loops = target.program.loops }) layout.lies lawful in
      let at = e.0 in let loop = e.1 in
      (omega (arith, at), omega (arith, loop))
