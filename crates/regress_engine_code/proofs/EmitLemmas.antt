-- What the emitter's functions need: errors, sizes, and parts of a `Cat`.
use Rattle.std.specs.Prelude.{slice_get}
use Rattle.std.specs.String.{string_bytes}
use Rattle.std.proofs.Common.{Box, String, Option, Some, Global, option_map, chars, if◌then◌else◌, ◌≡◌, ℕ, zero, suc, ◌+◌, ◌<◌, ◌≤◌, Bool, true, false, List, [], ◌∷◌, ◌++◌, Result, length, map, take, get_or, refl, sym, ap, ◌∙◌, subst, arith, length-append}
use Rattle.std.specs.Result.{IsErrAnd, IfErr}
use Rattle.std.proofs.lemmas.Result.{err_from_is_err_and}
use Rattle.regress_meaning.specs.Table.{Table}
use Rattle.regress_meaning.specs.Text.{holds}
use Rattle.regress_front_core.specs.declared.error.Error.{Error}
use Rattle.regress_front_nodes.specs.declared.node.AnchorType.{AnchorType}
use Rattle.regress_front_nodes.specs.declared.node.AnchorType.TheVariants.{StartOfLine, EndOfLine}
use Rattle.regress_front_nodes.specs.declared.node.Node.{Node}
use Rattle.regress_front_nodes.specs.Trees.{Tree, tree, cat_of, anchor_of}
use Rattle.regress_front_nodes.specs.Trees as node
use Rattle.regress_front_nodes.specs.declared.node.Node.TheVariants.{CaptureGroup}
use Rattle.regress_front_nodes.specs.Forms.{in_reading_order}
use Rattle.regress_front_nodes.proofs.TreeLaws.{tree-CaptureGroup}
use Rattle.regress_front_nodes.specs.Singles.{takes_one}
use Rattle.regress_front_nodes.specs.Sizes.{loops}
use Rattle.regress_front_nodes.specs.WellFormed.{AreLawful}
use Rattle.regress_front_nodes.specs.TreeMeaning.{bracket_has}
use Rattle.regress_engine_insn.specs.Counts.{count}
use Rattle.regress_engine_insn.specs.Instructions.{Instruction, Program, Stands, StandFrom}
use Rattle.regress_engine_insn.specs.Instructions as code
use Rattle.regress_engine_insn.specs.Layout.{ProgramPoint, next, later, chunks, byte_set_code}
use Rattle.regress_engine_code.specs.Written.{Written, end, with, Has, Keeps, AddsTree, MayRefuse}
use Rattle.regress_engine_code.specs.Emitting.{anchor_code}
use Rattle.regress_engine_insn.proofs.LiteralLemmas.{one-character, literal-alone}
use Rattle.regress_engine_insn.proofs.CountLemmas.{literal-length}
use Rattle.regress_engine_code.proofs.AddLemmas.{MayRefuse-more, Adds-turned, Adds-all, Adds-one, tree_lies}
use Rattle.regress_engine_code.proofs.WrittenLemmas.{get-front, get-back, Keeps-chain}

-- an error that is handed on, and the same bounds or more
pub err-refused : {T : Type 0} (r : Result T Error) (x : Error) (a l b m : ℕ) → IsErrAnd r (λ e. e ≡ x) → MayRefuse a l x → a ≤ b → l ≤ m
    → IfErr r (MayRefuse b m)
err-refused r x a l b m is may more further =
    let p = err_from_is_err_and r is in rw (p.1, p.2) (MayRefuse-more a l b m x more further may)

-- how much is written when some instructions more are
pub with-size : (w w' : Written) (is : List Instruction) → w' ≡ with w is → (length w'.instructions ≡ length w.instructions + length is) × (w'.loops ≡ w.loops)
with-size w w' is e = (ap (λ (v : Written). length v.instructions) e ∙ length-append w.instructions is, ap (λ (v : Written). v.loops) e)

module _ (units : Bool) (table : Table) (unicode : Bool) where
  -- one of some ASCII characters
  pub AddsTree-byte_set : (b : Bool) (bs : List ℕ) (i : Instruction) (w w' : Written) → i ≡ byte_set_code units bs → w' ≡ with w (i ∷ [])
      → AddsTree units table unicode b (node.byte_set bs) w w'
  AddsTree-byte_set b bs i w w' is e =
      Adds-turned units (λ program p q. Stands program p.address i × (q ≡ next p)) (tree_lies units table unicode b (node.byte_set bs)) w w'
      (λ program same h. (subst (λ j. Stands program (length w.instructions) j) (is ∙ ap (λ (u : Bool). byte_set_code u bs) (sym same)) h.0, h.1))
      (Adds-one units w w' i e)

  -- an anchor
  pub AddsTree-anchor : (b : Bool) (t : AnchorType) (multiline : Bool) (w w' : Written) → w' ≡ with w (anchor_code t multiline ∷ [])
      → AddsTree units table unicode b (anchor_of t multiline) w w'
  AddsTree-anchor b StartOfLine multiline w w' e = Adds-one units w w' (anchor_code StartOfLine multiline) e
  AddsTree-anchor b EndOfLine multiline w w' e = Adds-one units w w' (anchor_code EndOfLine multiline) e

  -- the parts before one, and that part, are no more than all
  pub parts-within : (ns : List Node) (k : ℕ) (part : Node) → k < length ns → part ≡ get_or ns k part
      → (count units table unicode (cat_of (map tree (take k ns))) + count units table unicode (tree part) ≤ count units table unicode (cat_of (map tree ns)))
      × (loops (cat_of (map tree (take k ns))) + loops (tree part) ≤ loops (cat_of (map tree ns)))
  unfolding count
  parts-within [] k part within is = absurd (omega arith)
  parts-within (n ∷ ns) zero part within is =
      let c = ap (λ (m : Node). count units table unicode (tree m)) is in
      let l = ap (λ (m : Node). loops (tree m)) is in
      (omega (arith, c), omega (arith, l))
  parts-within (n ∷ ns) (suc k) part within is =
      let rest = parts-within ns k part (omega arith) is in
      let c = rest.0 in let l = rest.1 in
      (omega (arith, c), omega (arith, l))

-- the parts before one are lawful, and so is that part
pub parts-lawful : (n : ℕ) (ns : List Node) (k : ℕ) (part : Node) → k < length ns → part ≡ get_or ns k part → AreLawful n (cat_of (map tree ns))
    → AreLawful n (cat_of (map tree (take k ns))) × AreLawful n (tree part)
parts-lawful n [] k part within is lawful = absurd (omega arith)
parts-lawful n (m ∷ ns) zero part within is lawful = (tt, subst (λ x. AreLawful n (tree x)) (sym is) lawful.0)
parts-lawful n (m ∷ ns) (suc k) part within is lawful =
    let rest = parts-lawful n ns k part (omega arith) is lawful.1 in ((lawful.0, rest.0), rest.1)

module _ (units : Bool) (table : Table) (unicode : Bool) where
  -- what takes one character is one instruction, and no loop
  pub single-count : (n : ℕ) (a : Tree) → takes_one a ≡ true → AreLawful n a → (count units table unicode a ≡ 1) × (loops a ≡ 0)
  unfolding count
  single-count n (node.char c) is lawful = (refl, refl)
  single-count n node.any is lawful = (refl, refl)
  single-count n node.any_in_line is lawful = (refl, refl)
  single-count n (node.byte_set bs) is lawful = (refl, refl)
  single-count n (node.char_set cs) is lawful = (refl, refl)
  single-count n (node.bracket inverted intervals) is lawful = (refl, refl)
  single-count n (node.bytes bs) is lawful =
      let alone = one-character bs is in
      let program : Program = record { instructions = []; brackets = []; loops = 0; groups = 0; units = units } in
      (sym (literal-length program false bs) ∙ ap length (literal-alone program false bs alone.0 alone.1 lawful), refl)
  single-count n _ is lawful = absurd (grind arith)

-- what holds of a group with each name holds of the node of a group
pub of-capture : (m : Node) (id : ℕ) (contents : Box Node Global) (name : Option (String Global)) (R : Tree → Type 0) → m ≡ CaptureGroup id contents name
    → ((k : Option (List ℕ)) → R (node.capture id k (tree contents.value))) → R (tree m)
of-capture m id contents name R is all =
    subst R (sym (ap tree is ∙ tree-CaptureGroup id contents name)) (all (option_map (λ text. chars (string_bytes text)) name))

module _ (units : Bool) (table : Table) (unicode : Bool) where
  -- a literal
  pub AddsTree-bytes : (b : Bool) (bs : List ℕ) (is : List Instruction) (w w' : Written)
      → is ≡ in_reading_order b (if units then map code.char (chars bs) else map code.byte_seq (chunks (length bs) bs)) → w' ≡ with w is
      → AddsTree units table unicode b (node.bytes bs) w w'
  AddsTree-bytes b bs is w w' told e =
      Adds-turned units (λ program p q. StandFrom program p.address is × (q ≡ later p (length is))) (tree_lies units table unicode b (node.bytes bs)) w w'
      (λ program same h.
      subst (λ (js : List Instruction). StandFrom program (length w.instructions) js × (end w' ≡ later (end w) (length js)))
      (told ∙ ap (λ (u : Bool). in_reading_order b (if u then map code.char (chars bs) else map code.byte_seq (chunks (length bs) bs))) (sym same)) h)
      (Adds-all units w w' is e)

  -- a bracket of ASCII
  pub AddsTree-ascii_bracket : (b inverted : Bool) (intervals : List (ℕ × ℕ)) (cs : List ℕ) (w w' : Written) → ((c : ℕ) → holds cs c ≡ bracket_has inverted intervals c)
      → w' ≡ with w (code.ascii_bracket cs ∷ []) → AddsTree units table unicode b (node.bracket inverted intervals) w w'
  AddsTree-ascii_bracket b inverted intervals cs w w' same e =
      let adds = Adds-one units w w' (code.ascii_bracket cs) e in
      record { kept = adds.kept; lie = λ program units' has. (code.ascii_bracket cs, same, adds.lie program units' has) }

  -- a bracket
  pub AddsTree-bracket : (b inverted : Bool) (intervals : List (ℕ × ℕ)) (k : ℕ) (w v w' : Written) → k ≡ length w.brackets
      → v ≡ record w { brackets = w.brackets ++ (inverted, intervals) ∷ [] } → w' ≡ with v (code.bracket k ∷ [])
      → AddsTree units table unicode b (node.bracket inverted intervals) w w'
  AddsTree-bracket b inverted intervals k w v w' at added e =
      let kept : Keeps w v = subst (λ u. Keeps w u) (sym added) (record {
        further = omega arith;
        instructions = λ j i h. h;
        brackets = λ j x h. get-front w.brackets ((inverted, intervals) ∷ []) j x h;
      }) in
      let adds = Adds-one units v w' (code.bracket k) e in
      let same : end v ≡ end w = ap end added in
      let there : slice_get v.brackets k ≡ Some (inverted, intervals) =
      ap (λ (u : Written). slice_get u.brackets k) added
      ∙ ap (slice_get (w.brackets ++ (inverted, intervals) ∷ [])) (at ∙ (let z : length w.brackets ≡ length w.brackets + 0 = omega arith in z))
      ∙ get-back w.brackets ((inverted, intervals) ∷ []) 0 (inverted, intervals) refl in
      record {
        kept = Keeps-chain w v w' kept adds.kept;
        lie = λ program units' has. (
          code.bracket k,
          has.brackets k (inverted, intervals) (adds.kept.brackets k (inverted, intervals) there),
          subst (λ (p : ProgramPoint). Stands program p.address (code.bracket k) × (end w' ≡ next p)) same
              (adds.lie program units' (subst (λ n. Has program n w') (sym (ap (λ (p : ProgramPoint). p.address) same)) has)),
        );
      }
