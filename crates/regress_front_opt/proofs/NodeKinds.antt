-- Nodes that are none of a kind, and so don't pass the test of it.
use Rattle.std.proofs.Common.{List, ◌≡◌, ℕ, true, false, [], ◌∷◌, map, Vec, Box, Global, refl, sym}
use Rattle.std.proofs.lemmas.Bool.{false≢true}
use Rattle.std.specs.declared.ops.Range.{Range}
use Rattle.regress_front_core.specs.declared.quantifier.Quantifier.{Quantifier}
use Rattle.regress_front_nodes.specs.declared.node.AnchorType.TheVariants.{StartOfLine, EndOfLine}
use Rattle.regress_front_nodes.specs.declared.node.Node.{Node, Node-F, fold-roll-Node, roll-Node}
use Rattle.regress_front_nodes.specs.declared.node.Node.TheVariants as N
use Rattle.regress_front_nodes.specs.Trees.{Tree, tree, node_tree, cat_of, cat}
use Rattle.regress_front_nodes.specs.Forms.{is_cat, parts}
use Rattle.regress_front_nodes.proofs.KindLemmas.{by_kind}
use Rattle.regress_front_rules.specs.NormalForm.{is_empty_choice, is_loose_char, is_loop_of_one, is_unrollable, is_idle_loop, is_literal, has_split_literal}

no-choice-cat_of : (ts : List Tree) → is_empty_choice (cat_of ts) ≡ false
no-choice-cat_of [] = refl
no-choice-cat_of (t ∷ ts) = refl

-- no `Alt`
pub no-choice : (n : Node) → ((a b : Box Node Global) → n ≡ N.Alt a b → ⊥) → is_empty_choice (tree n) ≡ false
no-choice = by_kind (λ n. ((a b : Box Node Global) → n ≡ N.Alt a b → ⊥) → is_empty_choice (tree n) ≡ false) kinds
  where
    kinds : (m : Node-F Node) → let n = roll-Node m in ((a b : Box Node Global) → n ≡ N.Alt a b → ⊥) → is_empty_choice (tree n) ≡ false
    kinds (Node-F.Alt a b) h = absurd (h a b (N.rolls-Alt a b))
    kinds (Node-F.Cat parts) h = rw (fold-roll-Node Tree node_tree (Node-F.Cat parts)) (no-choice-cat_of (map tree parts.items))
    kinds (Node-F.Anchor StartOfLine multiline) h = rw (fold-roll-Node Tree node_tree (Node-F.Anchor StartOfLine multiline)) refl
    kinds (Node-F.Anchor EndOfLine multiline) h = rw (fold-roll-Node Tree node_tree (Node-F.Anchor EndOfLine multiline)) refl
    kinds x h = rw (fold-roll-Node Tree node_tree x) refl

no-letter-cat_of : (ts : List Tree) → is_loose_char (cat_of ts) ≡ false
no-letter-cat_of [] = refl
no-letter-cat_of (t ∷ ts) = refl

-- no `Char`
pub no-letter : (n : Node) → ((c : ℕ) → n ≡ N.Char c → ⊥) → is_loose_char (tree n) ≡ false
no-letter = by_kind (λ n. ((c : ℕ) → n ≡ N.Char c → ⊥) → is_loose_char (tree n) ≡ false) kinds
  where
    kinds : (m : Node-F Node) → let n = roll-Node m in ((c : ℕ) → n ≡ N.Char c → ⊥) → is_loose_char (tree n) ≡ false
    kinds (Node-F.Char c) h = absurd (h c (N.rolls-Char c))
    kinds (Node-F.Cat parts) h = rw (fold-roll-Node Tree node_tree (Node-F.Cat parts)) (no-letter-cat_of (map tree parts.items))
    kinds (Node-F.Anchor StartOfLine multiline) h = rw (fold-roll-Node Tree node_tree (Node-F.Anchor StartOfLine multiline)) refl
    kinds (Node-F.Anchor EndOfLine multiline) h = rw (fold-roll-Node Tree node_tree (Node-F.Anchor EndOfLine multiline)) refl
    kinds x h = rw (fold-roll-Node Tree node_tree x) refl

no-loop-cat_of : (ts : List Tree) → is_loop_of_one (cat_of ts) ≡ false
no-loop-cat_of [] = refl
no-loop-cat_of (t ∷ ts) = refl

-- no `Loop`
pub no-loop : (n : Node) → ((loopee : Box Node Global) (quant : Quantifier) (groups : Range ℕ) → n ≡ N.Loop loopee quant groups → ⊥) → is_loop_of_one (tree n) ≡ false
no-loop = by_kind (λ n. ((loopee : Box Node Global) (quant : Quantifier) (groups : Range ℕ) → n ≡ N.Loop loopee quant groups → ⊥) → is_loop_of_one (tree n) ≡ false) kinds
  where
    kinds : (m : Node-F Node) → let n = roll-Node m in ((loopee : Box Node Global) (quant : Quantifier) (groups : Range ℕ) → n ≡ N.Loop loopee quant groups → ⊥) → is_loop_of_one (tree n) ≡ false
    kinds (Node-F.Loop loopee quant groups) h = absurd (h loopee quant groups (N.rolls-Loop loopee quant groups))
    kinds (Node-F.Cat parts) h = rw (fold-roll-Node Tree node_tree (Node-F.Cat parts)) (no-loop-cat_of (map tree parts.items))
    kinds (Node-F.Anchor StartOfLine multiline) h = rw (fold-roll-Node Tree node_tree (Node-F.Anchor StartOfLine multiline)) refl
    kinds (Node-F.Anchor EndOfLine multiline) h = rw (fold-roll-Node Tree node_tree (Node-F.Anchor EndOfLine multiline)) refl
    kinds x h = rw (fold-roll-Node Tree node_tree x) refl

pub no-cat : (n : Node) → ((parts : Vec Node Global) → n ≡ N.Cat parts → ⊥) → is_cat (tree n) ≡ false
no-cat = by_kind (λ n. ((parts : Vec Node Global) → n ≡ N.Cat parts → ⊥) → is_cat (tree n) ≡ false) kinds
  where
    kinds : (m : Node-F Node) → let n = roll-Node m in ((parts : Vec Node Global) → n ≡ N.Cat parts → ⊥) → is_cat (tree n) ≡ false
    kinds (Node-F.Cat parts) h = absurd (h parts (N.rolls-Cat parts))
    kinds (Node-F.Anchor StartOfLine multiline) h = rw (fold-roll-Node Tree node_tree (Node-F.Anchor StartOfLine multiline)) refl
    kinds (Node-F.Anchor EndOfLine multiline) h = rw (fold-roll-Node Tree node_tree (Node-F.Anchor EndOfLine multiline)) refl
    kinds x h = rw (fold-roll-Node Tree node_tree x) refl

no-literal-cat_of : (ts : List Tree) → is_literal (cat_of ts) ≡ false
no-literal-cat_of [] = refl
no-literal-cat_of (t ∷ ts) = refl

-- no `ByteSequence`
pub no-literal : (n : Node) → ((bs : Vec ℕ Global) → n ≡ N.ByteSequence bs → ⊥) → is_literal (tree n) ≡ false
no-literal = by_kind (λ n. ((bs : Vec ℕ Global) → n ≡ N.ByteSequence bs → ⊥) → is_literal (tree n) ≡ false) kinds
  where
    kinds : (m : Node-F Node) → let n = roll-Node m in ((bs : Vec ℕ Global) → n ≡ N.ByteSequence bs → ⊥) → is_literal (tree n) ≡ false
    kinds (Node-F.ByteSequence bs) h = absurd (h bs (N.rolls-ByteSequence bs))
    kinds (Node-F.Cat parts) h = rw (fold-roll-Node Tree node_tree (Node-F.Cat parts)) (no-literal-cat_of (map tree parts.items))
    kinds (Node-F.Anchor StartOfLine multiline) h = rw (fold-roll-Node Tree node_tree (Node-F.Anchor StartOfLine multiline)) refl
    kinds (Node-F.Anchor EndOfLine multiline) h = rw (fold-roll-Node Tree node_tree (Node-F.Anchor EndOfLine multiline)) refl
    kinds x h = rw (fold-roll-Node Tree node_tree x) refl

pub no_cat-split : (t : Tree) → is_cat t ≡ false → has_split_literal t ≡ false
no_cat-split (cat a b) h = absurd (false≢true (sym h))
no_cat-split _ h = refl

no-short-loop-cat_of : (ts : List Tree) → is_unrollable (cat_of ts) ≡ false
no-short-loop-cat_of [] = refl
no-short-loop-cat_of (t ∷ ts) = refl

-- no `Loop` to be unrolled
pub no-short-loop : (n : Node) → ((loopee : Box Node Global) (quant : Quantifier) (groups : Range ℕ) → n ≡ N.Loop loopee quant groups → ⊥) → is_unrollable (tree n) ≡ false
no-short-loop = by_kind (λ n. ((loopee : Box Node Global) (quant : Quantifier) (groups : Range ℕ) → n ≡ N.Loop loopee quant groups → ⊥) → is_unrollable (tree n) ≡ false) kinds
  where
    kinds : (m : Node-F Node) → let n = roll-Node m in ((loopee : Box Node Global) (quant : Quantifier) (groups : Range ℕ) → n ≡ N.Loop loopee quant groups → ⊥) → is_unrollable (tree n) ≡ false
    kinds (Node-F.Loop loopee quant groups) h = absurd (h loopee quant groups (N.rolls-Loop loopee quant groups))
    kinds (Node-F.Cat parts) h = rw (fold-roll-Node Tree node_tree (Node-F.Cat parts)) (no-short-loop-cat_of (map tree parts.items))
    kinds (Node-F.Anchor StartOfLine multiline) h = rw (fold-roll-Node Tree node_tree (Node-F.Anchor StartOfLine multiline)) refl
    kinds (Node-F.Anchor EndOfLine multiline) h = rw (fold-roll-Node Tree node_tree (Node-F.Anchor EndOfLine multiline)) refl
    kinds x h = rw (fold-roll-Node Tree node_tree x) refl

no-idle-loop-cat_of : (ts : List Tree) → is_idle_loop (cat_of ts) ≡ false
no-idle-loop-cat_of [] = refl
no-idle-loop-cat_of (t ∷ ts) = refl

-- no `Loop`, and so none that is idle
pub no-idle-loop : (n : Node) → ((loopee : Box Node Global) (quant : Quantifier) (groups : Range ℕ) → n ≡ N.Loop loopee quant groups → ⊥) → is_idle_loop (tree n) ≡ false
no-idle-loop = by_kind (λ n. ((loopee : Box Node Global) (quant : Quantifier) (groups : Range ℕ) → n ≡ N.Loop loopee quant groups → ⊥) → is_idle_loop (tree n) ≡ false) kinds
  where
    kinds : (m : Node-F Node) → let n = roll-Node m in ((loopee : Box Node Global) (quant : Quantifier) (groups : Range ℕ) → n ≡ N.Loop loopee quant groups → ⊥) → is_idle_loop (tree n) ≡ false
    kinds (Node-F.Loop loopee quant groups) h = absurd (h loopee quant groups (N.rolls-Loop loopee quant groups))
    kinds (Node-F.Cat parts) h = rw (fold-roll-Node Tree node_tree (Node-F.Cat parts)) (no-idle-loop-cat_of (map tree parts.items))
    kinds (Node-F.Anchor StartOfLine multiline) h = rw (fold-roll-Node Tree node_tree (Node-F.Anchor StartOfLine multiline)) refl
    kinds (Node-F.Anchor EndOfLine multiline) h = rw (fold-roll-Node Tree node_tree (Node-F.Anchor EndOfLine multiline)) refl
    kinds x h = rw (fold-roll-Node Tree node_tree x) refl
