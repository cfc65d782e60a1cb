-- Nodes that are none of some kinds.
use Rattle.std.proofs.Common.{◌≡◌, ℕ, Bool, true, false, [], length, map, Option, String, refl, sym, ap, ◌∙◌, Vec, Box, Global, arith}
use Rattle.std.proofs.lemmas.Bool.{false≢true}
use Rattle.std.specs.declared.boxed.BoxedSlice.{BoxedSlice}
use Rattle.std.specs.declared.ops.Range.{Range}
use Rattle.regress_front_core.specs.declared.quantifier.Quantifier.{Quantifier}
use Rattle.regress_front_nodes.specs.declared.node.AnchorType.{AnchorType}
use Rattle.regress_front_nodes.specs.declared.node.AnchorType.TheVariants.{StartOfLine, EndOfLine}
use Rattle.regress_front_nodes.specs.declared.node.BracketContents.{BracketContents}
use Rattle.regress_front_nodes.specs.declared.node.Node.{Node, Node-F, fold-roll-Node, roll-Node, ind-Node}
use Rattle.regress_front_nodes.specs.declared.node.Node.TheVariants as N
use Rattle.regress_front_nodes.specs.Trees.{Tree, tree, node_tree, anchor_of}
use Rattle.regress_front_nodes.specs.Forms.{is_empty, is_leaf}
use Rattle.regress_front_nodes.specs.WellFormed.{group_ids}
use Rattle.regress_front_nodes.specs.Singles.{always_fails, takes_one}
use Rattle.regress_front_nodes.proofs.NodeLemmas.{is_empty-cat_of, is_empty-anchor_of, always_fails-cat_of, always_fails-anchor_of, takes_one-cat_of, takes_one-anchor_of}
use Rattle.regress_front_nodes.proofs.CopyLemmas.{is_leaf-cat_of}

is_leaf-anchor_of : (t : AnchorType) (multiline : Bool) → is_leaf (anchor_of t multiline) ≡ true
is_leaf-anchor_of StartOfLine multiline = refl
is_leaf-anchor_of EndOfLine multiline = refl

-- what holds of each kind of node holds of each node
pub by_kind : (P : Node → Type 0) → ((x : Node-F Node) → P (roll-Node x)) → (n : Node) → P n
by_kind P each = ind-Node P (λ x y is. each x)

-- no `Empty`
pub other_than_empty : (n : Node) → (n ≡ N.Empty → ⊥) → is_empty (tree n) ≡ false
other_than_empty = by_kind (λ n. (n ≡ N.Empty → ⊥) → is_empty (tree n) ≡ false) kinds
  where
    kinds : (m : Node-F Node) → let n = roll-Node m in (n ≡ N.Empty → ⊥) → is_empty (tree n) ≡ false
    kinds Node-F.Empty h0 = absurd (h0 N.rolls-Empty)
    kinds Node-F.Goal h0 = rw (fold-roll-Node Tree node_tree Node-F.Goal) refl
    kinds (Node-F.Char c) h0 = rw (fold-roll-Node Tree node_tree (Node-F.Char c)) refl
    kinds (Node-F.ByteSequence bs) h0 = rw (fold-roll-Node Tree node_tree (Node-F.ByteSequence bs)) refl
    kinds (Node-F.ByteSet bs) h0 = rw (fold-roll-Node Tree node_tree (Node-F.ByteSet bs)) refl
    kinds (Node-F.CharSet cs) h0 = rw (fold-roll-Node Tree node_tree (Node-F.CharSet cs)) refl
    kinds (Node-F.Cat parts) h0 = rw (fold-roll-Node Tree node_tree (Node-F.Cat parts)) (is_empty-cat_of (map tree parts.items))
    kinds (Node-F.Alt a b) h0 = rw (fold-roll-Node Tree node_tree (Node-F.Alt a b)) refl
    kinds Node-F.MatchAny h0 = rw (fold-roll-Node Tree node_tree Node-F.MatchAny) refl
    kinds Node-F.MatchAnyExceptLineTerminator h0 = rw (fold-roll-Node Tree node_tree Node-F.MatchAnyExceptLineTerminator) refl
    kinds (Node-F.Anchor t multiline) h0 = rw (fold-roll-Node Tree node_tree (Node-F.Anchor t multiline)) (is_empty-anchor_of t multiline)
    kinds (Node-F.WordBoundary invert folded) h0 = rw (fold-roll-Node Tree node_tree (Node-F.WordBoundary invert folded)) refl
    kinds (Node-F.CaptureGroup id contents name) h0 = rw (fold-roll-Node Tree node_tree (Node-F.CaptureGroup id contents name)) refl
    kinds (Node-F.BackRef group icase) h0 = rw (fold-roll-Node Tree node_tree (Node-F.BackRef group icase)) refl
    kinds (Node-F.Bracket contents) h0 = rw (fold-roll-Node Tree node_tree (Node-F.Bracket contents)) refl
    kinds (Node-F.StringSet alternatives icase) h0 = rw (fold-roll-Node Tree node_tree (Node-F.StringSet alternatives icase)) refl
    kinds (Node-F.LookaroundAssertion negate backwards start end contents) h0 = rw (fold-roll-Node Tree node_tree (Node-F.LookaroundAssertion negate backwards start end contents)) refl
    kinds (Node-F.AtomicGroup start end contents) h0 = rw (fold-roll-Node Tree node_tree (Node-F.AtomicGroup start end contents)) refl
    kinds (Node-F.Loop loopee quant groups) h0 = rw (fold-roll-Node Tree node_tree (Node-F.Loop loopee quant groups)) refl
    kinds (Node-F.Loop1CharBody loopee quant) h0 = rw (fold-roll-Node Tree node_tree (Node-F.Loop1CharBody loopee quant)) refl

-- no set
pub other_than_set : (n : Node) → ((bs : Vec ℕ Global) → n ≡ N.ByteSet bs → ⊥) → ((cs : Vec ℕ Global) → n ≡ N.CharSet cs → ⊥) → ((contents : BracketContents) → n ≡ N.Bracket contents → ⊥) → always_fails (tree n) ≡ false
other_than_set = by_kind (λ n. ((bs : Vec ℕ Global) → n ≡ N.ByteSet bs → ⊥) → ((cs : Vec ℕ Global) → n ≡ N.CharSet cs → ⊥) → ((contents : BracketContents) → n ≡ N.Bracket contents → ⊥) → always_fails (tree n) ≡ false) kinds
  where
    kinds : (m : Node-F Node) → let n = roll-Node m in ((bs : Vec ℕ Global) → n ≡ N.ByteSet bs → ⊥) → ((cs : Vec ℕ Global) → n ≡ N.CharSet cs → ⊥) → ((contents : BracketContents) → n ≡ N.Bracket contents → ⊥) → always_fails (tree n) ≡ false
    kinds Node-F.Empty h0 h1 h2 = rw (fold-roll-Node Tree node_tree Node-F.Empty) refl
    kinds Node-F.Goal h0 h1 h2 = rw (fold-roll-Node Tree node_tree Node-F.Goal) refl
    kinds (Node-F.Char c) h0 h1 h2 = rw (fold-roll-Node Tree node_tree (Node-F.Char c)) refl
    kinds (Node-F.ByteSequence bs) h0 h1 h2 = rw (fold-roll-Node Tree node_tree (Node-F.ByteSequence bs)) refl
    kinds (Node-F.ByteSet bs) h0 h1 h2 = absurd (h0 bs (N.rolls-ByteSet bs))
    kinds (Node-F.CharSet cs) h0 h1 h2 = absurd (h1 cs (N.rolls-CharSet cs))
    kinds (Node-F.Cat parts) h0 h1 h2 = rw (fold-roll-Node Tree node_tree (Node-F.Cat parts)) (always_fails-cat_of (map tree parts.items))
    kinds (Node-F.Alt a b) h0 h1 h2 = rw (fold-roll-Node Tree node_tree (Node-F.Alt a b)) refl
    kinds Node-F.MatchAny h0 h1 h2 = rw (fold-roll-Node Tree node_tree Node-F.MatchAny) refl
    kinds Node-F.MatchAnyExceptLineTerminator h0 h1 h2 = rw (fold-roll-Node Tree node_tree Node-F.MatchAnyExceptLineTerminator) refl
    kinds (Node-F.Anchor t multiline) h0 h1 h2 = rw (fold-roll-Node Tree node_tree (Node-F.Anchor t multiline)) (always_fails-anchor_of t multiline)
    kinds (Node-F.WordBoundary invert folded) h0 h1 h2 = rw (fold-roll-Node Tree node_tree (Node-F.WordBoundary invert folded)) refl
    kinds (Node-F.CaptureGroup id contents name) h0 h1 h2 = rw (fold-roll-Node Tree node_tree (Node-F.CaptureGroup id contents name)) refl
    kinds (Node-F.BackRef group icase) h0 h1 h2 = rw (fold-roll-Node Tree node_tree (Node-F.BackRef group icase)) refl
    kinds (Node-F.Bracket contents) h0 h1 h2 = absurd (h2 contents (N.rolls-Bracket contents))
    kinds (Node-F.StringSet alternatives icase) h0 h1 h2 = rw (fold-roll-Node Tree node_tree (Node-F.StringSet alternatives icase)) refl
    kinds (Node-F.LookaroundAssertion negate backwards start end contents) h0 h1 h2 = rw (fold-roll-Node Tree node_tree (Node-F.LookaroundAssertion negate backwards start end contents)) refl
    kinds (Node-F.AtomicGroup start end contents) h0 h1 h2 = rw (fold-roll-Node Tree node_tree (Node-F.AtomicGroup start end contents)) refl
    kinds (Node-F.Loop loopee quant groups) h0 h1 h2 = rw (fold-roll-Node Tree node_tree (Node-F.Loop loopee quant groups)) refl
    kinds (Node-F.Loop1CharBody loopee quant) h0 h1 h2 = rw (fold-roll-Node Tree node_tree (Node-F.Loop1CharBody loopee quant)) refl

-- no character, literal or set
pub other_than_single : (n : Node) → ((c : ℕ) → n ≡ N.Char c → ⊥) → ((bs : Vec ℕ Global) → n ≡ N.ByteSequence bs → ⊥) → ((bs : Vec ℕ Global) → n ≡ N.ByteSet bs → ⊥) → ((cs : Vec ℕ Global) → n ≡ N.CharSet cs → ⊥) → (n ≡ N.MatchAny → ⊥) → (n ≡ N.MatchAnyExceptLineTerminator → ⊥) → ((contents : BracketContents) → n ≡ N.Bracket contents → ⊥) → takes_one (tree n) ≡ false
other_than_single = by_kind (λ n. ((c : ℕ) → n ≡ N.Char c → ⊥) → ((bs : Vec ℕ Global) → n ≡ N.ByteSequence bs → ⊥) → ((bs : Vec ℕ Global) → n ≡ N.ByteSet bs → ⊥) → ((cs : Vec ℕ Global) → n ≡ N.CharSet cs → ⊥) → (n ≡ N.MatchAny → ⊥) → (n ≡ N.MatchAnyExceptLineTerminator → ⊥) → ((contents : BracketContents) → n ≡ N.Bracket contents → ⊥) → takes_one (tree n) ≡ false) kinds
  where
    kinds : (m : Node-F Node) → let n = roll-Node m in ((c : ℕ) → n ≡ N.Char c → ⊥) → ((bs : Vec ℕ Global) → n ≡ N.ByteSequence bs → ⊥) → ((bs : Vec ℕ Global) → n ≡ N.ByteSet bs → ⊥) → ((cs : Vec ℕ Global) → n ≡ N.CharSet cs → ⊥) → (n ≡ N.MatchAny → ⊥) → (n ≡ N.MatchAnyExceptLineTerminator → ⊥) → ((contents : BracketContents) → n ≡ N.Bracket contents → ⊥) → takes_one (tree n) ≡ false
    kinds Node-F.Empty h0 h1 h2 h3 h4 h5 h6 = rw (fold-roll-Node Tree node_tree Node-F.Empty) refl
    kinds Node-F.Goal h0 h1 h2 h3 h4 h5 h6 = rw (fold-roll-Node Tree node_tree Node-F.Goal) refl
    kinds (Node-F.Char c) h0 h1 h2 h3 h4 h5 h6 = absurd (h0 c (N.rolls-Char c))
    kinds (Node-F.ByteSequence bs) h0 h1 h2 h3 h4 h5 h6 = absurd (h1 bs (N.rolls-ByteSequence bs))
    kinds (Node-F.ByteSet bs) h0 h1 h2 h3 h4 h5 h6 = absurd (h2 bs (N.rolls-ByteSet bs))
    kinds (Node-F.CharSet cs) h0 h1 h2 h3 h4 h5 h6 = absurd (h3 cs (N.rolls-CharSet cs))
    kinds (Node-F.Cat parts) h0 h1 h2 h3 h4 h5 h6 = rw (fold-roll-Node Tree node_tree (Node-F.Cat parts)) (takes_one-cat_of (map tree parts.items))
    kinds (Node-F.Alt a b) h0 h1 h2 h3 h4 h5 h6 = rw (fold-roll-Node Tree node_tree (Node-F.Alt a b)) refl
    kinds Node-F.MatchAny h0 h1 h2 h3 h4 h5 h6 = absurd (h4 N.rolls-MatchAny)
    kinds Node-F.MatchAnyExceptLineTerminator h0 h1 h2 h3 h4 h5 h6 = absurd (h5 N.rolls-MatchAnyExceptLineTerminator)
    kinds (Node-F.Anchor t multiline) h0 h1 h2 h3 h4 h5 h6 = rw (fold-roll-Node Tree node_tree (Node-F.Anchor t multiline)) (takes_one-anchor_of t multiline)
    kinds (Node-F.WordBoundary invert folded) h0 h1 h2 h3 h4 h5 h6 = rw (fold-roll-Node Tree node_tree (Node-F.WordBoundary invert folded)) refl
    kinds (Node-F.CaptureGroup id contents name) h0 h1 h2 h3 h4 h5 h6 = rw (fold-roll-Node Tree node_tree (Node-F.CaptureGroup id contents name)) refl
    kinds (Node-F.BackRef group icase) h0 h1 h2 h3 h4 h5 h6 = rw (fold-roll-Node Tree node_tree (Node-F.BackRef group icase)) refl
    kinds (Node-F.Bracket contents) h0 h1 h2 h3 h4 h5 h6 = absurd (h6 contents (N.rolls-Bracket contents))
    kinds (Node-F.StringSet alternatives icase) h0 h1 h2 h3 h4 h5 h6 = rw (fold-roll-Node Tree node_tree (Node-F.StringSet alternatives icase)) refl
    kinds (Node-F.LookaroundAssertion negate backwards start end contents) h0 h1 h2 h3 h4 h5 h6 = rw (fold-roll-Node Tree node_tree (Node-F.LookaroundAssertion negate backwards start end contents)) refl
    kinds (Node-F.AtomicGroup start end contents) h0 h1 h2 h3 h4 h5 h6 = rw (fold-roll-Node Tree node_tree (Node-F.AtomicGroup start end contents)) refl
    kinds (Node-F.Loop loopee quant groups) h0 h1 h2 h3 h4 h5 h6 = rw (fold-roll-Node Tree node_tree (Node-F.Loop loopee quant groups)) refl
    kinds (Node-F.Loop1CharBody loopee quant) h0 h1 h2 h3 h4 h5 h6 = rw (fold-roll-Node Tree node_tree (Node-F.Loop1CharBody loopee quant)) refl

-- of no kind that has parts
pub other_than_inner : (n : Node) → ((parts : Vec Node Global) → n ≡ N.Cat parts → ⊥) → ((a : Box Node Global) (b : Box Node Global) → n ≡ N.Alt a b → ⊥) → ((id : ℕ) (contents : Box Node Global) (name : Option (String Global)) → n ≡ N.CaptureGroup id contents name → ⊥) → ((negate : Bool) (backwards : Bool) (start : ℕ) (end : ℕ) (contents : Box Node Global) → n ≡ N.LookaroundAssertion negate backwards start end contents → ⊥) → ((start : ℕ) (end : ℕ) (contents : Box Node Global) → n ≡ N.AtomicGroup start end contents → ⊥) → ((loopee : Box Node Global) (quant : Quantifier) (groups : Range ℕ) → n ≡ N.Loop loopee quant groups → ⊥) → ((loopee : Box Node Global) (quant : Quantifier) → n ≡ N.Loop1CharBody loopee quant → ⊥) → is_leaf (tree n) ≡ true
other_than_inner = by_kind (λ n. ((parts : Vec Node Global) → n ≡ N.Cat parts → ⊥) → ((a : Box Node Global) (b : Box Node Global) → n ≡ N.Alt a b → ⊥) → ((id : ℕ) (contents : Box Node Global) (name : Option (String Global)) → n ≡ N.CaptureGroup id contents name → ⊥) → ((negate : Bool) (backwards : Bool) (start : ℕ) (end : ℕ) (contents : Box Node Global) → n ≡ N.LookaroundAssertion negate backwards start end contents → ⊥) → ((start : ℕ) (end : ℕ) (contents : Box Node Global) → n ≡ N.AtomicGroup start end contents → ⊥) → ((loopee : Box Node Global) (quant : Quantifier) (groups : Range ℕ) → n ≡ N.Loop loopee quant groups → ⊥) → ((loopee : Box Node Global) (quant : Quantifier) → n ≡ N.Loop1CharBody loopee quant → ⊥) → is_leaf (tree n) ≡ true) kinds
  where
    kinds : (m : Node-F Node) → let n = roll-Node m in ((parts : Vec Node Global) → n ≡ N.Cat parts → ⊥) → ((a : Box Node Global) (b : Box Node Global) → n ≡ N.Alt a b → ⊥) → ((id : ℕ) (contents : Box Node Global) (name : Option (String Global)) → n ≡ N.CaptureGroup id contents name → ⊥) → ((negate : Bool) (backwards : Bool) (start : ℕ) (end : ℕ) (contents : Box Node Global) → n ≡ N.LookaroundAssertion negate backwards start end contents → ⊥) → ((start : ℕ) (end : ℕ) (contents : Box Node Global) → n ≡ N.AtomicGroup start end contents → ⊥) → ((loopee : Box Node Global) (quant : Quantifier) (groups : Range ℕ) → n ≡ N.Loop loopee quant groups → ⊥) → ((loopee : Box Node Global) (quant : Quantifier) → n ≡ N.Loop1CharBody loopee quant → ⊥) → is_leaf (tree n) ≡ true
    kinds Node-F.Empty h0 h1 h2 h3 h4 h5 h6 = rw (fold-roll-Node Tree node_tree Node-F.Empty) refl
    kinds Node-F.Goal h0 h1 h2 h3 h4 h5 h6 = rw (fold-roll-Node Tree node_tree Node-F.Goal) refl
    kinds (Node-F.Char c) h0 h1 h2 h3 h4 h5 h6 = rw (fold-roll-Node Tree node_tree (Node-F.Char c)) refl
    kinds (Node-F.ByteSequence bs) h0 h1 h2 h3 h4 h5 h6 = rw (fold-roll-Node Tree node_tree (Node-F.ByteSequence bs)) refl
    kinds (Node-F.ByteSet bs) h0 h1 h2 h3 h4 h5 h6 = rw (fold-roll-Node Tree node_tree (Node-F.ByteSet bs)) refl
    kinds (Node-F.CharSet cs) h0 h1 h2 h3 h4 h5 h6 = rw (fold-roll-Node Tree node_tree (Node-F.CharSet cs)) refl
    kinds (Node-F.Cat parts) h0 h1 h2 h3 h4 h5 h6 = absurd (h0 parts (N.rolls-Cat parts))
    kinds (Node-F.Alt a b) h0 h1 h2 h3 h4 h5 h6 = absurd (h1 a b (N.rolls-Alt a b))
    kinds Node-F.MatchAny h0 h1 h2 h3 h4 h5 h6 = rw (fold-roll-Node Tree node_tree Node-F.MatchAny) refl
    kinds Node-F.MatchAnyExceptLineTerminator h0 h1 h2 h3 h4 h5 h6 = rw (fold-roll-Node Tree node_tree Node-F.MatchAnyExceptLineTerminator) refl
    kinds (Node-F.Anchor t multiline) h0 h1 h2 h3 h4 h5 h6 = rw (fold-roll-Node Tree node_tree (Node-F.Anchor t multiline)) (is_leaf-anchor_of t multiline)
    kinds (Node-F.WordBoundary invert folded) h0 h1 h2 h3 h4 h5 h6 = rw (fold-roll-Node Tree node_tree (Node-F.WordBoundary invert folded)) refl
    kinds (Node-F.CaptureGroup id contents name) h0 h1 h2 h3 h4 h5 h6 = absurd (h2 id contents name (N.rolls-CaptureGroup id contents name))
    kinds (Node-F.BackRef group icase) h0 h1 h2 h3 h4 h5 h6 = rw (fold-roll-Node Tree node_tree (Node-F.BackRef group icase)) refl
    kinds (Node-F.Bracket contents) h0 h1 h2 h3 h4 h5 h6 = rw (fold-roll-Node Tree node_tree (Node-F.Bracket contents)) refl
    kinds (Node-F.StringSet alternatives icase) h0 h1 h2 h3 h4 h5 h6 = rw (fold-roll-Node Tree node_tree (Node-F.StringSet alternatives icase)) refl
    kinds (Node-F.LookaroundAssertion negate backwards start end contents) h0 h1 h2 h3 h4 h5 h6 = absurd (h3 negate backwards start end contents (N.rolls-LookaroundAssertion negate backwards start end contents))
    kinds (Node-F.AtomicGroup start end contents) h0 h1 h2 h3 h4 h5 h6 = absurd (h4 start end contents (N.rolls-AtomicGroup start end contents))
    kinds (Node-F.Loop loopee quant groups) h0 h1 h2 h3 h4 h5 h6 = absurd (h5 loopee quant groups (N.rolls-Loop loopee quant groups))
    kinds (Node-F.Loop1CharBody loopee quant) h0 h1 h2 h3 h4 h5 h6 = absurd (h6 loopee quant (N.rolls-Loop1CharBody loopee quant))

-- of no kind that has none
pub other_than_leaf : (n : Node) → (n ≡ N.Empty → ⊥) → (n ≡ N.Goal → ⊥) → ((c : ℕ) → n ≡ N.Char c → ⊥) → ((bs : Vec ℕ Global) → n ≡ N.ByteSequence bs → ⊥) → ((bs : Vec ℕ Global) → n ≡ N.ByteSet bs → ⊥) → ((cs : Vec ℕ Global) → n ≡ N.CharSet cs → ⊥) → (n ≡ N.MatchAny → ⊥) → (n ≡ N.MatchAnyExceptLineTerminator → ⊥) → ((t : AnchorType) (multiline : Bool) → n ≡ N.Anchor t multiline → ⊥) → ((invert : Bool) (folded : Bool) → n ≡ N.WordBoundary invert folded → ⊥) → ((group : ℕ) (icase : Bool) → n ≡ N.BackRef group icase → ⊥) → ((contents : BracketContents) → n ≡ N.Bracket contents → ⊥) → ((alternatives : Vec (BoxedSlice ℕ Global) Global) (icase : Bool) → n ≡ N.StringSet alternatives icase → ⊥) → is_leaf (tree n) ≡ false
other_than_leaf = by_kind (λ n. (n ≡ N.Empty → ⊥) → (n ≡ N.Goal → ⊥) → ((c : ℕ) → n ≡ N.Char c → ⊥) → ((bs : Vec ℕ Global) → n ≡ N.ByteSequence bs → ⊥) → ((bs : Vec ℕ Global) → n ≡ N.ByteSet bs → ⊥) → ((cs : Vec ℕ Global) → n ≡ N.CharSet cs → ⊥) → (n ≡ N.MatchAny → ⊥) → (n ≡ N.MatchAnyExceptLineTerminator → ⊥) → ((t : AnchorType) (multiline : Bool) → n ≡ N.Anchor t multiline → ⊥) → ((invert : Bool) (folded : Bool) → n ≡ N.WordBoundary invert folded → ⊥) → ((group : ℕ) (icase : Bool) → n ≡ N.BackRef group icase → ⊥) → ((contents : BracketContents) → n ≡ N.Bracket contents → ⊥) → ((alternatives : Vec (BoxedSlice ℕ Global) Global) (icase : Bool) → n ≡ N.StringSet alternatives icase → ⊥) → is_leaf (tree n) ≡ false) kinds
  where
    kinds : (m : Node-F Node) → let n = roll-Node m in (n ≡ N.Empty → ⊥) → (n ≡ N.Goal → ⊥) → ((c : ℕ) → n ≡ N.Char c → ⊥) → ((bs : Vec ℕ Global) → n ≡ N.ByteSequence bs → ⊥) → ((bs : Vec ℕ Global) → n ≡ N.ByteSet bs → ⊥) → ((cs : Vec ℕ Global) → n ≡ N.CharSet cs → ⊥) → (n ≡ N.MatchAny → ⊥) → (n ≡ N.MatchAnyExceptLineTerminator → ⊥) → ((t : AnchorType) (multiline : Bool) → n ≡ N.Anchor t multiline → ⊥) → ((invert : Bool) (folded : Bool) → n ≡ N.WordBoundary invert folded → ⊥) → ((group : ℕ) (icase : Bool) → n ≡ N.BackRef group icase → ⊥) → ((contents : BracketContents) → n ≡ N.Bracket contents → ⊥) → ((alternatives : Vec (BoxedSlice ℕ Global) Global) (icase : Bool) → n ≡ N.StringSet alternatives icase → ⊥) → is_leaf (tree n) ≡ false
    kinds Node-F.Empty h0 h1 h2 h3 h4 h5 h6 h7 h8 h9 h10 h11 h12 = absurd (h0 N.rolls-Empty)
    kinds Node-F.Goal h0 h1 h2 h3 h4 h5 h6 h7 h8 h9 h10 h11 h12 = absurd (h1 N.rolls-Goal)
    kinds (Node-F.Char c) h0 h1 h2 h3 h4 h5 h6 h7 h8 h9 h10 h11 h12 = absurd (h2 c (N.rolls-Char c))
    kinds (Node-F.ByteSequence bs) h0 h1 h2 h3 h4 h5 h6 h7 h8 h9 h10 h11 h12 = absurd (h3 bs (N.rolls-ByteSequence bs))
    kinds (Node-F.ByteSet bs) h0 h1 h2 h3 h4 h5 h6 h7 h8 h9 h10 h11 h12 = absurd (h4 bs (N.rolls-ByteSet bs))
    kinds (Node-F.CharSet cs) h0 h1 h2 h3 h4 h5 h6 h7 h8 h9 h10 h11 h12 = absurd (h5 cs (N.rolls-CharSet cs))
    kinds (Node-F.Cat parts) h0 h1 h2 h3 h4 h5 h6 h7 h8 h9 h10 h11 h12 = rw (fold-roll-Node Tree node_tree (Node-F.Cat parts)) (is_leaf-cat_of (map tree parts.items))
    kinds (Node-F.Alt a b) h0 h1 h2 h3 h4 h5 h6 h7 h8 h9 h10 h11 h12 = rw (fold-roll-Node Tree node_tree (Node-F.Alt a b)) refl
    kinds Node-F.MatchAny h0 h1 h2 h3 h4 h5 h6 h7 h8 h9 h10 h11 h12 = absurd (h6 N.rolls-MatchAny)
    kinds Node-F.MatchAnyExceptLineTerminator h0 h1 h2 h3 h4 h5 h6 h7 h8 h9 h10 h11 h12 = absurd (h7 N.rolls-MatchAnyExceptLineTerminator)
    kinds (Node-F.Anchor t multiline) h0 h1 h2 h3 h4 h5 h6 h7 h8 h9 h10 h11 h12 = absurd (h8 t multiline (N.rolls-Anchor t multiline))
    kinds (Node-F.WordBoundary invert folded) h0 h1 h2 h3 h4 h5 h6 h7 h8 h9 h10 h11 h12 = absurd (h9 invert folded (N.rolls-WordBoundary invert folded))
    kinds (Node-F.CaptureGroup id contents name) h0 h1 h2 h3 h4 h5 h6 h7 h8 h9 h10 h11 h12 = rw (fold-roll-Node Tree node_tree (Node-F.CaptureGroup id contents name)) refl
    kinds (Node-F.BackRef group icase) h0 h1 h2 h3 h4 h5 h6 h7 h8 h9 h10 h11 h12 = absurd (h10 group icase (N.rolls-BackRef group icase))
    kinds (Node-F.Bracket contents) h0 h1 h2 h3 h4 h5 h6 h7 h8 h9 h10 h11 h12 = absurd (h11 contents (N.rolls-Bracket contents))
    kinds (Node-F.StringSet alternatives icase) h0 h1 h2 h3 h4 h5 h6 h7 h8 h9 h10 h11 h12 = absurd (h12 alternatives icase (N.rolls-StringSet alternatives icase))
    kinds (Node-F.LookaroundAssertion negate backwards start end contents) h0 h1 h2 h3 h4 h5 h6 h7 h8 h9 h10 h11 h12 = rw (fold-roll-Node Tree node_tree (Node-F.LookaroundAssertion negate backwards start end contents)) refl
    kinds (Node-F.AtomicGroup start end contents) h0 h1 h2 h3 h4 h5 h6 h7 h8 h9 h10 h11 h12 = rw (fold-roll-Node Tree node_tree (Node-F.AtomicGroup start end contents)) refl
    kinds (Node-F.Loop loopee quant groups) h0 h1 h2 h3 h4 h5 h6 h7 h8 h9 h10 h11 h12 = rw (fold-roll-Node Tree node_tree (Node-F.Loop loopee quant groups)) refl
    kinds (Node-F.Loop1CharBody loopee quant) h0 h1 h2 h3 h4 h5 h6 h7 h8 h9 h10 h11 h12 = rw (fold-roll-Node Tree node_tree (Node-F.Loop1CharBody loopee quant)) refl

-- a node with parts, of no kind that is copied: a capture group
pub other_than_copied : (n : Node) → ((parts : Vec Node Global) → n ≡ N.Cat parts → ⊥) → ((a : Box Node Global) (b : Box Node Global) → n ≡ N.Alt a b → ⊥) → ((negate : Bool) (backwards : Bool) (start : ℕ) (end : ℕ) (contents : Box Node Global) → n ≡ N.LookaroundAssertion negate backwards start end contents → ⊥) → ((start : ℕ) (end : ℕ) (contents : Box Node Global) → n ≡ N.AtomicGroup start end contents → ⊥) → ((loopee : Box Node Global) (quant : Quantifier) (groups : Range ℕ) → n ≡ N.Loop loopee quant groups → ⊥) → ((loopee : Box Node Global) (quant : Quantifier) → n ≡ N.Loop1CharBody loopee quant → ⊥) → is_leaf (tree n) ≡ false → group_ids (tree n) ≡ [] → ⊥
other_than_copied = by_kind (λ n. ((parts : Vec Node Global) → n ≡ N.Cat parts → ⊥) → ((a : Box Node Global) (b : Box Node Global) → n ≡ N.Alt a b → ⊥) → ((negate : Bool) (backwards : Bool) (start : ℕ) (end : ℕ) (contents : Box Node Global) → n ≡ N.LookaroundAssertion negate backwards start end contents → ⊥) → ((start : ℕ) (end : ℕ) (contents : Box Node Global) → n ≡ N.AtomicGroup start end contents → ⊥) → ((loopee : Box Node Global) (quant : Quantifier) (groups : Range ℕ) → n ≡ N.Loop loopee quant groups → ⊥) → ((loopee : Box Node Global) (quant : Quantifier) → n ≡ N.Loop1CharBody loopee quant → ⊥) → is_leaf (tree n) ≡ false → group_ids (tree n) ≡ [] → ⊥) kinds
  where
    kinds : (m : Node-F Node) → let n = roll-Node m in ((parts : Vec Node Global) → n ≡ N.Cat parts → ⊥) → ((a : Box Node Global) (b : Box Node Global) → n ≡ N.Alt a b → ⊥) → ((negate : Bool) (backwards : Bool) (start : ℕ) (end : ℕ) (contents : Box Node Global) → n ≡ N.LookaroundAssertion negate backwards start end contents → ⊥) → ((start : ℕ) (end : ℕ) (contents : Box Node Global) → n ≡ N.AtomicGroup start end contents → ⊥) → ((loopee : Box Node Global) (quant : Quantifier) (groups : Range ℕ) → n ≡ N.Loop loopee quant groups → ⊥) → ((loopee : Box Node Global) (quant : Quantifier) → n ≡ N.Loop1CharBody loopee quant → ⊥) → is_leaf (tree n) ≡ false → group_ids (tree n) ≡ [] → ⊥
    kinds Node-F.Empty h0 h1 h2 h3 h4 h5 leaf none = false≢true (sym (rw (fold-roll-Node Tree node_tree Node-F.Empty) at leaf))
    kinds Node-F.Goal h0 h1 h2 h3 h4 h5 leaf none = false≢true (sym (rw (fold-roll-Node Tree node_tree Node-F.Goal) at leaf))
    kinds (Node-F.Char c) h0 h1 h2 h3 h4 h5 leaf none = false≢true (sym (rw (fold-roll-Node Tree node_tree (Node-F.Char c)) at leaf))
    kinds (Node-F.ByteSequence bs) h0 h1 h2 h3 h4 h5 leaf none = false≢true (sym (rw (fold-roll-Node Tree node_tree (Node-F.ByteSequence bs)) at leaf))
    kinds (Node-F.ByteSet bs) h0 h1 h2 h3 h4 h5 leaf none = false≢true (sym (rw (fold-roll-Node Tree node_tree (Node-F.ByteSet bs)) at leaf))
    kinds (Node-F.CharSet cs) h0 h1 h2 h3 h4 h5 leaf none = false≢true (sym (rw (fold-roll-Node Tree node_tree (Node-F.CharSet cs)) at leaf))
    kinds (Node-F.Cat parts) h0 h1 h2 h3 h4 h5 leaf none = h0 parts (N.rolls-Cat parts)
    kinds (Node-F.Alt a b) h0 h1 h2 h3 h4 h5 leaf none = h1 a b (N.rolls-Alt a b)
    kinds Node-F.MatchAny h0 h1 h2 h3 h4 h5 leaf none = false≢true (sym (rw (fold-roll-Node Tree node_tree Node-F.MatchAny) at leaf))
    kinds Node-F.MatchAnyExceptLineTerminator h0 h1 h2 h3 h4 h5 leaf none = false≢true (sym (rw (fold-roll-Node Tree node_tree Node-F.MatchAnyExceptLineTerminator) at leaf))
    kinds (Node-F.Anchor t multiline) h0 h1 h2 h3 h4 h5 leaf none = false≢true (sym (rw (fold-roll-Node Tree node_tree (Node-F.Anchor t multiline)) at leaf) ∙ is_leaf-anchor_of t multiline)
    kinds (Node-F.WordBoundary invert folded) h0 h1 h2 h3 h4 h5 leaf none = false≢true (sym (rw (fold-roll-Node Tree node_tree (Node-F.WordBoundary invert folded)) at leaf))
    kinds (Node-F.CaptureGroup id contents name) h0 h1 h2 h3 h4 h5 leaf none = let e = ap length (rw (fold-roll-Node Tree node_tree (Node-F.CaptureGroup id contents name)) at none) in omega (arith, e)
    kinds (Node-F.BackRef group icase) h0 h1 h2 h3 h4 h5 leaf none = false≢true (sym (rw (fold-roll-Node Tree node_tree (Node-F.BackRef group icase)) at leaf))
    kinds (Node-F.Bracket contents) h0 h1 h2 h3 h4 h5 leaf none = false≢true (sym (rw (fold-roll-Node Tree node_tree (Node-F.Bracket contents)) at leaf))
    kinds (Node-F.StringSet alternatives icase) h0 h1 h2 h3 h4 h5 leaf none = false≢true (sym (rw (fold-roll-Node Tree node_tree (Node-F.StringSet alternatives icase)) at leaf))
    kinds (Node-F.LookaroundAssertion negate backwards start end contents) h0 h1 h2 h3 h4 h5 leaf none = h2 negate backwards start end contents (N.rolls-LookaroundAssertion negate backwards start end contents)
    kinds (Node-F.AtomicGroup start end contents) h0 h1 h2 h3 h4 h5 leaf none = h3 start end contents (N.rolls-AtomicGroup start end contents)
    kinds (Node-F.Loop loopee quant groups) h0 h1 h2 h3 h4 h5 leaf none = h4 loopee quant groups (N.rolls-Loop loopee quant groups)
    kinds (Node-F.Loop1CharBody loopee quant) h0 h1 h2 h3 h4 h5 leaf none = h5 loopee quant (N.rolls-Loop1CharBody loopee quant)
