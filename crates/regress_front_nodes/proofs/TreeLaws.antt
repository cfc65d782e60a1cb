-- The equations of `tree`, one for each variant.
use Rattle.std.proofs.Common.{◌≡◌, ℕ, Bool, map, chars, Vec, Box, String, Option, Global, option_map, sym, ap, ◌∙◌}
use Rattle.std.specs.declared.boxed.BoxedSlice.{BoxedSlice}
use Rattle.std.specs.Box.{boxed_slice_items}
use Rattle.std.specs.String.{string_bytes}
use Rattle.std.specs.declared.ops.Range.{Range}
use Rattle.regress_front_sets.specs.Sets.{ends_in}
use Rattle.regress_front_core.specs.declared.quantifier.Quantifier.{Quantifier}
use Rattle.regress_front_core.specs.Quantifiers.{most}
use Rattle.regress_front_nodes.specs.declared.node.AnchorType.{AnchorType}
use Rattle.regress_front_nodes.specs.declared.node.BracketContents.{BracketContents}
use Rattle.regress_front_nodes.specs.declared.node.Node.{Node, Node-F, fold-roll-Node}
use Rattle.regress_front_nodes.specs.declared.node.Node.TheVariants as N
use Rattle.regress_front_nodes.specs.Trees.{Tree, tree, node_tree, cat_of, anchor_of, empty, goal, char, bytes, byte_set, char_set, alt, any, any_in_line, boundary, capture, back, bracket, string_set, submatch, loop, single_loop, lookaround, atomic}

pub tree-Empty : tree N.Empty ≡ empty
tree-Empty = ap tree (sym N.rolls-Empty) ∙ fold-roll-Node Tree node_tree Node-F.Empty

pub tree-Goal : tree N.Goal ≡ goal
tree-Goal = ap tree (sym N.rolls-Goal) ∙ fold-roll-Node Tree node_tree Node-F.Goal

pub tree-Char : (c : ℕ) → tree (N.Char c) ≡ char c
tree-Char c = ap tree (sym (N.rolls-Char c)) ∙ fold-roll-Node Tree node_tree (Node-F.Char c)

pub tree-ByteSequence : (bs : Vec ℕ Global) → tree (N.ByteSequence bs) ≡ bytes bs.items
tree-ByteSequence bs = ap tree (sym (N.rolls-ByteSequence bs)) ∙ fold-roll-Node Tree node_tree (Node-F.ByteSequence bs)

pub tree-ByteSet : (bs : Vec ℕ Global) → tree (N.ByteSet bs) ≡ byte_set bs.items
tree-ByteSet bs = ap tree (sym (N.rolls-ByteSet bs)) ∙ fold-roll-Node Tree node_tree (Node-F.ByteSet bs)

pub tree-CharSet : (cs : Vec ℕ Global) → tree (N.CharSet cs) ≡ char_set cs.items
tree-CharSet cs = ap tree (sym (N.rolls-CharSet cs)) ∙ fold-roll-Node Tree node_tree (Node-F.CharSet cs)

pub tree-Cat : (parts : Vec Node Global) → tree (N.Cat parts) ≡ cat_of (map tree parts.items)
tree-Cat parts = ap tree (sym (N.rolls-Cat parts)) ∙ fold-roll-Node Tree node_tree (Node-F.Cat parts)

pub tree-Alt : (a b : Box Node Global) → tree (N.Alt a b) ≡ alt (tree a.value) (tree b.value)
tree-Alt a b = ap tree (sym (N.rolls-Alt a b)) ∙ fold-roll-Node Tree node_tree (Node-F.Alt a b)

pub tree-MatchAny : tree N.MatchAny ≡ any
tree-MatchAny = ap tree (sym N.rolls-MatchAny) ∙ fold-roll-Node Tree node_tree Node-F.MatchAny

pub tree-MatchAnyExceptLineTerminator : tree N.MatchAnyExceptLineTerminator ≡ any_in_line
tree-MatchAnyExceptLineTerminator = ap tree (sym N.rolls-MatchAnyExceptLineTerminator) ∙ fold-roll-Node Tree node_tree Node-F.MatchAnyExceptLineTerminator

pub tree-Anchor : (t : AnchorType) (multiline : Bool) → tree (N.Anchor t multiline) ≡ anchor_of t multiline
tree-Anchor t multiline = ap tree (sym (N.rolls-Anchor t multiline)) ∙ fold-roll-Node Tree node_tree (Node-F.Anchor t multiline)

pub tree-WordBoundary : (invert folded : Bool) → tree (N.WordBoundary invert folded) ≡ boundary invert folded
tree-WordBoundary invert folded = ap tree (sym (N.rolls-WordBoundary invert folded)) ∙ fold-roll-Node Tree node_tree (Node-F.WordBoundary invert folded)

pub tree-CaptureGroup : (id : ℕ) (contents : Box Node Global) (name : Option (String Global))
    → tree (N.CaptureGroup id contents name) ≡ capture id (option_map (λ text. chars (string_bytes text)) name) (tree contents.value)
tree-CaptureGroup id contents name = ap tree (sym (N.rolls-CaptureGroup id contents name)) ∙ fold-roll-Node Tree node_tree (Node-F.CaptureGroup id contents name)

pub tree-BackRef : (group : ℕ) (icase : Bool) → tree (N.BackRef group icase) ≡ back group icase
tree-BackRef group icase = ap tree (sym (N.rolls-BackRef group icase)) ∙ fold-roll-Node Tree node_tree (Node-F.BackRef group icase)

pub tree-Bracket : (contents : BracketContents) → tree (N.Bracket contents) ≡ bracket contents.invert (ends_in contents.cps)
tree-Bracket contents = ap tree (sym (N.rolls-Bracket contents)) ∙ fold-roll-Node Tree node_tree (Node-F.Bracket contents)

pub tree-StringSet : (alternatives : Vec (BoxedSlice ℕ Global) Global) (icase : Bool)
    → tree (N.StringSet alternatives icase) ≡ string_set (map boxed_slice_items alternatives.items) icase
tree-StringSet alternatives icase = ap tree (sym (N.rolls-StringSet alternatives icase)) ∙ fold-roll-Node Tree node_tree (Node-F.StringSet alternatives icase)

pub tree-LookaroundAssertion : (negate backwards : Bool) (start end : ℕ) (contents : Box Node Global)
    → tree (N.LookaroundAssertion negate backwards start end contents) ≡ submatch (lookaround negate backwards) start end (tree contents.value)
tree-LookaroundAssertion negate backwards start end contents =
    ap tree (sym (N.rolls-LookaroundAssertion negate backwards start end contents))
    ∙ fold-roll-Node Tree node_tree (Node-F.LookaroundAssertion negate backwards start end contents)

pub tree-AtomicGroup : (start end : ℕ) (contents : Box Node Global) → tree (N.AtomicGroup start end contents) ≡ submatch atomic start end (tree contents.value)
tree-AtomicGroup start end contents = ap tree (sym (N.rolls-AtomicGroup start end contents)) ∙ fold-roll-Node Tree node_tree (Node-F.AtomicGroup start end contents)

pub tree-Loop : (loopee : Box Node Global) (quant : Quantifier) (groups : Range ℕ)
    → tree (N.Loop loopee quant groups) ≡ loop (tree loopee.value) groups.start groups.end quant.min (most quant) quant.greedy
tree-Loop loopee quant groups = ap tree (sym (N.rolls-Loop loopee quant groups)) ∙ fold-roll-Node Tree node_tree (Node-F.Loop loopee quant groups)

pub tree-Loop1CharBody : (loopee : Box Node Global) (quant : Quantifier)
    → tree (N.Loop1CharBody loopee quant) ≡ single_loop (tree loopee.value) quant.min (most quant) quant.greedy
tree-Loop1CharBody loopee quant = ap tree (sym (N.rolls-Loop1CharBody loopee quant)) ∙ fold-roll-Node Tree node_tree (Node-F.Loop1CharBody loopee quant)
