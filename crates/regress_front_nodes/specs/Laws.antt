-- What the calls of this crate rest on, as laws.
use Rattle.std.specs.Prelude.{◌≡◌, ℕ, Bool, map, chars, Vec, Box, String, Option, option_map}
use Rattle.std.specs.declared.boxed.BoxedSlice.{BoxedSlice}
use Rattle.std.specs.declared.alloc.Global.{Global}
use Rattle.std.specs.Box.{boxed_slice_items}
use Rattle.std.specs.String.{string_bytes}
use Rattle.std.specs.declared.ops.Range.{Range}
use Rattle.regress_front_sets.specs.Sets.{ends_in}
use Rattle.regress_front_core.specs.declared.quantifier.Quantifier.{Quantifier}
use Rattle.regress_front_core.specs.Quantifiers.{most}
use Rattle.regress_front_nodes.specs.declared.node.AnchorType.{AnchorType}
use Rattle.regress_front_nodes.specs.declared.node.BracketContents.{BracketContents}
use Rattle.regress_front_nodes.specs.declared.node.Node.{Node}
use Rattle.regress_front_nodes.specs.declared.node.Node.TheVariants as N
use Rattle.regress_front_nodes.specs.Trees.{tree, cat_of, anchor_of, empty, goal, char, bytes, byte_set, char_set, alt, any, any_in_line, boundary, capture, back, bracket, string_set, submatch, loop, single_loop, lookaround, atomic}

-- Each node stands for the tree of its kind, with the trees of its parts.
pub record NodesStandForTrees : Type 0 where
  pub of_empty : tree N.Empty ≡ empty
  pub of_goal : tree N.Goal ≡ goal
  pub of_char : (c : ℕ) → tree (N.Char c) ≡ char c
  pub of_byte_sequence : (bs : Vec ℕ Global) → tree (N.ByteSequence bs) ≡ bytes bs.items
  pub of_byte_set : (bs : Vec ℕ Global) → tree (N.ByteSet bs) ≡ byte_set bs.items
  pub of_char_set : (cs : Vec ℕ Global) → tree (N.CharSet cs) ≡ char_set cs.items
  pub of_cat : (parts : Vec Node Global) → tree (N.Cat parts) ≡ cat_of (map tree parts.items)
  pub of_alt : (a b : Box Node Global) → tree (N.Alt a b) ≡ alt (tree a.value) (tree b.value)
  pub of_match_any : tree N.MatchAny ≡ any
  pub of_match_any_except_line_terminator : tree N.MatchAnyExceptLineTerminator ≡ any_in_line
  pub of_anchor : (t : AnchorType) (multiline : Bool) → tree (N.Anchor t multiline) ≡ anchor_of t multiline
  pub of_word_boundary : (invert folded : Bool) → tree (N.WordBoundary invert folded) ≡ boundary invert folded
  pub of_capture_group : (id : ℕ) (contents : Box Node Global) (name : Option (String Global)) → tree (N.CaptureGroup id contents name) ≡ capture id (option_map (λ text. chars (string_bytes text)) name) (tree contents.value)
  pub of_back_ref : (group : ℕ) (icase : Bool) → tree (N.BackRef group icase) ≡ back group icase
  pub of_bracket : (contents : BracketContents) → tree (N.Bracket contents) ≡ bracket contents.invert (ends_in contents.cps)
  pub of_string_set : (alternatives : Vec (BoxedSlice ℕ Global) Global) (icase : Bool) → tree (N.StringSet alternatives icase) ≡ string_set (map boxed_slice_items alternatives.items) icase
  pub of_lookaround_assertion : (negate backwards : Bool) (start end : ℕ) (contents : Box Node Global) → tree (N.LookaroundAssertion negate backwards start end contents) ≡ submatch (lookaround negate backwards) start end (tree contents.value)
  pub of_atomic_group : (start end : ℕ) (contents : Box Node Global) → tree (N.AtomicGroup start end contents) ≡ submatch atomic start end (tree contents.value)
  pub of_loop : (loopee : Box Node Global) (quant : Quantifier) (groups : Range ℕ) → tree (N.Loop loopee quant groups) ≡ loop (tree loopee.value) groups.start groups.end quant.min (most quant) quant.greedy
  pub of_loop1_char_body : (loopee : Box Node Global) (quant : Quantifier) → tree (N.Loop1CharBody loopee quant) ≡ single_loop (tree loopee.value) quant.min (most quant) quant.greedy
