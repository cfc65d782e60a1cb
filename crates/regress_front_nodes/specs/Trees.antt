-- The trees that are rewritten and emitted, as definitions see them. They are binary, so that definitions recurse on them.
use Rattle.std.specs.Prelude.{ℕ, Bool, List, [], ◌∷◌, Option, chars, map, option_map}
use Rattle.std.specs.Box.{boxed_slice_items}
use Rattle.std.specs.String.{string_bytes}
use Rattle.regress_front_sets.specs.Sets.{ends_in}
use Rattle.regress_front_core.specs.Quantifiers.{most}
use Rattle.regress_front_nodes.specs.declared.node.AnchorType.{AnchorType}
use Rattle.regress_front_nodes.specs.declared.node.AnchorType.TheVariants.{StartOfLine, EndOfLine}
use Rattle.regress_front_nodes.specs.declared.node.Node.{Node}
use Rattle.regress_front_nodes.specs.declared.node.Node.TheOpen.{Node-F}
use Rattle.regress_front_nodes.specs.declared.node.Node.TheFolds.{fold-Node}

-- What is matched by itself: a lookaround, or an atomic group.
pub data Submatch : Type 0 where
  -- `(?=..)`, `(?!..)`, `(?<=..)`, `(?<!..)`
  lookaround : (negated backward : Bool) → Submatch
  -- `(?>..)`
  atomic : Submatch

-- A tree.
pub data Tree : Type 0 where
  -- the empty text
  empty : Tree
  -- the end of the whole tree
  goal : Tree
  -- a code point
  char : ℕ → Tree
  -- characters, as their bytes in UTF-8
  bytes : List ℕ → Tree
  -- one of some ASCII characters
  byte_set : List ℕ → Tree
  -- one of some code points
  char_set : List ℕ → Tree
  -- a part, and the other parts of the same `Cat`
  cat : Tree → Tree → Tree
  -- the end of the parts of a `Cat`
  no_part : Tree
  -- the first, or else the second
  alt : Tree → Tree → Tree
  -- any character
  any : Tree
  -- any character but a line terminator
  any_in_line : Tree
  -- `^`
  line_start : (multiline : Bool) → Tree
  -- `$`
  line_end : (multiline : Bool) → Tree
  -- `\b`, and inverted `\B`; folded: in Unicode mode, with case ignored
  boundary : (inverted folded : Bool) → Tree
  -- a group's number from 0, its name and its contents
  capture : ℕ → Option (List ℕ) → Tree → Tree
  -- a group's number, from 1
  back : ℕ → (icase : Bool) → Tree
  -- one character of the intervals, or inverted one of none
  bracket : (inverted : Bool) → List (ℕ × ℕ) → Tree
  -- one of some strings
  string_set : List (List ℕ) → (icase : Bool) → Tree
  -- what is matched by itself, the numbers of the groups inside, from the first up to before the last, and its contents
  submatch : Submatch → (first last : ℕ) → Tree → Tree
  -- what is repeated, the groups inside, at least how often, at most how often, whether more is preferred
  loop : Tree → (first last : ℕ) → (least most : ℕ) → (greedy : Bool) → Tree
  -- the same of what matches exactly one character
  single_loop : Tree → (least most : ℕ) → (greedy : Bool) → Tree

-- parts one after another
abbrev pub cat_of : List Tree → Tree
cat_of [] = no_part
cat_of (a ∷ parts) = cat a (cat_of parts)

-- an anchor
abbrev pub anchor_of : AnchorType → Bool → Tree
anchor_of StartOfLine multiline = line_start multiline
anchor_of EndOfLine multiline = line_end multiline

-- one node, with the tree of each part in its place
abbrev pub node_tree : Node-F Tree → Tree
node_tree Node-F.Empty = empty
node_tree Node-F.Goal = goal
node_tree (Node-F.Char c) = char c
node_tree (Node-F.ByteSequence bs) = bytes bs.items
node_tree (Node-F.ByteSet bs) = byte_set bs.items
node_tree (Node-F.CharSet cs) = char_set cs.items
node_tree (Node-F.Cat parts) = cat_of parts.items
node_tree (Node-F.Alt a b) = alt a.value b.value
node_tree Node-F.MatchAny = any
node_tree Node-F.MatchAnyExceptLineTerminator = any_in_line
node_tree (Node-F.Anchor anchor_type multiline) = anchor_of anchor_type multiline
node_tree (Node-F.WordBoundary invert unicode_icase) = boundary invert unicode_icase
node_tree (Node-F.CaptureGroup id contents name) = capture id (option_map (λ text. chars (string_bytes text)) name) contents.value
node_tree (Node-F.BackRef group icase) = back group icase
node_tree (Node-F.Bracket contents) = bracket contents.invert (ends_in contents.cps)
node_tree (Node-F.StringSet alternatives icase) = string_set (map boxed_slice_items alternatives.items) icase
node_tree (Node-F.LookaroundAssertion negate backwards start_group end_group contents) =
    submatch (lookaround negate backwards) start_group end_group contents.value
node_tree (Node-F.AtomicGroup start_group end_group contents) = submatch atomic start_group end_group contents.value
node_tree (Node-F.Loop loopee quant groups) = loop loopee.value groups.start groups.end quant.min (most quant) quant.greedy
node_tree (Node-F.Loop1CharBody loopee quant) = single_loop loopee.value quant.min (most quant) quant.greedy

-- The tree that a node stands for.
abbrev pub tree : Node → Tree
tree = fold-Node Tree node_tree
