-- What stands right below a node, and a test that fails in all parts.
use Rattle.std.proofs.Common.{◌≡◌, Bool, false, List, [], ◌∷◌, map, All, refl, sym, ap, ◌∙◌}
use Rattle.std.proofs.lemmas.List.Elements.{All-nil, All-head, All-tail, All-append}
use Rattle.regress_front_nodes.specs.declared.node.AnchorType.TheVariants.{StartOfLine, EndOfLine}
use Rattle.regress_front_nodes.specs.declared.node.Node.{Node, Node-F, roll-Node, out-roll-Node, fold-roll-Node}
use Rattle.regress_front_nodes.specs.Trees.{Tree, tree, node_tree, cat, cat_of, alt, capture, submatch, loop, single_loop}
use Rattle.regress_front_nodes.specs.Forms.{parts}
use Rattle.regress_front_nodes.specs.Walks.{below, below_of}
use Rattle.regress_front_nodes.proofs.NodeLemmas.{parts-cat_of}
use Rattle.regress_front_nodes.proofs.KindLemmas.{by_kind}
use Rattle.regress_front_rules.specs.NormalForm.{nodes_below, Nowhere}
use Rattle.regress_front_rules.specs.Laws.{listed}

-- the trees right below
abbrev pub right_below : Tree → List Tree
right_below (cat a b) = a ∷ parts b
right_below (alt a b) = a ∷ b ∷ []
right_below (capture k name a) = a ∷ []
right_below (submatch kind first last a) = a ∷ []
right_below (loop a first last least most greedy) = a ∷ []
right_below (single_loop a least most greedy) = a ∷ []
right_below _ = []

-- what stands below a node is what stands below its tree
pub record Stands (n : Node) : Type 0 where
  pub placed : map tree (below n) ≡ right_below (tree n)
  pub proper : listed (tree n) ≡ tree n

made : (x : Node-F Node) (t : Tree) → tree (roll-Node x) ≡ t → map tree (below_of x) ≡ right_below t → listed t ≡ t → Stands (roll-Node x)
made x t e p l = record {
  placed = ap (λ y. map tree (below_of y)) (out-roll-Node x) ∙ p ∙ sym (ap right_below e);
  proper = ap listed e ∙ l ∙ sym e;
}

listed-cat_of : (ts : List Tree) → listed (cat_of ts) ≡ cat_of ts
listed-cat_of [] = refl
listed-cat_of (t ∷ ts) = ap (λ us. cat_of (t ∷ us)) (parts-cat_of ts)

below-cat_of : (ts : List Tree) → ts ≡ right_below (cat_of ts)
below-cat_of [] = refl
below-cat_of (t ∷ ts) = ap (λ us. t ∷ us) (sym (parts-cat_of ts))

pub stands : (n : Node) → Stands n
stands = by_kind Stands kinds
  where
    kinds : (x : Node-F Node) → Stands (roll-Node x)
    kinds (Node-F.Cat ps) =
        made (Node-F.Cat ps) (cat_of (map tree ps.items)) (fold-roll-Node Tree node_tree (Node-F.Cat ps)) (below-cat_of (map tree ps.items)) (listed-cat_of (map tree ps.items))
    kinds (Node-F.Anchor StartOfLine multiline) = made _ _ (fold-roll-Node Tree node_tree (Node-F.Anchor StartOfLine multiline)) refl refl
    kinds (Node-F.Anchor EndOfLine multiline) = made _ _ (fold-roll-Node Tree node_tree (Node-F.Anchor EndOfLine multiline)) refl refl
    kinds Node-F.Empty = made _ _ (fold-roll-Node Tree node_tree Node-F.Empty) refl refl
    kinds Node-F.Goal = made _ _ (fold-roll-Node Tree node_tree Node-F.Goal) refl refl
    kinds (Node-F.Char c) = made _ _ (fold-roll-Node Tree node_tree (Node-F.Char c)) refl refl
    kinds (Node-F.ByteSequence bs) = made _ _ (fold-roll-Node Tree node_tree (Node-F.ByteSequence bs)) refl refl
    kinds (Node-F.ByteSet bs) = made _ _ (fold-roll-Node Tree node_tree (Node-F.ByteSet bs)) refl refl
    kinds (Node-F.CharSet cs) = made _ _ (fold-roll-Node Tree node_tree (Node-F.CharSet cs)) refl refl
    kinds (Node-F.Alt a b) = made _ _ (fold-roll-Node Tree node_tree (Node-F.Alt a b)) refl refl
    kinds Node-F.MatchAny = made _ _ (fold-roll-Node Tree node_tree Node-F.MatchAny) refl refl
    kinds Node-F.MatchAnyExceptLineTerminator = made _ _ (fold-roll-Node Tree node_tree Node-F.MatchAnyExceptLineTerminator) refl refl
    kinds (Node-F.WordBoundary invert folded) = made _ _ (fold-roll-Node Tree node_tree (Node-F.WordBoundary invert folded)) refl refl
    kinds (Node-F.CaptureGroup id contents name) = made _ _ (fold-roll-Node Tree node_tree (Node-F.CaptureGroup id contents name)) refl refl
    kinds (Node-F.BackRef group icase) = made _ _ (fold-roll-Node Tree node_tree (Node-F.BackRef group icase)) refl refl
    kinds (Node-F.Bracket contents) = made _ _ (fold-roll-Node Tree node_tree (Node-F.Bracket contents)) refl refl
    kinds (Node-F.StringSet alternatives icase) = made _ _ (fold-roll-Node Tree node_tree (Node-F.StringSet alternatives icase)) refl refl
    kinds (Node-F.LookaroundAssertion negate backwards start end contents) = made _ _ (fold-roll-Node Tree node_tree (Node-F.LookaroundAssertion negate backwards start end contents)) refl refl
    kinds (Node-F.AtomicGroup start end contents) = made _ _ (fold-roll-Node Tree node_tree (Node-F.AtomicGroup start end contents)) refl refl
    kinds (Node-F.Loop loopee quant groups) = made _ _ (fold-roll-Node Tree node_tree (Node-F.Loop loopee quant groups)) refl refl
    kinds (Node-F.Loop1CharBody loopee quant) = made _ _ (fold-roll-Node Tree node_tree (Node-F.Loop1CharBody loopee quant)) refl refl

-- the parts of a `Cat` are a list
pub node-listed : (n : Node) → listed (tree n) ≡ tree n
node-listed n = (stands n).proper

-- where a test fails in each part, it fails at all nodes below the `Cat`
pub nowhere-parts : (test : Tree → Bool) (ts : List Tree) → All (Nowhere test) ts → All (λ u. test u ≡ false) (nodes_below (cat_of ts))
nowhere-parts test [] h = All-nil (λ u. test u ≡ false)
nowhere-parts test (t ∷ ts) h =
    All-append (λ u. test u ≡ false) (t ∷ nodes_below t) (nodes_below (cat_of ts)) (All-head (Nowhere test) t ts h)
    (nowhere-parts test ts (All-tail (Nowhere test) t ts h))
