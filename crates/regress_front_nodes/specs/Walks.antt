-- Walks over the nodes of a tree: which nodes are visited, in which order, and what each visit is told.
use Rattle.std.specs.Prelude.{◌≡◌, ℕ, suc, Bool, true, false, List, [], ◌∷◌, min}
use Rattle.std.specs.Fn.{Mut, Called}
use denote.Ref.{Bor, MutBor}
use Rattle.regress_meaning.specs.Tokens.{greatest}
use Rattle.regress_front_nodes.specs.declared.node.Node.{Node, out-Node}
use Rattle.regress_front_nodes.specs.declared.node.Node.TheOpen.{Node-F}
use Rattle.regress_front_nodes.specs.declared.visit.Walk.{Walk}

-- the nodes that stand right below, in order
abbrev pub below_of : Node-F Node → List Node
below_of (Node-F.Cat parts) = parts.items
below_of (Node-F.Alt a b) = a.value ∷ b.value ∷ []
below_of (Node-F.CaptureGroup id contents name) = contents.value ∷ []
below_of (Node-F.LookaroundAssertion negate backwards start_group end_group contents) = contents.value ∷ []
below_of (Node-F.AtomicGroup start_group end_group contents) = contents.value ∷ []
below_of (Node-F.Loop loopee quant groups) = loopee.value ∷ []
below_of (Node-F.Loop1CharBody loopee quant) = loopee.value ∷ []
below_of _ = []

-- the same, of a node
abbrev pub below : Node → List Node
below n = below_of (out-Node n)

-- whether what stands below a node is read backwards, where the node itself is or is not
abbrev pub backward_below_of : Node-F Node → Bool → Bool
backward_below_of (Node-F.LookaroundAssertion negate backwards start_group end_group contents) behind = backwards
backward_below_of _ behind = behind

-- the same, of a node
abbrev pub backward_below : Node → Bool → Bool
backward_below n = backward_below_of (out-Node n)

-- what a visit is told, below so many nodes
abbrev pub told : (unicode : Bool) → ℕ → (behind : Bool) → Walk
told unicode depth behind = record { skip_children = false; depth = min depth greatest; in_lookbehind = behind; unicode = unicode }

-- f is called at a node and at w, and leaves w' and f'
pub record Visits {F : Type 0} (g : Mut F (Bor Node × (MutBor Walk × Unit {0})) (Unit {0} × (MutBor Walk × Unit {0}))) (f : F) (n : Node) (w : Walk) (f' : F) (w' : Walk) : Type 0 where
  pub shown : Bor Node
  pub shows : shown.now ≡ n
  pub lent : MutBor Walk
  pub lends : lent.now ≡ w
  pub left : MutBor Walk
  pub called : Called g f (shown, (lent, tt)) (tt, (left, tt)) f'
  pub leaves : left.now ≡ w'

module _ {F : Type 0} (g : Mut F (Bor Node × (MutBor Walk × Unit {0})) (Unit {0} × (MutBor Walk × Unit {0}))) (postorder unicode : Bool) where
  -- The visits to nodes that stand side by side, below so many others, and to all below them, take f to f'.
  pub data Walks : ℕ → Bool → F → List Node → F → Type 0 where
    no_node : {depth : ℕ} {behind : Bool} {f : F} → Walks depth behind f [] f
    -- a node is visited, and what stands below it is passed over
    skipped : {depth : ℕ} {behind : Bool} {f f' f'' : F} {n : Node} {ns : List Node} {w : Walk} → postorder ≡ false
        → Visits g f n (told unicode depth behind) f' w → w.skip_children ≡ true → Walks depth behind f' ns f'' → Walks depth behind f (n ∷ ns) f''
    -- a node is visited, and then all below it
    first_above : {depth : ℕ} {behind : Bool} {f f' f'' f''' : F} {n : Node} {ns : List Node} {w : Walk} → postorder ≡ false
        → Visits g f n (told unicode depth behind) f' w → w.skip_children ≡ false → Walks (suc depth) (backward_below n behind) f' (below n) f''
        → Walks depth behind f'' ns f''' → Walks depth behind f (n ∷ ns) f'''
    -- all below a node are visited, and then the node
    first_below : {depth : ℕ} {behind : Bool} {f f' f'' f''' : F} {n : Node} {ns : List Node} {w : Walk} → postorder ≡ true
        → Walks (suc depth) (backward_below n behind) f (below n) f' → Visits g f' n (told unicode depth behind) f'' w
        → Walks depth behind f'' ns f''' → Walks depth behind f (n ∷ ns) f'''
