-- Walks over the nodes of a tree that may change it.
use Rattle.std.specs.Prelude.{◌≡◌, ℕ, suc, ◌≤◌, Bool, true, false, List, [], ◌∷◌}
use Rattle.std.specs.Fn.{Mut, Called}
use denote.Ref.{MutBor}
use Rattle.regress_front_nodes.specs.declared.node.Node.{Node}
use Rattle.regress_front_nodes.specs.declared.visit.Walk.{Walk}
use Rattle.regress_front_nodes.specs.Trees.{tree}
use Rattle.regress_front_nodes.specs.Forms.{nesting, shell}
use Rattle.regress_front_nodes.specs.Walks.{below, backward_below, told}

-- the second node is the first with these nodes right below it
pub record IsWith (n : Node) (ns : List Node) (n' : Node) : Type 0 where
  pub kept : shell (tree n') ≡ shell (tree n)
  pub placed : below n' ≡ ns

-- f is called at a node and at w, and leaves n', w' and f'
pub record Changes {F : Type 0} (g : Mut F (MutBor Node × (MutBor Walk × Unit {0})) (Unit {0} × (MutBor Node × (MutBor Walk × Unit {0})))) (f : F) (n : Node) (w : Walk) (f' : F) (n' : Node) (w' : Walk) : Type 0 where
  pub shown : MutBor Node
  pub shows : shown.now ≡ n
  pub lent : MutBor Walk
  pub lends : lent.now ≡ w
  pub node : MutBor Node
  pub walk : MutBor Walk
  pub called : Called g f (shown, (lent, tt)) (tt, (node, (walk, tt))) f'
  pub leaves_node : node.now ≡ n'
  pub leaves_walk : walk.now ≡ w'

module _ {F : Type 0} (g : Mut F (MutBor Node × (MutBor Walk × Unit {0})) (Unit {0} × (MutBor Node × (MutBor Walk × Unit {0})))) where
  -- no call leaves a node deeper than it was
  abbrev pub LeavesNoneDeeper : Type 0
  LeavesNoneDeeper = (f f' : F) (n n' : Node) (w w' : Walk) → Changes g f n w f' n' w' → nesting (tree n') ≤ nesting (tree n)

module _ {F : Type 0} (g : Mut F (MutBor Node × (MutBor Walk × Unit {0})) (Unit {0} × (MutBor Node × (MutBor Walk × Unit {0})))) (postorder unicode : Bool) where
  -- The visits to nodes that stand side by side, below so many others, and to all below them, take f to f' and leave other
  -- nodes in their places.
  pub data ChangingWalks : ℕ → Bool → F → List Node → List Node → F → Type 0 where
    no_node : {depth : ℕ} {behind : Bool} {f : F} → ChangingWalks depth behind f [] [] f
    -- a node is visited, and what then stands below it is passed over
    skipped : {depth : ℕ} {behind : Bool} {f f' f'' : F} {n n' : Node} {ns ns' : List Node} {w : Walk} → postorder ≡ false
        → Changes g f n (told unicode depth behind) f' n' w → w.skip_children ≡ true → ChangingWalks depth behind f' ns ns' f''
        → ChangingWalks depth behind f (n ∷ ns) (n' ∷ ns') f''
    -- a node is visited, and then all that stands below it
    first_above : {depth : ℕ} {behind : Bool} {f f' f'' f''' : F} {n n' n'' : Node} {ms ns ns' : List Node} {w : Walk} → postorder ≡ false
        → Changes g f n (told unicode depth behind) f' n' w → w.skip_children ≡ false
        → ChangingWalks (suc depth) (backward_below n' behind) f' (below n') ms f'' → IsWith n' ms n''
        → ChangingWalks depth behind f'' ns ns' f''' → ChangingWalks depth behind f (n ∷ ns) (n'' ∷ ns') f'''
    -- all below a node are visited, and then the node
    first_below : {depth : ℕ} {behind : Bool} {f f' f'' f''' : F} {n n' n'' : Node} {ms ns ns' : List Node} {w : Walk} → postorder ≡ true
        → ChangingWalks (suc depth) (backward_below n behind) f (below n) ms f' → IsWith n ms n' → Changes g f' n' (told unicode depth behind) f'' n'' w
        → ChangingWalks depth behind f'' ns ns' f''' → ChangingWalks depth behind f (n ∷ ns) (n'' ∷ ns') f'''
