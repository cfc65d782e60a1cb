-- Walks that may change the nodes below a node, and go on.
use Rattle.std.proofs.Common.{◌≡◌, ℕ, zero, suc, ◌+◌, ◌<◌, ◌≤◌, Bool, List, [], ◌∷◌, length, map, drop, get_or, Option, String, Vec, Box, Global, le_of_suc-le-suc, refl, sym, ap, ◌∙◌, arith}
use Rattle.std.specs.Fn.{Mut, Called}
use denote.Ref.{MutBor}
use Rattle.std.specs.declared.ops.Range.{Range}
use Rattle.regress_front_core.specs.declared.quantifier.Quantifier.{Quantifier}
use Rattle.regress_front_nodes.specs.declared.node.Node.{Node}
use Rattle.regress_front_nodes.specs.declared.node.Node.TheVariants as N
use Rattle.regress_front_nodes.specs.declared.visit.Walk.{Walk}
use Rattle.regress_front_nodes.specs.Trees.{tree, cat_of, empty, cat}
use Rattle.regress_front_nodes.specs.Forms.{nesting, shell}
use Rattle.regress_front_nodes.specs.Walks.{below, backward_below}
use Rattle.regress_front_nodes.specs.Changes.{ChangingWalks, Changes, no_node, skipped, first_above, first_below}
use Rattle.regress_front_nodes.proofs.TreeLaws.{tree-Cat, tree-Alt, tree-CaptureGroup, tree-LookaroundAssertion, tree-AtomicGroup, tree-Loop, tree-Loop1CharBody}
use Rattle.regress_front_nodes.proofs.WalkLemmas.{below-Cat, backward_below-Cat, below-Alt, backward_below-Alt, below-CaptureGroup, backward_below-CaptureGroup, below-LookaroundAssertion, backward_below-LookaroundAssertion, below-AtomicGroup, backward_below-AtomicGroup, below-Loop, backward_below-Loop, below-Loop1CharBody, backward_below-Loop1CharBody}

-- ---- a part nests less deep than the whole

nesting-first : (ns : List Node) (i : ℕ) (d : Node) → i < length ns → nesting (tree (get_or ns i d)) + 1 ≤ nesting (cat_of (map tree (drop i ns)))
nesting-first [] i d l = absurd (omega arith)
nesting-first (n ∷ ns) zero d l = omega arith
nesting-first (n ∷ ns) (suc i) d l = nesting-first ns i d (le_of_suc-le-suc l)

nesting-drop : (ns : List Node) (i : ℕ) → nesting (cat_of (map tree (drop i ns))) ≤ nesting (cat_of (map tree ns))
nesting-drop [] zero = omega arith
nesting-drop [] (suc i) = omega arith
nesting-drop (n ∷ ns) zero = omega arith
nesting-drop (n ∷ ns) (suc i) = let e = nesting-drop ns i in omega (arith, e)

-- where the parts from there on are those of the whole
pub nesting-part : (ns ms : List Node) (i : ℕ) (d : Node) → i < length ns → drop i ns ≡ drop i ms
    → nesting (tree (get_or ns i d)) + 1 ≤ nesting (cat_of (map tree ms))
nesting-part ns ms i d l same =
    let part = nesting-first ns i d l in
    let rest = nesting-drop ms i in
    let e = ap (λ xs. nesting (cat_of (map tree xs))) same in
    omega (arith, part, rest, e)

pub nesting-arm : (n : Node) (a b : Box Node Global) → n ≡ N.Alt a b → nesting (tree a.value) + 1 ≤ nesting (tree n)
nesting-arm n a b e =
    let whole = ap (λ m. nesting (tree m)) e ∙ ap nesting (tree-Alt a b) in
    omega (arith, whole)

-- ---- nodes with other nodes in the places right below them

shell-parts : (ns ms : List Node) → length ns ≡ length ms → shell (cat_of (map tree ns)) ≡ shell (cat_of (map tree ms))
shell-parts [] [] e = refl
shell-parts [] (m ∷ ms) e = absurd (omega (arith, e))
shell-parts (n ∷ ns) [] e = absurd (omega (arith, e))
shell-parts (n ∷ ns) (m ∷ ms) e = ap (cat empty) (shell-parts ns ms (omega (arith, e)))

pub shell-Cat : (parts parts' : Vec Node Global) → length parts'.items ≡ length parts.items → shell (tree (N.Cat parts')) ≡ shell (tree (N.Cat parts))
shell-Cat parts parts' e = ap shell (tree-Cat parts') ∙ shell-parts parts'.items parts.items e ∙ sym (ap shell (tree-Cat parts))

pub shell-Alt : (a b a' b' : Box Node Global) → shell (tree (N.Alt a' b')) ≡ shell (tree (N.Alt a b))
shell-Alt a b a' b' = ap shell (tree-Alt a' b') ∙ sym (ap shell (tree-Alt a b))

pub shell-CaptureGroup : (id : ℕ) (a a' : Box Node Global) (name : Option (String Global))
    → shell (tree (N.CaptureGroup id a' name)) ≡ shell (tree (N.CaptureGroup id a name))
shell-CaptureGroup id a a' name = ap shell (tree-CaptureGroup id a' name) ∙ sym (ap shell (tree-CaptureGroup id a name))

pub shell-LookaroundAssertion : (negate backwards : Bool) (start end : ℕ) (a a' : Box Node Global)
    → shell (tree (N.LookaroundAssertion negate backwards start end a')) ≡ shell (tree (N.LookaroundAssertion negate backwards start end a))
shell-LookaroundAssertion negate backwards start end a a' =
    ap shell (tree-LookaroundAssertion negate backwards start end a') ∙ sym (ap shell (tree-LookaroundAssertion negate backwards start end a))

pub shell-AtomicGroup : (start end : ℕ) (a a' : Box Node Global) → shell (tree (N.AtomicGroup start end a')) ≡ shell (tree (N.AtomicGroup start end a))
shell-AtomicGroup start end a a' = ap shell (tree-AtomicGroup start end a') ∙ sym (ap shell (tree-AtomicGroup start end a))

pub shell-Loop : (a a' : Box Node Global) (quant : Quantifier) (groups : Range ℕ) → shell (tree (N.Loop a' quant groups)) ≡ shell (tree (N.Loop a quant groups))
shell-Loop a a' quant groups = ap shell (tree-Loop a' quant groups) ∙ sym (ap shell (tree-Loop a quant groups))

pub shell-Loop1CharBody : (a a' : Box Node Global) (quant : Quantifier) → shell (tree (N.Loop1CharBody a' quant)) ≡ shell (tree (N.Loop1CharBody a quant))
shell-Loop1CharBody a a' quant = ap shell (tree-Loop1CharBody a' quant) ∙ sym (ap shell (tree-Loop1CharBody a quant))

module _ {F : Type 0} (g : Mut F (MutBor Node × (MutBor Walk × Unit {0})) (Unit {0} × (MutBor Node × (MutBor Walk × Unit {0})))) where
  -- a call that is shown a node and a `Walk`
  pub Changes-by : {f f' : F} {shown node : MutBor Node} {lent walk : MutBor Walk} {w : Walk} → lent.now ≡ w
      → Called g f (shown, (lent, tt)) (tt, (node, (walk, tt))) f' → Changes g f shown.now w f' node.now walk.now
  Changes-by {shown} {node} {lent} {walk} lends called = record {
    shown = shown;
    shows = refl;
    lent = lent;
    lends = lends;
    node = node;
    walk = walk;
    called = called;
    leaves_node = refl;
    leaves_walk = refl;
  }

module _ {F : Type 0} (g : Mut F (MutBor Node × (MutBor Walk × Unit {0})) (Unit {0} × (MutBor Node × (MutBor Walk × Unit {0})))) (postorder unicode : Bool) where
  -- a walk over one node, and then over others beside it
  pub Changing-then : {depth : ℕ} {behind : Bool} {f f' f'' : F} {n n' : Node} {ns ns' : List Node}
      → ChangingWalks g postorder unicode depth behind f (n ∷ []) (n' ∷ []) f' → ChangingWalks g postorder unicode depth behind f' ns ns' f''
      → ChangingWalks g postorder unicode depth behind f (n ∷ ns) (n' ∷ ns') f''
  Changing-then (skipped p v s no_node) r = skipped p v s r
  Changing-then (first_above p v s inner is no_node) r = first_above p v s inner is r
  Changing-then (first_below p inner is v no_node) r = first_below p inner is v r

  -- walks over what stands right below a node
  module _ (depth : ℕ) (behind : Bool) (f f' : F) where
    abbrev Goes : Bool → List Node → List Node → Type 0
    Goes inner ns ns' = ChangingWalks g postorder unicode depth inner f ns ns' f'

    abbrev GoesBelow : Node → Node → Type 0
    GoesBelow n n' = Goes (backward_below n behind) (below n) (below n')

    below-both : (n n' : Node) (ns ns' : List Node) (inner : Bool) → below n ≡ ns → below n' ≡ ns' → backward_below n behind ≡ inner
        → Goes inner ns ns' → GoesBelow n n'
    below-both n n' ns ns' inner e e' d w = rw (e, e', d) w

    pub changes-Cat : (parts parts' : Vec Node Global) → Goes behind parts.items parts'.items → GoesBelow (N.Cat parts) (N.Cat parts')
    changes-Cat parts parts' = below-both _ _ _ _ _ (below-Cat parts) (below-Cat parts') (backward_below-Cat parts behind)

    pub changes-Alt : (a b a' b' : Box Node Global) → Goes behind (a.value ∷ b.value ∷ []) (a'.value ∷ b'.value ∷ [])
        → GoesBelow (N.Alt a b) (N.Alt a' b')
    changes-Alt a b a' b' = below-both _ _ _ _ _ (below-Alt a b) (below-Alt a' b') (backward_below-Alt a b behind)

    pub changes-CaptureGroup : (id : ℕ) (a a' : Box Node Global) (name : Option (String Global)) → Goes behind (a.value ∷ []) (a'.value ∷ [])
        → GoesBelow (N.CaptureGroup id a name) (N.CaptureGroup id a' name)
    changes-CaptureGroup id a a' name =
        below-both _ _ _ _ _ (below-CaptureGroup id a name) (below-CaptureGroup id a' name) (backward_below-CaptureGroup id a name behind)

    pub changes-LookaroundAssertion : (negate backwards : Bool) (start end : ℕ) (a a' : Box Node Global)
        → Goes backwards (a.value ∷ []) (a'.value ∷ [])
        → GoesBelow (N.LookaroundAssertion negate backwards start end a) (N.LookaroundAssertion negate backwards start end a')
    changes-LookaroundAssertion negate backwards start end a a' =
        below-both _ _ _ _ _ (below-LookaroundAssertion negate backwards start end a)
        (below-LookaroundAssertion negate backwards start end a') (backward_below-LookaroundAssertion negate backwards start end a behind)

    pub changes-AtomicGroup : (start end : ℕ) (a a' : Box Node Global) → Goes behind (a.value ∷ []) (a'.value ∷ [])
        → GoesBelow (N.AtomicGroup start end a) (N.AtomicGroup start end a')
    changes-AtomicGroup start end a a' =
        below-both _ _ _ _ _ (below-AtomicGroup start end a) (below-AtomicGroup start end a') (backward_below-AtomicGroup start end a behind)

    pub changes-Loop : (a a' : Box Node Global) (quant : Quantifier) (groups : Range ℕ) → Goes behind (a.value ∷ []) (a'.value ∷ [])
        → GoesBelow (N.Loop a quant groups) (N.Loop a' quant groups)
    changes-Loop a a' quant groups =
        below-both _ _ _ _ _ (below-Loop a quant groups) (below-Loop a' quant groups) (backward_below-Loop a quant groups behind)

    pub changes-Loop1CharBody : (a a' : Box Node Global) (quant : Quantifier) → Goes behind (a.value ∷ []) (a'.value ∷ [])
        → GoesBelow (N.Loop1CharBody a quant) (N.Loop1CharBody a' quant)
    changes-Loop1CharBody a a' quant =
        below-both _ _ _ _ _ (below-Loop1CharBody a quant) (below-Loop1CharBody a' quant) (backward_below-Loop1CharBody a quant behind)
