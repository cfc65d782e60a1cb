-- In the tree of each node the `Cat`s are lists of parts.
use Rattle.std.proofs.Common.{◌≡◌, ℕ, zero, suc, ◌+◌, ◌<◌, true, List, [], ◌∷◌, map, All, subst, sym, arith}
use Rattle.std.proofs.lemmas.List.Elements.{All-nil, All-cons, All-head, All-tail, All-weaker}
use Rattle.regress_front_nodes.specs.declared.node.Node.{Node}
use Rattle.regress_front_nodes.specs.Trees.{Tree, tree, cat, cat_of, alt, capture, submatch, loop, single_loop}
use Rattle.regress_front_nodes.specs.Forms.{is_cat, parts, nesting}
use Rattle.regress_front_nodes.specs.Walks.{below}
use Rattle.regress_front_nodes.proofs.NodeLemmas.{is_cat-cat_of}
use Rattle.regress_front_rules.specs.Laws.{listed, AreListed, NodesAreListed}
use Rattle.regress_front_rules.proofs.PlaceLemmas.{right_below, stands}

-- nested less deep than so
abbrev IsShallow : ℕ → Tree → Type 0
IsShallow k u = nesting u < k

parts-shallow : (t : Tree) → All (IsShallow (nesting t)) (parts t)
parts-shallow (cat a b) =
    All-cons (IsShallow (nesting (cat a b))) a (parts b) (omega arith)
    (All-weaker (IsShallow (nesting b)) (IsShallow (nesting (cat a b))) (λ u h. omega (arith, h)) (parts b) (parts-shallow b))
parts-shallow t = All-nil (IsShallow (nesting t))

-- what stands right below is nested less deep
below-shallow : (t : Tree) → All (IsShallow (nesting t)) (right_below t)
below-shallow (cat a b) = parts-shallow (cat a b)
below-shallow (alt a b) =
    All-cons (IsShallow (nesting (alt a b))) a (b ∷ []) (omega arith) (All-cons (IsShallow (nesting (alt a b))) b [] (omega arith) (All-nil (IsShallow (nesting (alt a b)))))
below-shallow (capture k name a) = All-cons (IsShallow (nesting a + 1)) a [] (omega arith) (All-nil (IsShallow (nesting a + 1)))
below-shallow (submatch kind first last a) = All-cons (IsShallow (nesting a + 1)) a [] (omega arith) (All-nil (IsShallow (nesting a + 1)))
below-shallow (loop a first last least most greedy) = All-cons (IsShallow (nesting a + 1)) a [] (omega arith) (All-nil (IsShallow (nesting a + 1)))
below-shallow (single_loop a least most greedy) = All-cons (IsShallow (nesting a + 1)) a [] (omega arith) (All-nil (IsShallow (nesting a + 1)))
below-shallow t = All-nil (IsShallow (nesting t))

listed-all : (ts : List Tree) → All AreListed ts → AreListed (cat_of ts)
listed-all [] h = tt
listed-all (t ∷ ts) h = (All-head AreListed t ts h, listed-all ts (All-tail AreListed t ts h), is_cat-cat_of ts)

listed-cat : (a b : Tree) → cat_of (parts b) ≡ b → All AreListed (a ∷ parts b) → AreListed (cat a b)
listed-cat a b e h = (
  All-head AreListed a (parts b) h,
  subst AreListed e (listed-all (parts b) (All-tail AreListed a (parts b) h)),
  subst (λ u. is_cat u ≡ true) e (is_cat-cat_of (parts b)),
)

-- a tree whose own parts are a list, and so in all that stands right below
listed-whole : (t : Tree) → listed t ≡ t → All AreListed (right_below t) → AreListed t
listed-whole (cat a b) p h = let e : cat_of (parts b) ≡ b = cc in listed-cat a b e h
listed-whole (alt a b) p h = (All-head AreListed a (b ∷ []) h, All-head AreListed b [] (All-tail AreListed a (b ∷ []) h))
listed-whole (capture k name a) p h = All-head AreListed a [] h
listed-whole (submatch kind first last a) p h = All-head AreListed a [] h
listed-whole (loop a first last least most greedy) p h = All-head AreListed a [] h
listed-whole (single_loop a least most greedy) p h = All-head AreListed a [] h
listed-whole _ p h = tt

each-listed : (k : ℕ) → ((n : Node) → nesting (tree n) < k → AreListed (tree n)) → (ns : List Node) → All (IsShallow k) (map tree ns) → All AreListed (map tree ns)
each-listed k each [] h = All-nil AreListed
each-listed k each (n ∷ ns) h =
    All-cons AreListed (tree n) (map tree ns) (each n (All-head (IsShallow k) (tree n) (map tree ns) h))
    (each-listed k each ns (All-tail (IsShallow k) (tree n) (map tree ns) h))

listed-within : (k : ℕ) (n : Node) → nesting (tree n) < k → AreListed (tree n)
listed-within zero n h = absurd (omega arith)
listed-within (suc k) n h =
    let s = stands n in
    let shallow : All (IsShallow k) (right_below (tree n)) =
    All-weaker (IsShallow (nesting (tree n))) (IsShallow k) (λ u l. omega (arith, h, l)) (right_below (tree n)) (below-shallow (tree n)) in
    listed-whole (tree n) s.proper
    (subst (All AreListed) s.placed (each-listed k (λ m l. listed-within k m l) (below n) (subst (All (IsShallow k)) (sym s.placed) shallow)))

pub nodes-listed : NodesAreListed
nodes-listed n = listed-within (suc (nesting (tree n))) n (omega arith)
