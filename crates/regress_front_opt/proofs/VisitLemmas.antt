-- What is done below a node, in the words of nodes.
use Rattle.std.proofs.Common.{◌≡◌, ℕ, Bool, map, Option, String, Vec, Box, Global, Result}
use Rattle.std.specs.declared.ops.Range.{Range}
use Rattle.regress_meaning.specs.Meaning.{Direction}
use Rattle.regress_front_core.specs.declared.error.Error.{Error}
use Rattle.regress_front_core.specs.declared.quantifier.Quantifier.{Quantifier}
use Rattle.regress_front_nodes.specs.declared.node.Node.{Node}
use Rattle.regress_front_nodes.specs.declared.node.Node.TheVariants as N
use Rattle.regress_front_nodes.specs.Trees.{Tree, tree, cat_of, alt, lookaround, atomic}
use Rattle.regress_front_nodes.specs.TreeMeaning.{direction}
use Rattle.regress_front_nodes.proofs.TreeLaws.{tree-Cat, tree-Alt, tree-CaptureGroup, tree-LookaroundAssertion, tree-AtomicGroup, tree-Loop, tree-Loop1CharBody}
use Rattle.regress_front_opt.specs.Passes.{IsVisited, IsVisitedBelow}
use Rattle.regress_front_opt.proofs.PassLemmas.{below-capture, below-submatch, below-loop, below-single_loop}

module _ (dir : Direction) (broken : Tree → Bool) (r : Result Bool Error) where
  abbrev Visited : Node → Node → Type 0
  Visited m n = IsVisited dir broken (tree m) (tree n) r

  abbrev Below : Node → Node → Type 0
  Below m n = IsVisitedBelow dir broken (tree m) (tree n) r

  pub visited-Cat : (ps qs : Vec Node Global) → IsVisitedBelow dir broken (cat_of (map tree ps.items)) (cat_of (map tree qs.items)) r → Below (N.Cat ps) (N.Cat qs)
  visited-Cat ps qs h = rw (tree-Cat ps, tree-Cat qs) h

  pub visited-Alt : (a b c d : Box Node Global) → IsVisitedBelow dir broken (alt (tree a.value) (tree b.value)) (alt (tree c.value) (tree d.value)) r → Below (N.Alt a b) (N.Alt c d)
  visited-Alt a b c d h = rw (tree-Alt a b, tree-Alt c d) h

  pub visited-CaptureGroup : (id : ℕ) (a b : Box Node Global) (name : Option (String Global)) → Visited a.value b.value → Below (N.CaptureGroup id a name) (N.CaptureGroup id b name)
  visited-CaptureGroup id a b name h = rw (tree-CaptureGroup id a name, tree-CaptureGroup id b name) (below-capture dir broken _ _ (tree a.value) (tree b.value) r h)

  pub visited-Loop : (a b : Box Node Global) (quant : Quantifier) (groups : Range ℕ) → Visited a.value b.value → Below (N.Loop a quant groups) (N.Loop b quant groups)
  visited-Loop a b quant groups h = rw (tree-Loop a quant groups, tree-Loop b quant groups) (below-loop dir broken _ _ _ _ _ (tree a.value) (tree b.value) r h)

  pub visited-Loop1CharBody : (a b : Box Node Global) (quant : Quantifier) → Visited a.value b.value → Below (N.Loop1CharBody a quant) (N.Loop1CharBody b quant)
  visited-Loop1CharBody a b quant h = rw (tree-Loop1CharBody a quant, tree-Loop1CharBody b quant) (below-single_loop dir broken _ _ _ (tree a.value) (tree b.value) r h)

  pub visited-LookaroundAssertion : (negate backwards : Bool) (start end : ℕ) (a b : Box Node Global) → IsVisited (direction backwards) broken (tree a.value) (tree b.value) r
      → Below (N.LookaroundAssertion negate backwards start end a) (N.LookaroundAssertion negate backwards start end b)
  visited-LookaroundAssertion negate backwards start end a b h =
      rw (tree-LookaroundAssertion negate backwards start end a, tree-LookaroundAssertion negate backwards start end b)
      (below-submatch dir broken (lookaround negate backwards) start end (tree a.value) (tree b.value) r h)

  pub visited-AtomicGroup : (start end : ℕ) (a b : Box Node Global) → Visited a.value b.value → Below (N.AtomicGroup start end a) (N.AtomicGroup start end b)
  visited-AtomicGroup start end a b h = rw (tree-AtomicGroup start end a, tree-AtomicGroup start end b) (below-submatch dir broken atomic start end (tree a.value) (tree b.value) r h)
