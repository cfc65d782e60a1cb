-- What stands below a node, and walks that go on.
use Rattle.std.proofs.Common.{◌≡◌, ℕ, suc, ◌+◌, min, Bool, false, List, [], ◌∷◌, Option, String, Vec, Box, Global, refl, sym, ap, ◌∙◌, arith}
use Rattle.std.specs.Fn.{Mut}
use denote.Ref.{Bor, MutBor}
use Rattle.std.specs.declared.ops.Range.{Range}
use Rattle.regress_front_core.specs.declared.quantifier.Quantifier.{Quantifier}
use Rattle.regress_front_nodes.specs.declared.node.Node.{Node, Node-F, roll-Node, out-roll-Node}
use Rattle.regress_front_nodes.specs.declared.node.Node.TheVariants as N
use Rattle.regress_front_nodes.specs.declared.visit.Walk.{Walk}
use Rattle.regress_front_nodes.specs.Walks.{below, below_of, backward_below, backward_below_of, told, Walks, no_node, skipped, first_above, first_below}
use Rattle.regress_meaning.specs.Tokens.{greatest}
use Rattle.regress_front_nodes.proofs.KindLemmas.{by_kind}

pub below-Cat : (parts : Vec Node Global) → below (N.Cat parts) ≡ parts.items
below-Cat parts = ap below (sym (N.rolls-Cat parts)) ∙ ap below_of (out-roll-Node (Node-F.Cat parts))

pub backward_below-Cat : (parts : Vec Node Global) (behind : Bool) → backward_below (N.Cat parts) behind ≡ behind
backward_below-Cat parts behind = ap (λ n. backward_below n behind) (sym (N.rolls-Cat parts)) ∙ ap (λ m. backward_below_of m behind) (out-roll-Node (Node-F.Cat parts))

pub below-Alt : (a : Box Node Global) (b : Box Node Global) → below (N.Alt a b) ≡ a.value ∷ b.value ∷ []
below-Alt a b = ap below (sym (N.rolls-Alt a b)) ∙ ap below_of (out-roll-Node (Node-F.Alt a b))

pub backward_below-Alt : (a : Box Node Global) (b : Box Node Global) (behind : Bool) → backward_below (N.Alt a b) behind ≡ behind
backward_below-Alt a b behind = ap (λ n. backward_below n behind) (sym (N.rolls-Alt a b)) ∙ ap (λ m. backward_below_of m behind) (out-roll-Node (Node-F.Alt a b))

pub below-CaptureGroup : (id : ℕ) (contents : Box Node Global) (name : Option (String Global)) → below (N.CaptureGroup id contents name) ≡ contents.value ∷ []
below-CaptureGroup id contents name = ap below (sym (N.rolls-CaptureGroup id contents name)) ∙ ap below_of (out-roll-Node (Node-F.CaptureGroup id contents name))

pub backward_below-CaptureGroup : (id : ℕ) (contents : Box Node Global) (name : Option (String Global)) (behind : Bool) → backward_below (N.CaptureGroup id contents name) behind ≡ behind
backward_below-CaptureGroup id contents name behind = ap (λ n. backward_below n behind) (sym (N.rolls-CaptureGroup id contents name)) ∙ ap (λ m. backward_below_of m behind) (out-roll-Node (Node-F.CaptureGroup id contents name))

pub below-LookaroundAssertion : (negate : Bool) (backwards : Bool) (start : ℕ) (end : ℕ) (contents : Box Node Global) → below (N.LookaroundAssertion negate backwards start end contents) ≡ contents.value ∷ []
below-LookaroundAssertion negate backwards start end contents = ap below (sym (N.rolls-LookaroundAssertion negate backwards start end contents)) ∙ ap below_of (out-roll-Node (Node-F.LookaroundAssertion negate backwards start end contents))

pub backward_below-LookaroundAssertion : (negate : Bool) (backwards : Bool) (start : ℕ) (end : ℕ) (contents : Box Node Global) (behind : Bool) → backward_below (N.LookaroundAssertion negate backwards start end contents) behind ≡ backwards
backward_below-LookaroundAssertion negate backwards start end contents behind = ap (λ n. backward_below n behind) (sym (N.rolls-LookaroundAssertion negate backwards start end contents)) ∙ ap (λ m. backward_below_of m behind) (out-roll-Node (Node-F.LookaroundAssertion negate backwards start end contents))

pub below-AtomicGroup : (start : ℕ) (end : ℕ) (contents : Box Node Global) → below (N.AtomicGroup start end contents) ≡ contents.value ∷ []
below-AtomicGroup start end contents = ap below (sym (N.rolls-AtomicGroup start end contents)) ∙ ap below_of (out-roll-Node (Node-F.AtomicGroup start end contents))

pub backward_below-AtomicGroup : (start : ℕ) (end : ℕ) (contents : Box Node Global) (behind : Bool) → backward_below (N.AtomicGroup start end contents) behind ≡ behind
backward_below-AtomicGroup start end contents behind = ap (λ n. backward_below n behind) (sym (N.rolls-AtomicGroup start end contents)) ∙ ap (λ m. backward_below_of m behind) (out-roll-Node (Node-F.AtomicGroup start end contents))

pub below-Loop : (loopee : Box Node Global) (quant : Quantifier) (groups : Range ℕ) → below (N.Loop loopee quant groups) ≡ loopee.value ∷ []
below-Loop loopee quant groups = ap below (sym (N.rolls-Loop loopee quant groups)) ∙ ap below_of (out-roll-Node (Node-F.Loop loopee quant groups))

pub backward_below-Loop : (loopee : Box Node Global) (quant : Quantifier) (groups : Range ℕ) (behind : Bool) → backward_below (N.Loop loopee quant groups) behind ≡ behind
backward_below-Loop loopee quant groups behind = ap (λ n. backward_below n behind) (sym (N.rolls-Loop loopee quant groups)) ∙ ap (λ m. backward_below_of m behind) (out-roll-Node (Node-F.Loop loopee quant groups))

pub below-Loop1CharBody : (loopee : Box Node Global) (quant : Quantifier) → below (N.Loop1CharBody loopee quant) ≡ loopee.value ∷ []
below-Loop1CharBody loopee quant = ap below (sym (N.rolls-Loop1CharBody loopee quant)) ∙ ap below_of (out-roll-Node (Node-F.Loop1CharBody loopee quant))

pub backward_below-Loop1CharBody : (loopee : Box Node Global) (quant : Quantifier) (behind : Bool) → backward_below (N.Loop1CharBody loopee quant) behind ≡ behind
backward_below-Loop1CharBody loopee quant behind = ap (λ n. backward_below n behind) (sym (N.rolls-Loop1CharBody loopee quant)) ∙ ap (λ m. backward_below_of m behind) (out-roll-Node (Node-F.Loop1CharBody loopee quant))

-- nothing stands below a node of no kind that has parts
pub nothing_below : (n : Node) → ((parts : Vec Node Global) → n ≡ N.Cat parts → ⊥) → ((a : Box Node Global) (b : Box Node Global) → n ≡ N.Alt a b → ⊥) → ((id : ℕ) (contents : Box Node Global) (name : Option (String Global)) → n ≡ N.CaptureGroup id contents name → ⊥) → ((negate : Bool) (backwards : Bool) (start : ℕ) (end : ℕ) (contents : Box Node Global) → n ≡ N.LookaroundAssertion negate backwards start end contents → ⊥) → ((start : ℕ) (end : ℕ) (contents : Box Node Global) → n ≡ N.AtomicGroup start end contents → ⊥) → ((loopee : Box Node Global) (quant : Quantifier) (groups : Range ℕ) → n ≡ N.Loop loopee quant groups → ⊥) → ((loopee : Box Node Global) (quant : Quantifier) → n ≡ N.Loop1CharBody loopee quant → ⊥) → below n ≡ []
nothing_below = by_kind (λ n. ((parts : Vec Node Global) → n ≡ N.Cat parts → ⊥) → ((a : Box Node Global) (b : Box Node Global) → n ≡ N.Alt a b → ⊥) → ((id : ℕ) (contents : Box Node Global) (name : Option (String Global)) → n ≡ N.CaptureGroup id contents name → ⊥) → ((negate : Bool) (backwards : Bool) (start : ℕ) (end : ℕ) (contents : Box Node Global) → n ≡ N.LookaroundAssertion negate backwards start end contents → ⊥) → ((start : ℕ) (end : ℕ) (contents : Box Node Global) → n ≡ N.AtomicGroup start end contents → ⊥) → ((loopee : Box Node Global) (quant : Quantifier) (groups : Range ℕ) → n ≡ N.Loop loopee quant groups → ⊥) → ((loopee : Box Node Global) (quant : Quantifier) → n ≡ N.Loop1CharBody loopee quant → ⊥) → below n ≡ []) kinds
  where
    kinds : (m : Node-F Node) → let n = roll-Node m in ((parts : Vec Node Global) → n ≡ N.Cat parts → ⊥) → ((a : Box Node Global) (b : Box Node Global) → n ≡ N.Alt a b → ⊥) → ((id : ℕ) (contents : Box Node Global) (name : Option (String Global)) → n ≡ N.CaptureGroup id contents name → ⊥) → ((negate : Bool) (backwards : Bool) (start : ℕ) (end : ℕ) (contents : Box Node Global) → n ≡ N.LookaroundAssertion negate backwards start end contents → ⊥) → ((start : ℕ) (end : ℕ) (contents : Box Node Global) → n ≡ N.AtomicGroup start end contents → ⊥) → ((loopee : Box Node Global) (quant : Quantifier) (groups : Range ℕ) → n ≡ N.Loop loopee quant groups → ⊥) → ((loopee : Box Node Global) (quant : Quantifier) → n ≡ N.Loop1CharBody loopee quant → ⊥) → below n ≡ []
    kinds Node-F.Empty h0 h1 h2 h3 h4 h5 h6 = ap below_of (out-roll-Node Node-F.Empty)
    kinds Node-F.Goal h0 h1 h2 h3 h4 h5 h6 = ap below_of (out-roll-Node Node-F.Goal)
    kinds (Node-F.Char c) h0 h1 h2 h3 h4 h5 h6 = ap below_of (out-roll-Node (Node-F.Char c))
    kinds (Node-F.ByteSequence bs) h0 h1 h2 h3 h4 h5 h6 = ap below_of (out-roll-Node (Node-F.ByteSequence bs))
    kinds (Node-F.ByteSet bs) h0 h1 h2 h3 h4 h5 h6 = ap below_of (out-roll-Node (Node-F.ByteSet bs))
    kinds (Node-F.CharSet cs) h0 h1 h2 h3 h4 h5 h6 = ap below_of (out-roll-Node (Node-F.CharSet cs))
    kinds (Node-F.Cat parts) h0 h1 h2 h3 h4 h5 h6 = absurd (h0 parts (N.rolls-Cat parts))
    kinds (Node-F.Alt a b) h0 h1 h2 h3 h4 h5 h6 = absurd (h1 a b (N.rolls-Alt a b))
    kinds Node-F.MatchAny h0 h1 h2 h3 h4 h5 h6 = ap below_of (out-roll-Node Node-F.MatchAny)
    kinds Node-F.MatchAnyExceptLineTerminator h0 h1 h2 h3 h4 h5 h6 = ap below_of (out-roll-Node Node-F.MatchAnyExceptLineTerminator)
    kinds (Node-F.Anchor t multiline) h0 h1 h2 h3 h4 h5 h6 = ap below_of (out-roll-Node (Node-F.Anchor t multiline))
    kinds (Node-F.WordBoundary invert folded) h0 h1 h2 h3 h4 h5 h6 = ap below_of (out-roll-Node (Node-F.WordBoundary invert folded))
    kinds (Node-F.CaptureGroup id contents name) h0 h1 h2 h3 h4 h5 h6 = absurd (h2 id contents name (N.rolls-CaptureGroup id contents name))
    kinds (Node-F.BackRef group icase) h0 h1 h2 h3 h4 h5 h6 = ap below_of (out-roll-Node (Node-F.BackRef group icase))
    kinds (Node-F.Bracket contents) h0 h1 h2 h3 h4 h5 h6 = ap below_of (out-roll-Node (Node-F.Bracket contents))
    kinds (Node-F.StringSet alternatives icase) h0 h1 h2 h3 h4 h5 h6 = ap below_of (out-roll-Node (Node-F.StringSet alternatives icase))
    kinds (Node-F.LookaroundAssertion negate backwards start end contents) h0 h1 h2 h3 h4 h5 h6 = absurd (h3 negate backwards start end contents (N.rolls-LookaroundAssertion negate backwards start end contents))
    kinds (Node-F.AtomicGroup start end contents) h0 h1 h2 h3 h4 h5 h6 = absurd (h4 start end contents (N.rolls-AtomicGroup start end contents))
    kinds (Node-F.Loop loopee quant groups) h0 h1 h2 h3 h4 h5 h6 = absurd (h5 loopee quant groups (N.rolls-Loop loopee quant groups))
    kinds (Node-F.Loop1CharBody loopee quant) h0 h1 h2 h3 h4 h5 h6 = absurd (h6 loopee quant (N.rolls-Loop1CharBody loopee quant))

-- what a visit is told, where so many nodes were counted above
pub told-at : (unicode : Bool) (depth counted : ℕ) (behind : Bool) → counted ≡ min depth greatest
    → record { skip_children = false; depth = counted; in_lookbehind = behind; unicode = unicode } ≡ told unicode depth behind
told-at unicode depth counted behind e = rw e refl

-- one more node above
pub counted-more : (depth counted : ℕ) → counted ≡ min depth greatest → min (counted + 1) greatest ≡ min (suc depth) greatest
counted-more depth counted e = omega arith

module _ {F : Type 0} (g : Mut F (Bor Node × (MutBor Walk × Unit {0})) (Unit {0} × (MutBor Walk × Unit {0}))) (postorder unicode : Bool) where
  -- a walk over one node, and then over others beside it
  pub Walks-then : {depth : ℕ} {behind : Bool} {f f' f'' : F} {n : Node} {ns : List Node}
      → Walks g postorder unicode depth behind f (n ∷ []) f' → Walks g postorder unicode depth behind f' ns f''
      → Walks g postorder unicode depth behind f (n ∷ ns) f''
  Walks-then (skipped p v s no_node) r = skipped p v s r
  Walks-then (first_above p v s inner no_node) r = first_above p v s inner r
  Walks-then (first_below p inner v no_node) r = first_below p inner v r
