-- From what a pass does at a node to what it does in all of a tree.
use Rattle.std.proofs.Common.{◌≡◌, ℕ, zero, suc, ◌<◌, Bool, true, false, ◌||◌, List, [], ◌∷◌, ◌++◌, length, map, get_or, set, drop, Result, Ok, Err, All, Option, le_of_suc-le-suc, refl, sym, ap, ◌∙◌, subst, arith}
use Rattle.std.proofs.lemmas.List.Elements.{All-nil, All-cons, All-append}
use Rattle.std.specs.Result.{IsErrAnd}
use Rattle.std.proofs.lemmas.Result.{err_from_is_err_and}
use Rattle.regress_meaning.specs.Meaning.{Direction, Forward}
use Rattle.regress_front_core.specs.declared.error.Error.{Error}
use Rattle.regress_front_core.specs.declared.error.Error.TheVariants.{OutOfMemory}
use Rattle.regress_front_nodes.specs.declared.node.Node.{Node}
use Rattle.regress_front_nodes.specs.Trees.{Tree, tree, cat_of, alt, capture, submatch, Submatch, loop, single_loop}
use Rattle.regress_front_nodes.specs.WellFormed.{AreLawful}
use Rattle.regress_front_nodes.specs.TreeMeaning.{direction, submatch_direction}
use Rattle.regress_front_rules.specs.NormalForm.{nodes_below, Nowhere}
use Rattle.regress_front_rules.specs.Rules.{HasLaws, RewritesAtRoot, Rewrites, there, in_part, in_first, in_second, in_capture, in_submatch, in_loop, in_single_loop, Reaches, stays, and_then}
use Rattle.regress_front_opt.specs.declared.action.PassAction.{PassAction}
use Rattle.regress_front_opt.specs.Passes.{Advances, IsPassed, IsVisited, IsVisitedHere, IsVisitedBelow, AreVisited}
use Rattle.regress_front_rules.proofs.KeepLemmas.{reaches-then, reaches-in, reaches-keeps, reaches-weight, rewrites-rewritten}
use Rattle.regress_front_rules.specs.Weight.{weight}
use Rattle.regress_front_rules.proofs.PlaceLemmas.{nowhere-parts}

-- ---- rules, at least one

pub advances-reaches : {dir : Direction} {t u : Tree} → Advances dir t u → Reaches dir t u
advances-reaches a = and_then a.first a.others

pub root-advances : {dir : Direction} {t u : Tree} → RewritesAtRoot dir t u → Advances dir t u
root-advances {u = u} h = record { next = u; first = there h; others = stays }

-- a choice whose words are shared, where the node stands in no lookbehind
pub shared-advances : (behind : Bool) (t a b c d u : Tree) → behind ≡ false → t ≡ alt c d → a ≡ c → b ≡ d → RewritesAtRoot Forward (alt a b) u → Advances (direction behind) t u
shared-advances behind t a b c d u e f g h r = rw (e, f, ← g, ← h) (root-advances r)

pub advances-then : {dir : Direction} {t u v : Tree} → Advances dir t u → Reaches dir u v → Advances dir t v
advances-then a h = record { next = a.next; first = a.first; others = reaches-then a.others h }

pub advances-in : {dir below : Direction} (f : Tree → Tree) → ((a b : Tree) → Rewrites below a b → Rewrites dir (f a) (f b)) → {t u : Tree} → Advances below t u → Advances dir (f t) (f u)
advances-in f place {t = t} a = record { next = f a.next; first = place t a.next a.first; others = reaches-in f place a.others }

-- rules keep a tree lawful
pub reaches-laws : {dir : Direction} {t u : Tree} → Reaches dir t u → HasLaws t → HasLaws u
reaches-laws h l = (l.0, (reaches-keeps h).lawful l.0 l.1)

-- ---- a node, and what stands below it

module _ (dir : Direction) (broken : Tree → Bool) where
  abbrev Fails : Tree → Type 0
  Fails u = broken u ≡ false

  -- what stands below a node, and then the node
  pub visited-both : (t u v : Tree) (below here : Bool) → IsVisitedBelow dir broken t u (Ok below) → IsVisitedHere dir broken u v (Ok here) → IsVisited dir broken t v (Ok (below || here))
  visited-both t u v true true h k = advances-then h (advances-reaches k)
  visited-both t u v true false h k = subst (Advances dir t) (sym k.0) h
  visited-both t u v false true h k = subst (λ s. Advances dir s v) h.0 k
  visited-both t u v false false h k = (k.0 ∙ h.0, All-cons Fails t (nodes_below t) (subst Fails h.0 k.1) h.1)

  pub below-reaches : (t u : Tree) (below : Bool) → IsVisitedBelow dir broken t u (Ok below) → Reaches dir t u
  below-reaches t u true h = advances-reaches h
  below-reaches t u false h = subst (Reaches dir t) (sym h.0) stays

  pub visited-reaches : (t u : Tree) (changed : Bool) → IsVisited dir broken t u (Ok changed) → Reaches dir t u
  visited-reaches t u true h = advances-reaches h
  visited-reaches t u false h = subst (Reaches dir t) (sym h.0) stays

  -- where memory is refused
  pub refused : (t u v : Tree) (r : Result Bool Error) (e : Error) → Reaches dir t u → Reaches dir u v × (e ≡ OutOfMemory) → IsErrAnd r (λ y. y ≡ e) → IsVisited dir broken t v r
  refused t u v r e h k w = let p = err_from_is_err_and r w in rw (p.1, p.2) (reaches-then h k.0, k.1)

  pub refused-below : (t u v : Tree) (r : Result Bool Error) (e : Error) → Reaches dir t u → Reaches dir u v × (e ≡ OutOfMemory) → IsErrAnd r (λ y. y ≡ e) → IsVisitedBelow dir broken t v r
  refused-below t u v r e h k w = let p = err_from_is_err_and r w in rw (p.1, p.2) (reaches-then h k.0, k.1)

  -- ---- places

  pub below-Alt : (a b c d : Tree) (x y : Bool) → IsVisited dir broken a c (Ok x) → IsVisited dir broken b d (Ok y) → IsVisitedBelow dir broken (alt a b) (alt c d) (Ok (x || y))
  below-Alt a b c d true y h k =
      advances-then (advances-in (λ t. alt t b) (λ s t r. in_first r) h) (reaches-in (λ t. alt c t) (λ s t r. in_second r) (visited-reaches b d y k))
  below-Alt a b c d false true h k = rw h.0 (advances-in (λ t. alt a t) (λ s t r. in_second r) k)
  below-Alt a b c d false false h k = (rw (h.0, k.0) refl, All-append Fails (a ∷ nodes_below a) (b ∷ nodes_below b) h.1 k.1)

  pub below-capture : (k : ℕ) (name : Option (List ℕ)) (a b : Tree) (r : Result Bool Error) → IsVisited dir broken a b r → IsVisitedBelow dir broken (capture k name a) (capture k name b) r
  below-capture k name a b (Ok true) h = advances-in (capture k name) (λ s t r. in_capture r) h
  below-capture k name a b (Ok false) h = (ap (capture k name) h.0, h.1)
  below-capture k name a b (Err e) h = (reaches-in (capture k name) (λ s t r. in_capture r) h.0, h.1)

  pub below-loop : (first last least most : ℕ) (greedy : Bool) (a b : Tree) (r : Result Bool Error) → IsVisited dir broken a b r
      → IsVisitedBelow dir broken (loop a first last least most greedy) (loop b first last least most greedy) r
  below-loop first last least most greedy a b (Ok true) h = advances-in (λ t. loop t first last least most greedy) (λ s t r. in_loop r) h
  below-loop first last least most greedy a b (Ok false) h = (ap (λ t. loop t first last least most greedy) h.0, h.1)
  below-loop first last least most greedy a b (Err e) h = (reaches-in (λ t. loop t first last least most greedy) (λ s t r. in_loop r) h.0, h.1)

  pub below-single_loop : (least most : ℕ) (greedy : Bool) (a b : Tree) (r : Result Bool Error) → IsVisited dir broken a b r
      → IsVisitedBelow dir broken (single_loop a least most greedy) (single_loop b least most greedy) r
  below-single_loop least most greedy a b (Ok true) h = advances-in (λ t. single_loop t least most greedy) (λ s t r. in_single_loop r) h
  below-single_loop least most greedy a b (Ok false) h = (ap (λ t. single_loop t least most greedy) h.0, h.1)
  below-single_loop least most greedy a b (Err e) h = (reaches-in (λ t. single_loop t least most greedy) (λ s t r. in_single_loop r) h.0, h.1)

  -- ---- the parts of a `Cat`

  -- the parts of which one is another
  record Split (ns : List Node) (i : ℕ) (d b : Node) : Type 0 where
    before : List Tree
    behind : List Tree
    was : map tree ns ≡ before ++ tree (get_or ns i d) ∷ behind
    is : map tree (set ns i b) ≡ before ++ tree b ∷ behind

  split : (ns : List Node) (i : ℕ) (d b : Node) → i < length ns → Split ns i d b
  split [] i d b l = absurd (omega arith)
  split (n ∷ ns) zero d b l = record { before = []; behind = map tree ns; was = refl; is = refl }
  split (n ∷ ns) (suc i) d b l =
      let s = split ns i d b (le_of_suc-le-suc l) in
      record { before = tree n ∷ s.before; behind = s.behind; was = ap (λ ts. tree n ∷ ts) s.was; is = ap (λ ts. tree n ∷ ts) s.is }

  -- a part that is rewritten
  pub part-reaches : (ns : List Node) (i : ℕ) (d b : Node) → i < length ns → Reaches dir (tree (get_or ns i d)) (tree b) → Reaches dir (cat_of (map tree ns)) (cat_of (map tree (set ns i b)))
  part-reaches ns i d b l h =
      let s = split ns i d b l in
      rw (s.was, s.is) (reaches-in (λ a. cat_of (s.before ++ a ∷ s.behind)) (λ a c r. in_part s.before s.behind r) h)

  part-advances : (ns : List Node) (i : ℕ) (d b : Node) → i < length ns → Advances dir (tree (get_or ns i d)) (tree b) → Advances dir (cat_of (map tree ns)) (cat_of (map tree (set ns i b)))
  part-advances ns i d b l h =
      let s = split ns i d b l in
      rw (s.was, s.is) (advances-in (λ a. cat_of (s.before ++ a ∷ s.behind)) (λ a c r. in_part s.before s.behind r) h)

  part-same : (ns : List Node) (i : ℕ) (d b : Node) → i < length ns → tree b ≡ tree (get_or ns i d) → map tree (set ns i b) ≡ map tree ns
  part-same ns i d b l e = let s = split ns i d b l in s.is ∙ ap (λ a. s.before ++ a ∷ s.behind) e ∙ sym s.was

  pub parts-reach-so-far : (ts us first : List Tree) (changed : Bool) → AreVisited dir broken ts us first changed → Reaches dir (cat_of ts) (cat_of us)
  parts-reach-so-far ts us first true h = advances-reaches h
  parts-reach-so-far ts us first false h = subst (λ vs. Reaches dir (cat_of ts) (cat_of vs)) (sym h.0) stays

  -- one more part
  pub parts-more : (ts : List Tree) (ns : List Node) (i : ℕ) (d b : Node) (first : List Tree) (changed here : Bool) → i < length ns
      → AreVisited dir broken ts (map tree ns) first changed → IsVisited dir broken (tree (get_or ns i d)) (tree b) (Ok here)
      → AreVisited dir broken ts (map tree (set ns i b)) (first ++ tree b ∷ []) (changed || here)
  parts-more ts ns i d b first true here l h k = advances-then h (part-reaches ns i d b l (visited-reaches _ _ here k))
  parts-more ts ns i d b first false true l h k = subst (λ us. Advances dir (cat_of us) (cat_of (map tree (set ns i b)))) h.0 (part-advances ns i d b l k)
  parts-more ts ns i d b first false false l h k = (
    part-same ns i d b l k.0 ∙ h.0,
    All-append (Nowhere broken) first (tree b ∷ []) h.1 (All-cons (Nowhere broken) (tree b) [] (subst (Nowhere broken) (sym k.0) k.1) (All-nil (Nowhere broken))),
  )

  pub below-Cat : (ts us : List Tree) (changed : Bool) → AreVisited dir broken ts us us changed → IsVisitedBelow dir broken (cat_of ts) (cat_of us) (Ok changed)
  below-Cat ts us true h = h
  below-Cat ts us false h = (ap cat_of h.0, nowhere-parts broken ts (subst (All (Nowhere broken)) h.0 h.1))

-- what is matched by itself is read in a direction of its own
pub below-submatch : (dir : Direction) (broken : Tree → Bool) (kind : Submatch) (first last : ℕ) (a b : Tree) (r : Result Bool Error) → IsVisited (submatch_direction kind dir) broken a b r
    → IsVisitedBelow dir broken (submatch kind first last a) (submatch kind first last b) r
below-submatch dir broken kind first last a b (Ok true) h = advances-in (submatch kind first last) (λ s t r. in_submatch r) h
below-submatch dir broken kind first last a b (Ok false) h = (ap (submatch kind first last) h.0, h.1)
below-submatch dir broken kind first last a b (Err e) h = (reaches-in (submatch kind first last) (λ s t r. in_submatch r) h.0, h.1)

-- ---- parts of what is lawful

drop-laws : (n : ℕ) (ns : List Node) (i : ℕ) → AreLawful n (cat_of (map tree ns)) → AreLawful n (cat_of (map tree (drop i ns)))
drop-laws n [] zero h = h
drop-laws n [] (suc i) h = h
drop-laws n (m ∷ ns) zero h = h
drop-laws n (m ∷ ns) (suc i) h = drop-laws n ns i h.1

first-laws : (n : ℕ) (ns : List Node) (i : ℕ) (d : Node) → i < length ns → AreLawful n (cat_of (map tree (drop i ns))) → AreLawful n (tree (get_or ns i d))
first-laws n [] i d l h = absurd (omega arith)
first-laws n (m ∷ ns) zero d l h = h.0
first-laws n (m ∷ ns) (suc i) d l h = first-laws n ns i d (le_of_suc-le-suc l) h

-- where the parts from there on are those of the whole
pub part-laws : (ns ms : List Node) (i : ℕ) (d : Node) → i < length ns → drop i ns ≡ drop i ms → HasLaws (cat_of (map tree ms)) → HasLaws (tree (get_or ns i d))
part-laws ns ms i d l same h =
    (h.0, first-laws h.0 ns i d l (subst (λ xs. AreLawful h.0 (cat_of (map tree xs))) (sym same) (drop-laws h.0 ms i h.1)))

pub alt-laws : (a b : Tree) → HasLaws (alt a b) → HasLaws a × HasLaws b
alt-laws a b h = ((h.0, h.1.0), (h.0, h.1.1))

-- ---- rounds

-- rules, at least one, make a lawful tree lighter
pub advances-lighter : {dir : Direction} {t u : Tree} → Advances dir t u → HasLaws t → weight u < weight t
advances-lighter a l =
    let one = rewrites-rewritten a.first in
    let rest = reaches-weight a.others l.0 (one.keeps.lawful l.0 l.1) in
    omega (arith, one.lighter l.0 l.1, rest)

-- memory is refused when a node was changed by rules
pub passed-reached : (dir : Direction) (broken : Tree → Bool) (t u : Tree) (r : Result PassAction Error) → Reaches dir t u → IsErrAnd r (λ e. e ≡ OutOfMemory) → IsPassed dir broken t u r
passed-reached dir broken t u r h w = let p = err_from_is_err_and r w in rw (p.1, p.2) (h, refl)

-- memory is refused before a node is changed
pub passed-refused : (dir : Direction) (broken : Tree → Bool) (t : Tree) (r : Result PassAction Error) → IsErrAnd r (λ e. e ≡ OutOfMemory) → IsPassed dir broken t t r
passed-refused dir broken t r w = passed-reached dir broken t t r stays w

pub passed-same : (dir : Direction) (broken : Tree → Bool) (t u : Tree) (r : Result PassAction Error) → u ≡ t → IsErrAnd r (λ e. e ≡ OutOfMemory) → IsPassed dir broken t u r
passed-same dir broken t u r same w = rw same (passed-refused dir broken t r w)
