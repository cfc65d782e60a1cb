-- Bodies that are small enough to be copied, and their copies.
use Rattle.std.proofs.Common.{◌≡◌, ℕ, zero, suc, ◌+◌, ◌<◌, ◌≤◌, Bool, true, false, ◌&&◌, ◌==◌, List, [], ◌∷◌, ◌++◌, length, map, take, get_or, min, sum_by, nat_le, refl, sym, ap, ◌∙◌, subst, add-one, length-append, arith}
use Rattle.std.specs.List.{list_all}
use Rattle.std.proofs.lemmas.Bool.{false≢true}
use Rattle.std.proofs.lemmas.Bool.Decides.{nat_tests}
use Rattle.std.proofs.lemmas.List.{take_more, map-append}
use Rattle.std.proofs.lemmas.List.Sums.{sum_by-append}
use Rattle.regress_meaning.specs.Meaning.{Direction}
use Rattle.regress_front_nodes.specs.declared.node.Node.{Node}
use Rattle.regress_front_nodes.specs.Trees.{Tree, tree, cat, cat_of, alt, capture, submatch, loop, single_loop}
use Rattle.regress_front_nodes.specs.Sizes.{size, loops}
use Rattle.regress_front_nodes.specs.WellFormed.{group_ids}
use Rattle.regress_front_rules.specs.NormalForm.{is_unrollable, has_no_group}
use Rattle.regress_front_rules.specs.Rules as rules
use Rattle.regress_front_rules.specs.Rules.{HasLaws, copies, unrolled}
use Rattle.regress_front_rules.proofs.RuleLemmas.{small_loop}
use Rattle.regress_front_rules.proofs.ClauseLemmas.{nesting-size}
use Rattle.regress_front_opt.specs.Shapes.{is_flat, MayBeUnrolled}
use Rattle.regress_front_opt.specs.Passes.{Advances}
use Rattle.regress_front_opt.proofs.PassLemmas.{root-advances}
use Rattle.regress_front_opt.proofs.ShapeLemmas.{zero-sum, none-found}

-- ---- neither groups nor loops

pub flat-parts : (ts : List Tree) → is_flat (cat_of ts) ≡ list_all is_flat ts
flat-parts [] = refl
flat-parts (t ∷ ts) = ap (λ b. is_flat t && b) (flat-parts ts)

-- how many there are
abbrev found : Tree → ℕ
found t = length (group_ids t) + loops t

both-found : (a b : Tree) → is_flat a ≡ (found a == 0) → is_flat b ≡ (found b == 0) → (is_flat a && is_flat b) ≡ (length (group_ids a ++ group_ids b) + (loops a + loops b) == 0)
both-found a b h k =
    let sum : length (group_ids a ++ group_ids b) + (loops a + loops b) ≡ found a + found b = omega (arith, length-append (group_ids a) (group_ids b)) in
    (λ i. h i && k i) ∙ zero-sum (found a) (found b) ∙ ap (λ n. n == 0) (sym sum)

one-found : (n g : ℕ) → (n + (g + 1) == 0) ≡ false
one-found n g = grind (arith, nat_tests)

flat-found : (t : Tree) → is_flat t ≡ (found t == 0)
flat-found (cat a b) = both-found a b (flat-found a) (flat-found b)
flat-found (alt a b) = both-found a b (flat-found a) (flat-found b)
flat-found (capture k name a) = sym (none-found (length (group_ids a)) (loops a))
flat-found (submatch kind first last a) = flat-found a
flat-found (loop a first last least most greedy) = sym (one-found (length (group_ids a)) (loops a))
flat-found (single_loop a least most greedy) = flat-found a
flat-found _ = refl

and_moved : (a b c d : Bool) → (a && ((b && c) && d)) ≡ (((a && b) && c) && d)
and_moved true b c d = refl
and_moved false b c d = refl

-- a loop that is to be unrolled
pub short-loop : (a : Tree) (first last least most : ℕ) (greedy : Bool)
    → ((nat_le 1 least && nat_le least 5) && (is_flat a && nat_le (size a) 1280)) ≡ is_unrollable (loop a first last least most greedy)
short-loop a first last least most greedy =
    let flat : is_flat a ≡ (has_no_group a && (loops a == 0)) = flat-found a ∙ sym (zero-sum (length (group_ids a)) (loops a)) in
    ap (λ b. (nat_le 1 least && nat_le least 5) && (b && nat_le (size a) 1280)) flat
    ∙ and_moved (nat_le 1 least && nat_le least 5) (has_no_group a) (loops a == 0) (nat_le (size a) 1280)

pub may-be-unrolled : (a : Tree) (first last least most : ℕ) (greedy : Bool) → HasLaws a → is_unrollable (loop a first last least most greedy) ≡ true → MayBeUnrolled a
may-be-unrolled a first last least most greedy l h =
    let s = small_loop a first last least most greedy h in
    (s.no_group, omega (arith, s.small, nesting-size l.0 a l.1))

-- ---- sizes

pub size-parts : (ts : List Tree) → size (cat_of ts) ≡ sum_by size ts + 1
size-parts [] = refl
size-parts (t ∷ ts) = let one = sum_by-append size (t ∷ []) ts in omega (arith, size-parts ts, one)

pub size-more : (ns : List Node) (i : ℕ) (d : Node) → i < length ns → sum_by size (map tree (take (i + 1) ns)) ≡ sum_by size (map tree (take i ns)) + size (tree (get_or ns i d))
size-more ns i d l =
    let e = ap (map tree) (take_more ns i d l) ∙ map-append tree (take i ns) (get_or ns i d ∷ []) in
    let one = sum_by-append size (map tree (take i ns)) (tree (get_or ns i d) ∷ []) in
    ap (sum_by size) e ∙ omega (arith, one)

-- ---- copies

pub copies-behind : (n : ℕ) (a : Tree) (us vs : List Tree) → copies n a us ++ vs ≡ copies n a (us ++ vs)
copies-behind zero a us vs = refl
copies-behind (suc n) a us vs = ap (λ ts. a ∷ ts) (copies-behind n a us vs)

copies-last : (n : ℕ) (a : Tree) → copies n a (a ∷ []) ≡ copies (suc n) a []
copies-last zero a = refl
copies-last (suc n) a = ap (λ ts. a ∷ ts) (copies-last n a)

pub copies-more : (n : ℕ) (a : Tree) → copies n a [] ++ a ∷ [] ≡ copies (n + 1) a []
copies-more n a = copies-behind n a [] (a ∷ []) ∙ copies-last n a ∙ ap (λ k. copies k a []) (sym (add-one n))

pub unrolled-advances : (dir : Direction) (a : Tree) (first last least most : ℕ) (greedy : Bool) → is_unrollable (loop a first last least most greedy) ≡ true
    → Advances dir (loop a first last least most greedy) (unrolled a first last least most greedy)
unrolled-advances dir a first last least most greedy h = root-advances (rules.unrolls h)
