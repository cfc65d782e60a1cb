-- Copies of nodes and of their parts.
use Rattle.std.proofs.Common.{◌≡◌, ℕ, zero, suc, ◌+◌, ◌<◌, ◌≤◌, false, List, [], ◌∷◌, ◌++◌, length, map, take, max, slice_index_or, le_of_suc-le-suc, refl, ap, ap₂, ◌∙◌, arith}
use Rattle.std.specs.List.{AllZip}
use Rattle.std.proofs.lemmas.List.{map-append, take_more}
use Rattle.regress_front_nodes.specs.declared.node.Node.{Node}
use Rattle.regress_front_nodes.specs.Trees.{Tree, tree, cat_of, alt}
use Rattle.regress_front_nodes.specs.Forms.{is_leaf, nesting}
use Rattle.regress_front_nodes.specs.Copies.{MayBeCopied}
use Rattle.regress_front_nodes.specs.WellFormed.{group_ids}

-- where clones show the same, so do lists of them
pub map-AllZip : {X B : Type 0} (R : X → X → Type 0) (v : X → B) → ((x y : X) → R x y → v y ≡ v x) → (xs ys : List X) → AllZip R xs ys → map v ys ≡ map v xs
map-AllZip R v same [] [] h = refl
map-AllZip R v same [] (y ∷ ys) h = absurd h
map-AllZip R v same (x ∷ xs) [] h = absurd h
map-AllZip R v same (x ∷ xs) (y ∷ ys) h = ap₂ (λ b bs. b ∷ bs) (same x y h.0) (map-AllZip R v same xs ys h.1)

pub is_leaf-cat_of : (ts : List Tree) → is_leaf (cat_of ts) ≡ false
is_leaf-cat_of [] = refl
is_leaf-cat_of (t ∷ ts) = refl

-- ---- the parts of a `Cat`

pub nesting-push : (ts : List Tree) (t : Tree) → nesting (cat_of (ts ++ t ∷ [])) ≡ max (nesting (cat_of ts)) (nesting t + 1)
nesting-push [] t = omega arith
nesting-push (u ∷ ts) t = let e = nesting-push ts t in omega (arith, e)

append-none : {A : Type 0} (xs ys : List A) → xs ++ ys ≡ [] → (xs ≡ []) × (ys ≡ [])
append-none [] ys h = (refl, h)
append-none (x ∷ xs) ys h = absurd (some h)
  where
    some : {A : Type 0} {x : A} {xs : List A} → x ∷ xs ≡ [] → ⊥
    some h = let e = ap length h in omega (arith, e)

-- where the whole holds no group, no part does
pub no_groups_at : (ns : List Node) (k : ℕ) (d : Node) → group_ids (cat_of (map tree ns)) ≡ [] → k < length ns → group_ids (tree (slice_index_or ns k d)) ≡ []
no_groups_at [] k d none l = absurd (omega arith)
no_groups_at (n ∷ ns) zero d none l = (append-none (group_ids (tree n)) (group_ids (cat_of (map tree ns))) none).0
no_groups_at (n ∷ ns) (suc k) d none l =
    no_groups_at ns k d (append-none (group_ids (tree n)) (group_ids (cat_of (map tree ns))) none).1 (le_of_suc-le-suc l)

-- a part nests less deep than the whole
pub nesting-at : (ns : List Node) (k : ℕ) (d : Node) → k < length ns → nesting (tree (slice_index_or ns k d)) + 1 ≤ nesting (cat_of (map tree ns))
nesting-at [] k d l = absurd (omega arith)
nesting-at (n ∷ ns) zero d l = omega arith
nesting-at (n ∷ ns) (suc k) d l = omega (arith, nesting-at ns k d (le_of_suc-le-suc l))

-- one more part
pub parts-more : (ns : List Node) (k : ℕ) (d : Node) → k < length ns
    → map tree (take (k + 1) ns) ≡ map tree (take k ns) ++ tree (slice_index_or ns k d) ∷ []
parts-more ns k d l = ap (map tree) (take_more ns k d l) ∙ map-append tree (take k ns) (slice_index_or ns k d ∷ [])

pub nesting-more : (ns : List Node) (k : ℕ) (d : Node) → k < length ns
    → nesting (cat_of (map tree (take (k + 1) ns))) ≡ max (nesting (cat_of (map tree (take k ns)))) (nesting (tree (slice_index_or ns k d)) + 1)
nesting-more ns k d l = ap (λ ts. nesting (cat_of ts)) (parts-more ns k d l) ∙ nesting-push (map tree (take k ns)) (tree (slice_index_or ns k d))

-- no group in the first of two, nor in the second
pub no_groups_first : (a b : Tree) → group_ids a ++ group_ids b ≡ [] → group_ids a ≡ []
no_groups_first a b none = (append-none (group_ids a) (group_ids b) none).0

no_groups_more : (ts : List Tree) (t : Tree) → group_ids (cat_of ts) ≡ [] → group_ids t ≡ [] → group_ids (cat_of (ts ++ t ∷ [])) ≡ []
no_groups_more [] t none last = rw last refl
no_groups_more (u ∷ ts) t none last =
    let both = append-none (group_ids u) (group_ids (cat_of ts)) none in
    rw both.0 (no_groups_more ts t both.1 last)

-- the parts so far and one more may be copied
pub MayBeCopied-more : (depth : ℕ) (ns : List Node) (k : ℕ) (d : Node) → k < length ns → MayBeCopied depth (cat_of (map tree (take k ns)))
    → MayBeCopied (depth + 1) (tree (slice_index_or ns k d)) → MayBeCopied depth (cat_of (map tree (take (k + 1) ns)))
MayBeCopied-more depth ns k d l front last = (
  ap (λ ts. group_ids (cat_of ts)) (parts-more ns k d l) ∙ no_groups_more (map tree (take k ns)) (tree (slice_index_or ns k d)) front.0 last.0,
  rw (nesting-more ns k d l) (omega (arith, front.1, last.1)),
)

-- where all may be copied, each part may
pub MayBeCopied-at : (depth : ℕ) (ns : List Node) (k : ℕ) (d : Node) → k < length ns → MayBeCopied depth (cat_of (map tree ns))
    → MayBeCopied (depth + 1) (tree (slice_index_or ns k d))
MayBeCopied-at depth ns k d l all = (no_groups_at ns k d all.0 l, omega (arith, all.1, nesting-at ns k d l))

-- where both arms may be copied, the first may
pub MayBeCopied-first : (depth : ℕ) (a b : Tree) → MayBeCopied depth (alt a b) → MayBeCopied (depth + 1) a
MayBeCopied-first depth a b all = (no_groups_first a b all.0, omega (arith, all.1))
