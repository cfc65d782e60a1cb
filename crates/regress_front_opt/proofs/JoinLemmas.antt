-- Literals side by side are joined.
use Rattle.std.proofs.Common.{◌≡◌, ℕ, suc, ◌+◌, ◌<◌, Bool, true, false, ◌&&◌, ◌||◌, List, [], ◌∷◌, ◌++◌, length, map, reverse, get_or, take, drop, subst, refl, sym, ap, ◌∙◌, append_assoc, arith}
use Rattle.std.proofs.lemmas.Bool.{false≢true}
use Rattle.std.proofs.lemmas.List.{append-nil, reverse-append, reverse-reverse, map-append, take_more, drop_more, take-append-drop}
use Rattle.regress_meaning.specs.Meaning.{Direction, Forward, Backward}
use Rattle.regress_front_tables.proofs.FoldingLemmas.{or_none}
use Rattle.regress_front_nodes.specs.declared.node.Node.{Node}
use Rattle.regress_front_nodes.specs.Trees.{Tree, tree, bytes, cat, cat_of}
use Rattle.regress_front_nodes.specs.TreeMeaning.{direction}
use Rattle.regress_front_nodes.specs.Forms.{parts}
use Rattle.regress_front_nodes.proofs.NodeLemmas.{parts-cat_of, map-reverse}
use Rattle.regress_front_rules.specs.NormalForm.{is_literal, literals_meet, has_split_literal}
use Rattle.regress_front_rules.specs.Rules as rules
use Rattle.regress_front_rules.specs.Rules.{Reaches, stays, and_then, joined}
use Rattle.regress_front_opt.specs.Shapes.{Joins, as_they_are, joined_more}
use Rattle.regress_front_opt.specs.Passes.{Advances}
use Rattle.regress_front_rules.proofs.KeepLemmas.{reaches-then, root-once}

-- ---- what joins is reached by rules

pub joins-reach : {ts us : List Tree} → Joins ts us → Reaches Forward (cat_of ts) (cat_of us)
joins-reach as_they_are = stays
joins-reach (joined_more us vs xs ys h) = reaches-then (joins-reach h) (root-once (rules.joins us vs xs ys))

reverse-around : (us : List Tree) (a b : Tree) (vs : List Tree) → reverse (us ++ a ∷ b ∷ vs) ≡ reverse vs ++ b ∷ a ∷ reverse us
reverse-around us a b vs =
    reverse-append us (a ∷ b ∷ vs) ∙ ap (λ ts. ts ++ reverse us) (reverse-append (a ∷ b ∷ []) vs) ∙ append_assoc (reverse vs) (b ∷ a ∷ []) (reverse us)

reverse-one : (us : List Tree) (a : Tree) (vs : List Tree) → reverse (us ++ a ∷ vs) ≡ reverse vs ++ a ∷ reverse us
reverse-one us a vs =
    reverse-append us (a ∷ vs) ∙ ap (λ ts. ts ++ reverse us) (reverse-append (a ∷ []) vs) ∙ append_assoc (reverse vs) (a ∷ []) (reverse us)

pub joins-reach-back : {ts us : List Tree} → Joins ts us → Reaches Backward (cat_of (reverse ts)) (cat_of (reverse us))
joins-reach-back as_they_are = stays
joins-reach-back (joined_more us vs xs ys h) =
    let one : Reaches Backward (cat_of (reverse vs ++ bytes ys ∷ bytes xs ∷ reverse us)) (cat_of (reverse vs ++ bytes (xs ++ ys) ∷ reverse us)) = root-once (rules.joins (reverse vs) (reverse us) ys xs) in
    reaches-then (joins-reach-back h) (rw (reverse-around us (bytes xs) (bytes ys) vs, reverse-one us (bytes (xs ++ ys)) vs) one)

-- what other parts than at first are reached by some rule
pub reaches-moves : {dir : Direction} {t u : Tree} → Reaches dir t u → (t ≡ u → ⊥) → Advances dir t u
reaches-moves stays h = absurd (h refl)
reaches-moves (and_then first others) h = record { next = _; first = first; others = others }

-- ---- with parts behind, and one after another

pub joins-behind : {ts us : List Tree} (ws : List Tree) → Joins ts us → Joins (ts ++ ws) (us ++ ws)
joins-behind ws as_they_are = as_they_are
joins-behind {ts} ws (joined_more us vs xs ys h) =
    let inner = joins-behind ws h in
    rw (append_assoc us (bytes (xs ++ ys) ∷ vs) ws) (joined_more us (vs ++ ws) xs ys (rw (append_assoc us (bytes xs ∷ bytes ys ∷ vs) ws) at inner))

pub joins-then : {ts us vs : List Tree} → Joins ts us → Joins us vs → Joins ts vs
joins-then h as_they_are = h
joins-then h (joined_more us vs xs ys k) = joined_more us vs xs ys (joins-then h k)

-- ---- where none stand side by side

-- the last part is a literal
abbrev pub ends_literal : List Tree → Bool
ends_literal [] = false
ends_literal (t ∷ []) = is_literal t
ends_literal (t ∷ u ∷ ts) = ends_literal (u ∷ ts)

pub ends-append : (ts : List Tree) (t : Tree) → ends_literal (ts ++ t ∷ []) ≡ is_literal t
ends-append [] t = refl
ends-append (u ∷ []) t = refl
ends-append (u ∷ v ∷ ts) t = ends-append (v ∷ ts) t

pub meet-append : (ts : List Tree) (t : Tree) → literals_meet (ts ++ t ∷ []) ≡ (literals_meet ts || (ends_literal ts && is_literal t))
meet-append [] t = refl
meet-append (u ∷ []) t = or_none (is_literal u && is_literal t)
meet-append (u ∷ v ∷ ts) t = by_test (is_literal u && is_literal v) (meet-append (v ∷ ts) t)
  where
    by_test : (b : Bool) → literals_meet (v ∷ (ts ++ t ∷ [])) ≡ (literals_meet (v ∷ ts) || (ends_literal (v ∷ ts) && is_literal t))
        → (b || literals_meet (v ∷ (ts ++ t ∷ []))) ≡ ((b || literals_meet (v ∷ ts)) || (ends_literal (v ∷ ts) && is_literal t))
    by_test true e = refl
    by_test false e = e

-- with parts behind
pub meet-behind : (ts us : List Tree) → literals_meet ts ≡ true → literals_meet (ts ++ us) ≡ true
meet-behind [] us h = absurd (false≢true h)
meet-behind (a ∷ []) us h = absurd (false≢true h)
meet-behind (a ∷ b ∷ ts) us h = by_test (is_literal a && is_literal b) h (meet-behind (b ∷ ts) us)
  where
    by_test : (x : Bool) → (x || literals_meet (b ∷ ts)) ≡ true → (literals_meet (b ∷ ts) ≡ true → literals_meet (b ∷ (ts ++ us)) ≡ true) → (x || literals_meet (b ∷ (ts ++ us))) ≡ true
    by_test true k more = refl
    by_test false k more = more k

-- a literal in the place of the last one
pub meet-same : (ts : List Tree) (xs ys : List ℕ) → literals_meet (ts ++ bytes xs ∷ []) ≡ literals_meet (ts ++ bytes ys ∷ [])
meet-same ts xs ys = meet-append ts (bytes xs) ∙ sym (meet-append ts (bytes ys))

-- one behind the last, where not both are literals
pub meet-apart : (ts : List Tree) (a b : Tree) → (is_literal a && is_literal b) ≡ false → literals_meet (ts ++ a ∷ []) ≡ false → literals_meet (ts ++ a ∷ b ∷ []) ≡ false
meet-apart ts a b h k =
    ap literals_meet (sym (append_assoc ts (a ∷ []) (b ∷ []))) ∙ meet-append (ts ++ a ∷ []) b ∙ (λ i. k i || (ends-append ts a i && is_literal b)) ∙ h

-- one of the parts is behind a literal, or is not
pub meet-more : (ns : List Node) (i : ℕ) (d : Node) (behind : Bool) → i < length ns → literals_meet (map tree (take i ns)) ≡ false → behind ≡ ends_literal (map tree (take i ns))
    → (behind && is_literal (tree (get_or ns i d))) ≡ false → literals_meet (map tree (take (i + 1) ns)) ≡ false
meet-more ns i d behind l h e k =
    ap literals_meet (ap (map tree) (take_more ns i d l) ∙ map-append tree (take i ns) (get_or ns i d ∷ []))
    ∙ meet-append (map tree (take i ns)) (tree (get_or ns i d)) ∙ (λ j. h j || (sym e j && is_literal (tree (get_or ns i d)))) ∙ k

pub ends-more : (ns : List Node) (i : ℕ) (d : Node) → i < length ns → ends_literal (map tree (take (i + 1) ns)) ≡ is_literal (tree (get_or ns i d))
ends-more ns i d l =
    ap ends_literal (ap (map tree) (take_more ns i d l) ∙ map-append tree (take i ns) (get_or ns i d ∷ [])) ∙ ends-append (map tree (take i ns)) (tree (get_or ns i d))

pub meet-found : (ns : List Node) (i : ℕ) (d : Node) → i < length ns → ends_literal (map tree (take i ns)) ≡ true → is_literal (tree (get_or ns i d)) ≡ true → literals_meet (map tree ns) ≡ true
meet-found ns i d l h k =
    let first = map-append tree (take i ns) (get_or ns i d ∷ []) in
    let here : literals_meet (map tree (take i ns) ++ tree (get_or ns i d) ∷ []) ≡ true =
    meet-append (map tree (take i ns)) (tree (get_or ns i d)) ∙ ap (λ b. literals_meet (map tree (take i ns)) || b) (λ j. h j && k j) ∙ or-true (literals_meet (map tree (take i ns))) in
    let whole : map tree ns ≡ (map tree (take i ns) ++ tree (get_or ns i d) ∷ []) ++ map tree (drop (i + 1) ns) =
    ap (map tree) (sym (take-append-drop i ns)) ∙ map-append tree (take i ns) (drop i ns) ∙ ap (λ ms. map tree (take i ns) ++ map tree ms) (drop_more ns i d l)
    ∙ sym (append_assoc (map tree (take i ns)) (tree (get_or ns i d) ∷ []) (map tree (drop (i + 1) ns))) in
    subst (λ ts. literals_meet ts ≡ true) (sym whole) (meet-behind (map tree (take i ns) ++ tree (get_or ns i d) ∷ []) (map tree (drop (i + 1) ns)) here)
  where
    or-true : (b : Bool) → (b || true) ≡ true
    or-true true = refl
    or-true false = refl

-- ---- parts that are added

pub two-pushed : (js ks ms : List Node) (a b : Node) → ks ≡ js ++ a ∷ [] → ms ≡ ks ++ b ∷ [] → map tree ms ≡ map tree js ++ tree a ∷ tree b ∷ []
two-pushed js ks ms a b e f =
    ap (map tree) (f ∙ ap (λ ns. ns ++ b ∷ []) e ∙ append_assoc js (a ∷ []) (b ∷ [])) ∙ map-append tree js (a ∷ b ∷ [])

pub joins-same : (ts us : List Tree) (a b c d : Tree) → us ≡ ts ++ c ∷ d ∷ [] → c ≡ a → d ≡ b → Joins (ts ++ a ∷ b ∷ []) us
joins-same ts us a b c d e h k = subst (Joins (ts ++ a ∷ b ∷ [])) (sym (e ∙ (λ i. ts ++ h i ∷ k i ∷ []))) as_they_are

pub joins-one : (ts us : List Tree) (a b : Tree) (xs ys zs : List ℕ) → us ≡ ts ++ bytes zs ∷ [] → zs ≡ xs ++ ys → a ≡ bytes xs → b ≡ bytes ys → Joins (ts ++ a ∷ b ∷ []) us
joins-one ts us a b xs ys zs e f h k =
    rw (h, k) (subst (Joins (ts ++ bytes xs ∷ bytes ys ∷ [])) (sym (e ∙ ap (λ ws. ts ++ bytes ws ∷ []) f)) (joined_more ts [] xs ys as_they_are))

-- one more part, with those behind
pub joins-more : (ns : List Node) (i : ℕ) (d : Node) (js ks : List Tree) (t : Tree) → i < length ns → t ≡ tree (get_or ns i d) → Joins (map tree ns) (js ++ map tree (drop i ns)) → Joins (js ++ t ∷ []) ks
    → Joins (map tree ns) (ks ++ map tree (drop (i + 1) ns))
joins-more ns i d js ks t l e h k =
    let behind = map tree (drop (i + 1) ns) in
    let here : js ++ map tree (drop i ns) ≡ (js ++ t ∷ []) ++ map tree (drop (i + 1) ns) =
    ap (λ ms. js ++ map tree ms) (drop_more ns i d l) ∙ ap (λ u. js ++ u ∷ map tree (drop (i + 1) ns)) (sym e) ∙ sym (append_assoc js (t ∷ []) (map tree (drop (i + 1) ns))) in
    joins-then (subst (Joins (map tree ns)) here h) (joins-behind (map tree (drop (i + 1) ns)) k)

-- ---- the other way round

ends-reverse : (t : Tree) (ts : List Tree) → ends_literal (reverse (t ∷ ts)) ≡ is_literal t
ends-reverse t ts = ap ends_literal (reverse-append (t ∷ []) ts) ∙ ends-append (reverse ts) t

or-swapped : (a b m : Bool) → (m || (b && a)) ≡ ((a && b) || m)
or-swapped true true true = refl
or-swapped true true false = refl
or-swapped true false true = refl
or-swapped true false false = refl
or-swapped false true true = refl
or-swapped false true false = refl
or-swapped false false true = refl
or-swapped false false false = refl

pub meet-reverse : (ts : List Tree) → literals_meet (reverse ts) ≡ literals_meet ts
meet-reverse [] = refl
meet-reverse (a ∷ []) = refl
meet-reverse (a ∷ b ∷ ts) =
    let more = meet-reverse (b ∷ ts) in
    ap literals_meet (reverse-append (a ∷ []) (b ∷ ts)) ∙ meet-append (reverse (b ∷ ts)) a ∙ (λ i. more i || (ends-reverse b ts i && is_literal a))
    ∙ or-swapped (is_literal a) (is_literal b) (literals_meet (b ∷ ts))

-- literals that stand side by side are joined where none are left
pub joined-advances : {dir : Direction} (ts us : List Tree) → Reaches dir (cat_of ts) (cat_of us) → literals_meet ts ≡ true → literals_meet us ≡ false → Advances dir (cat_of ts) (cat_of us)
joined-advances ts us h some none = reaches-moves h (λ same.
    let meets : literals_meet ts ≡ literals_meet us = ap literals_meet (sym (parts-cat_of ts)) ∙ ap (λ t. literals_meet (parts t)) same ∙ ap literals_meet (parts-cat_of us) in
    false≢true (sym none ∙ sym meets ∙ some))

-- parts that are turned, joined and turned back
pub turned-reaches : (ns ns' ms ms' : List Node) → ns' ≡ reverse ns → ms' ≡ reverse ms → Joins (map tree ns') (map tree ms) → Reaches Backward (cat_of (map tree ns)) (cat_of (map tree ms'))
turned-reaches ns ns' ms ms' e f h =
    let first : reverse (map tree ns') ≡ map tree ns = sym (map-reverse tree ns') ∙ ap (λ xs. map tree (reverse xs)) e ∙ ap (map tree) (reverse-reverse ns) in
    let last : reverse (map tree ms) ≡ map tree ms' = sym (map-reverse tree ms) ∙ ap (map tree) (sym f) in
    subst (λ ts. Reaches Backward (cat_of ts) (cat_of (map tree ms'))) first (subst (λ ts. Reaches Backward (cat_of (reverse (map tree ns'))) (cat_of ts)) last (joins-reach-back h))

pub turned-apart : (ms ms' : List Node) → ms' ≡ reverse ms → literals_meet (map tree ms) ≡ false → literals_meet (map tree ms') ≡ false
turned-apart ms ms' f h = ap (λ xs. literals_meet (map tree xs)) f ∙ ap literals_meet (map-reverse tree ms) ∙ meet-reverse (map tree ms) ∙ h
