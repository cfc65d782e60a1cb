-- Measures of parts one after another, and of copies.
use Rattle.std.proofs.Common.{◌≡◌, ℕ, zero, suc, ◌+◌, ◌*◌, ◌<◌, ◌≤◌, Bool, true, false, List, [], ◌∷◌, ◌++◌, None, length, chars, nat_le, if◌then◌else◌, IsUtf8, refl, sym, ap, ◌∙◌, arith}
use Rattle.std.specs.Option.{option_or}
use Rattle.std.proofs.lemmas.List.{append_assoc}
use Rattle.std.proofs.lemmas.Str.{chars-encodes}
use Rattle.regress_front_nodes.specs.Trees.{Tree, bytes, cat, cat_of, alt, capture, submatch, loop, single_loop}
use Rattle.regress_front_nodes.specs.Sizes.{size, loops}
use Rattle.regress_front_nodes.specs.WellFormed.{group_ids, goals, AreLawful, name_by_number}
use Rattle.regress_front_nodes.proofs.CopyLemmas.{no_groups_first}
use Rattle.regress_front_nodes.proofs.OptionLemmas.{option_or-again}
use Rattle.regress_front_rules.specs.NormalForm.{largest_copied}
use Rattle.regress_front_rules.specs.Rules.{copies}
use Rattle.regress_front_rules.specs.Weight.{pending, bulk}

-- ---- parts before other parts: each measure is that of both, but for the one end of a `Cat` too many

pub size-append : (us vs : List Tree) → size (cat_of (us ++ vs)) + 1 ≡ size (cat_of us) + size (cat_of vs)
size-append [] vs = omega arith
size-append (u ∷ us) vs = omega (arith, size-append us vs)

pub bulk-append : (us vs : List Tree) → bulk (cat_of (us ++ vs)) + 2 ≡ bulk (cat_of us) + bulk (cat_of vs)
bulk-append [] vs = omega arith
bulk-append (u ∷ us) vs = omega (arith, bulk-append us vs)

pub pending-append : (us vs : List Tree) → pending (cat_of (us ++ vs)) ≡ pending (cat_of us) + pending (cat_of vs)
pending-append [] vs = omega arith
pending-append (u ∷ us) vs = omega (arith, pending-append us vs)

pub loops-append : (us vs : List Tree) → loops (cat_of (us ++ vs)) ≡ loops (cat_of us) + loops (cat_of vs)
loops-append [] vs = omega arith
loops-append (u ∷ us) vs = omega (arith, loops-append us vs)

pub goals-append : (us vs : List Tree) → goals (cat_of (us ++ vs)) ≡ goals (cat_of us) + goals (cat_of vs)
goals-append [] vs = omega arith
goals-append (u ∷ us) vs = omega (arith, goals-append us vs)

pub ids-append : (us vs : List Tree) → group_ids (cat_of (us ++ vs)) ≡ group_ids (cat_of us) ++ group_ids (cat_of vs)
ids-append [] vs = refl
ids-append (u ∷ us) vs = ap (λ ks. group_ids u ++ ks) (ids-append us vs) ∙ sym (append_assoc (group_ids u) (group_ids (cat_of us)) (group_ids (cat_of vs)))

pub names-append : (k : ℕ) (us vs : List Tree) → name_by_number k (cat_of (us ++ vs)) ≡ option_or (name_by_number k (cat_of us)) (name_by_number k (cat_of vs))
names-append k [] vs = refl
names-append k (u ∷ us) vs =
    ap (λ o. option_or (name_by_number k u) o) (names-append k us vs) ∙ option_or-again (name_by_number k u) (name_by_number k (cat_of us)) (name_by_number k (cat_of vs))

pub lawful-append : (n : ℕ) (us vs : List Tree) → AreLawful n (cat_of us) → AreLawful n (cat_of vs) → AreLawful n (cat_of (us ++ vs))
lawful-append n [] vs h k = k
lawful-append n (u ∷ us) vs h k = (h.0, lawful-append n us vs h.1 k)

-- what is pending is a loop
pub pending-loops : (t : Tree) → pending t ≤ loops t
pending-loops (cat a b) = omega (arith, pending-loops a, pending-loops b)
pending-loops (alt a b) = omega (arith, pending-loops a, pending-loops b)
pending-loops (capture k name a) = pending-loops a
pending-loops (submatch kind first last a) = pending-loops a
pending-loops (loop a first last least most greedy) = at_most_one (nat_le 1 least) (pending-loops a)
  where
    at_most_one : (b : Bool) → pending a ≤ loops a → pending a + (if b then 1 else 0) ≤ loops a + 1
    at_most_one true h = omega arith
    at_most_one false h = omega arith
pending-loops (single_loop a least most greedy) = pending-loops a
pending-loops _ = omega arith

-- a literal has a character
pub some-chars : (bs : List ℕ) → 0 < length bs → IsUtf8 bs → 0 < length (chars bs)
some-chars bs h ([], (scalars, encodes)) = absurd (let none : length bs ≡ 0 = ap length (sym encodes) in omega (arith, none))
some-chars bs h (c ∷ cs, (scalars, encodes)) =
    let same : chars bs ≡ c ∷ cs = ap chars (sym encodes) ∙ chars-encodes (c ∷ cs) scalars in
    rw same (omega arith)

-- a lawful tree has at most seven times its size in bulk
pub bulk-size : (n : ℕ) (t : Tree) → AreLawful n t → bulk t ≤ 7 * size t
bulk-size n (bytes bs) h = omega (arith, some-chars bs h.0 h.1)
bulk-size n (cat a b) h = omega (arith, bulk-size n a h.0, bulk-size n b h.1)
bulk-size n (alt a b) h = omega (arith, bulk-size n a h.0, bulk-size n b h.1)
bulk-size n (capture k name a) h = omega (arith, bulk-size n a h.1)
bulk-size n (submatch kind first last a) h = omega (arith, bulk-size n a h.1)
bulk-size n (loop a first last least most greedy) h = omega (arith, bulk-size n a h.2)
bulk-size n (single_loop a least most greedy) h = omega (arith, bulk-size n a h.2)
bulk-size n _ h = omega arith

-- ---- copies of a part before other parts

pub size-copies : (k : ℕ) (a : Tree) (rest : List Tree) → size a ≤ largest_copied → size (cat_of (copies k a rest)) ≤ largest_copied * k + size (cat_of rest)
size-copies zero a rest h = omega arith
size-copies (suc k) a rest h = omega (arith, size-copies k a rest h)

pub bulk-copies : (k : ℕ) (a : Tree) (rest : List Tree) → bulk a ≤ 8960 → bulk (cat_of (copies k a rest)) ≤ 8960 * k + bulk (cat_of rest)
bulk-copies zero a rest h = omega arith
bulk-copies (suc k) a rest h = omega (arith, bulk-copies k a rest h)

pub pending-copies : (k : ℕ) (a : Tree) (rest : List Tree) → pending a ≡ 0 → pending (cat_of (copies k a rest)) ≡ pending (cat_of rest)
pending-copies zero a rest h = refl
pending-copies (suc k) a rest h = omega (arith, pending-copies k a rest h)

pub loops-copies : (k : ℕ) (a : Tree) (rest : List Tree) → loops a ≡ 0 → loops (cat_of (copies k a rest)) ≡ loops (cat_of rest)
loops-copies zero a rest h = refl
loops-copies (suc k) a rest h = omega (arith, loops-copies k a rest h)

pub goals-copies : (k : ℕ) (a : Tree) (rest : List Tree) → goals a ≡ 0 → goals (cat_of (copies k a rest)) ≡ goals (cat_of rest)
goals-copies zero a rest h = refl
goals-copies (suc k) a rest h = omega (arith, goals-copies k a rest h)

pub ids-copies : (k : ℕ) (a : Tree) (rest : List Tree) → group_ids a ≡ [] → group_ids (cat_of (copies k a rest)) ≡ group_ids (cat_of rest)
ids-copies zero a rest h = refl
ids-copies (suc k) a rest h = rw h (ids-copies k a rest h)

no_groups_second : (a b : Tree) → group_ids a ++ group_ids b ≡ [] → group_ids b ≡ []
no_groups_second a b none = ap (λ ids. ids ++ group_ids b) (sym (no_groups_first a b none)) ∙ none

-- a tree without groups names none
pub no_names : (k : ℕ) (t : Tree) → group_ids t ≡ [] → name_by_number k t ≡ None
no_names k (cat a b) h = rw (no_names k a (no_groups_first a b h), no_names k b (no_groups_second a b h)) refl
no_names k (alt a b) h = rw (no_names k a (no_groups_first a b h), no_names k b (no_groups_second a b h)) refl
no_names k (capture j name a) h = absurd (cc)
no_names k (submatch kind first last a) h = no_names k a h
no_names k (loop a first last least most greedy) h = no_names k a h
no_names k (single_loop a least most greedy) h = no_names k a h
no_names k _ h = refl

pub lawful-copies : (n k : ℕ) (a : Tree) (rest : List Tree) → AreLawful n a → AreLawful n (cat_of rest) → AreLawful n (cat_of (copies k a rest))
lawful-copies n zero a rest h r = r
lawful-copies n (suc k) a rest h r = (h, lawful-copies n k a rest h r)
