-- Names that stand in a set, and in a tree.
use Rattle.std.proofs.Common.{◌≡◌, ℕ, ◌+◌, ◌<◌, Bool, true, false, cond, not, ◌||◌, ◌&&◌, ◌==◌, List, [], ◌∷◌, ◌++◌, map, drop, length, get_or, ◌⊎◌, inl, inr, Bor, BTreeSet, Ordering, String, Vec, Global, string_bytes, refl, sym, ap, subst, ◌∙◌, arith}
use Rattle.std.specs.Prelude.{IsTrue, ◌↔◌, Option, None, Some}
use Rattle.std.specs.List.{list_any}
use Rattle.std.specs.Ordering.{is_eq, nat_cmp}
use Rattle.std.specs.BTreeSet.{IsDisjoint, InsertsAll, UpdatesBy}
use Rattle.std.specs.Cmp.Lexicographic.{slice_cmp}
use Rattle.std.proofs.lemmas.Bool.{true_from_ne_false}
use Rattle.std.proofs.Math.Bool.{or-true, and-true, and-false, not-not}
use Rattle.std.proofs.lemmas.List.{drop_more, append-nil}
use Rattle.std.proofs.lemmas.List.Folds.{list_any-append}
use Rattle.std.proofs.lemmas.Map.Text.{is_eq-slice_cmp}
use Rattle.std.proofs.lemmas.Slice.Eq.{bytes_eq-Decides}
use Rattle.std.proofs.lemmas.Bool.Decides.{same_from_decides, Decides-like}
use Rattle.std.specs.String.{string_len}
use Rattle.std.proofs.lemmas.Bool.Decides.{nat_tests}
use Rattle.regress_meaning.specs.Text.{same_text}
use Rattle.regress_meaning.specs.Class.{among}
use Rattle.regress_meaning.specs.Pattern.{Pattern, names_of, nothing, character, sequence, capture}
use Rattle.regress_meaning.specs.Grammar.{is_name, share_a_name, names_apart}
use Rattle.regress_front_tokens.specs.declared.syntax.Term.{Term}
use Rattle.regress_front_tokens.specs.declared.syntax.Term.TheVariants.{Text, One}
use Rattle.regress_front_tokens.specs.declared.syntax.Syntax.{Syntax}
use Rattle.regress_front_tokens.specs.Trees.{tree, term_trees, trees_of, sequence_of, choice_of}
use Rattle.regress_front_tokens.specs.Words.{code_points_of}
use Rattle.regress_front_tables.proofs.EntryLemmas.{same_text-chars}
use Rattle.std.proofs.lemmas.Str.{IsUtf8-string_bytes, encodes-chars, length-le-encodes}
use Rattle.std.proofs.Math.Utf8.{encodes}
use Rattle.regress_front_syntax.specs.Names.{has_name, IsAdding, IsNaming, AreJoined}

-- what a query by order finds
abbrev holds_key : Bor (String Global) → List (Bor (String Global)) → Bool
holds_key key keys = list_any (λ n. is_eq (slice_cmp nat_cmp (string_bytes key.now) (string_bytes n.now))) keys

-- what one by equality finds
abbrev holds_text : List ℕ → List (Bor (String Global)) → Bool
holds_text name keys = list_any (λ n. same_text name (code_points_of n.now)) keys

-- two texts are the same both ways
flip-same : (a b : List ℕ) → same_text a b ≡ same_text b a
flip-same a b = same_from_decides _ _ (bytes_eq-Decides a b) (Decides-like _ sym sym (bytes_eq-Decides b a))

-- two names have the same bytes where they have the same code points
same-bytes : (a b : String Global) → same_text (string_bytes a) (string_bytes b) ≡ same_text (code_points_of a) (code_points_of b)
same-bytes a b =
    flip-same (string_bytes a) (string_bytes b) ∙ sym (same_text-chars (string_bytes b) (string_bytes a) (IsUtf8-string_bytes b) (IsUtf8-string_bytes a))

-- a query by order finds a name exactly if one by equality does
found-same : (key : Bor (String Global)) (keys : List (Bor (String Global))) → holds_key key keys ≡ holds_text (code_points_of key.now) keys
found-same key [] = refl
found-same key (k ∷ keys) =
    rw (is_eq-slice_cmp (string_bytes key.now) (string_bytes k.now), same-bytes key.now k.now)
    (ap (λ b. same_text (code_points_of key.now) (code_points_of k.now) || b) (found-same key keys))

-- the name is that of some key
abbrev IsKey : List ℕ → Type 0
IsKey name = (key : Bor (String Global)) × (code_points_of key.now ≡ name)

-- a name that is held is one of the keys
held-key : (name : List ℕ) (keys : List (Bor (String Global))) → IsKey name ⊎ (holds_text name keys ≡ false)
held-key name [] = inr refl
held-key name (k ∷ keys) = go (same_text name (code_points_of k.now)) refl (held-key name keys)
  where
    go : (b : Bool) → same_text name (code_points_of k.now) ≡ b → IsKey name ⊎ (holds_text name keys ≡ false)
        → IsKey name ⊎ ((b || holds_text name keys) ≡ false)
    go true e rest = inl (k, sym ((bytes_eq-Decides name (code_points_of k.now)).0 e))
    go false e (inl h) = inl h
    go false e (inr h) = inr h

neither : (a b : Bool) → (a || b) ≡ false → (a ≡ false) × (b ≡ false)
neither true b h = cc
neither false b h = (refl, h)

-- what no name among them passes, none passes
none-passes : (p : List ℕ → Bool) (xs : List (List ℕ)) → ((x : List ℕ) → among xs x ≡ true → p x ≡ false) → list_any p xs ≡ false
none-passes p [] h = refl
none-passes p (x ∷ xs) h =
    let here : same_text x x ≡ true = (bytes_eq-Decides x x).1 refl in
    let first = h x (rw here refl) in
    let later : (b c : Bool) → c ≡ true → (b || c) ≡ true = λ b c e. rw e (or-true b) in
    let rest = none-passes p xs (λ y m. h y (later (same_text y x) (among xs y) m)) in
    rw (first, rest) refl

passes-first : (p : List ℕ → Bool) (x y : List ℕ) (here found passed : Bool) → (here ≡ true → x ≡ y) → (passed ≡ false → found ≡ true → p x ≡ false)
    → (p y || passed) ≡ false → (here || found) ≡ true → p x ≡ false
passes-first p x y true found passed same rest h m = ap p (same refl) ∙ (neither (p y) passed h).0
passes-first p x y false found passed same rest h m = rest (neither (p y) passed h).1 m

-- and back
passes-none : (p : List ℕ → Bool) (xs : List (List ℕ)) → list_any p xs ≡ false → (x : List ℕ) → among xs x ≡ true → p x ≡ false
passes-none p [] h x m = cc
passes-none p (y ∷ xs) h x m =
    passes-first p x y (same_text x y) (among xs x) (list_any p xs) (bytes_eq-Decides x y).0 (λ e f. passes-none p xs e x f) h m

or-swaps : (a b c d : Bool) → ((a || b) || (c || d)) ≡ ((a || c) || (b || d))
or-swaps true b c d = refl
or-swaps false true true d = refl
or-swaps false true false d = refl
or-swaps false false c d = refl

-- two tests at once
either-passes : (p q : List ℕ → Bool) (xs : List (List ℕ)) → list_any (λ x. p x || q x) xs ≡ (list_any p xs || list_any q xs)
either-passes p q [] = refl
either-passes p q (x ∷ xs) = rw (either-passes p q xs) (or-swaps (p x) (q x) (list_any p xs) (list_any q xs))

-- tests that agree
agreeing : {X : Type 0} (p q : X → Bool) (xs : List X) → ((x : X) → p x ≡ q x) → list_any p xs ≡ list_any q xs
agreeing p q [] h = refl
agreeing p q (x ∷ xs) h = rw (h x, agreeing p q xs h) refl

same_from_false : (a b : Bool) → (a ≡ false → b ≡ false) → (b ≡ false → a ≡ false) → a ≡ b
same_from_false true true f g = refl
same_from_false true false f g = g refl
same_from_false false true f g = sym (f refl)
same_from_false false false f g = refl

flip-one : (n a b : Bool) → b ≡ true → (a ≡ true → (n && b) ≡ false) → (n && a) ≡ false
flip-one false a b m g = refl
flip-one true false b m g = refl
flip-one true true b m g = sym m ∙ g refl

share-flips : (xs ys : List (List ℕ)) → share_a_name xs ys ≡ false → share_a_name ys xs ≡ false
share-flips xs ys h = none-passes (λ y. is_name y && among xs y) ys
    (λ y m. flip-one (is_name y) (among xs y) (among ys y) m (λ e. passes-none (λ x. is_name x && among ys x) xs h y e))

-- a name is shared both ways
share-same : (xs ys : List (List ℕ)) → share_a_name xs ys ≡ share_a_name ys xs
share-same xs ys = same_from_false _ _ (share-flips xs ys) (share-flips ys xs)

not-held : (h n a : Bool) → a ≡ true → (h ≡ true → n ≡ true) → (h ≡ true → (n && a) ≡ false) → h ≡ false
not-held false n a m f g = refl
not-held true true a m f g = sym m ∙ g refl
not-held true false a m f g = sym (f refl)

missed : (h n a : Bool) → h ≡ true → (a ≡ true → h ≡ false) → (n && a) ≡ false
missed h false a k g = refl
missed h true false k g = refl
missed h true true k g = sym k ∙ g refl

-- the test passes names of a tree exactly where it is not apart from them
meets : (h : List ℕ → Bool) (ts : List (List ℕ)) (apart : Bool) → ((x : List ℕ) → h x ≡ true → is_name x ≡ true)
    → (IsTrue apart ↔ ((x : List ℕ) → IsTrue (h x) → (is_name x && among ts x) ≡ false)) → list_any h ts ≡ not apart
meets h ts true named iff = none-passes h ts (λ x m. not-held (h x) (is_name x) (among ts x) m (named x) (iff.0 refl x))
meets h ts false named iff = true_from_ne_false (list_any h ts) (λ e.
    let none = iff.1 (λ x k. missed (h x) (is_name x) (among ts x) k (λ m. passes-none h ts e x m)) in cc)

joined-apart : (r s a m : Bool) → ((r && not s) && not (not a || m)) ≡ (a && (r && not (m || s)))
joined-apart r s a m = grind (arith)

-- the order of names
abbrev name_cmp : Bor (String Global) → Bor (String Global) → Ordering
name_cmp x y = slice_cmp nat_cmp (string_bytes x.now) (string_bytes y.now)

-- what `is_disjoint` says, by names
pub disjoint-names : (a b : BTreeSet (Bor (String Global))) (apart : Bool) → (IsTrue apart ↔ IsDisjoint name_cmp a b)
    → IsTrue apart ↔ ((name : List ℕ) → IsTrue (has_name a name) → has_name b name ≡ false)
disjoint-names a b apart iff = (
  λ yes name k. elim (held-key name a.keys) [
    | inl (key, e) ↦ subst (λ (n : List ℕ). IsTrue (has_name a n) → has_name b n ≡ false) e (λ h. sym (found-same key b.keys) ∙ iff.0 yes key (found-same key a.keys ∙ h)) k
    | inr none ↦ absurd (cc)
  ],
  λ h. iff.1 (λ q k. found-same q b.keys ∙ h (code_points_of q.now) (sym (found-same q a.keys) ∙ k)),
)

-- what `append` says, by names
pub joined-names : (a b all : BTreeSet (Bor (String Global))) → InsertsAll name_cmp a b.keys all
    → (name : List ℕ) → has_name all name ≡ (has_name a name || has_name b name)
joined-names a b all h name = by_key (held-key name all.keys) (held-key name a.keys) (held-key name b.keys)
  where
    of_key : (key : Bor (String Global)) → code_points_of key.now ≡ name → has_name all name ≡ (has_name a name || has_name b name)
    of_key key e = subst (λ (n : List ℕ). has_name all n ≡ (has_name a n || has_name b n)) e (cc (h.0 key, found-same key all.keys, found-same key a.keys, found-same key b.keys))

    by_key : IsKey name ⊎ (has_name all name ≡ false)
        → IsKey name ⊎ (has_name a name ≡ false)
        → IsKey name ⊎ (has_name b name ≡ false)
        → has_name all name ≡ (has_name a name || has_name b name)
    by_key (inl k) u v = of_key k.0 k.1
    by_key (inr t) (inl k) v = of_key k.0 k.1
    by_key (inr t) (inr u) (inl k) = of_key k.0 k.1
    by_key (inr t) (inr u) (inr v) = rw (t, u, v) refl

either-or : (s h : Bool) → cond s true h ≡ (s || h)
either-or true h = refl
either-or false h = refl

-- what `insert` says, by names
pub put-names : (old new : BTreeSet (Bor (String Global))) (key : Bor (String Global))
    → UpdatesBy name_cmp (λ k. slice_cmp nat_cmp (string_bytes key.now) (string_bytes k.now)) old new true
    → (name : List ℕ) → has_name new name ≡ (same_text name (code_points_of key.now) || has_name old name)
put-names old new key h name = by_key (held-key name new.keys) (held-key name old.keys) (same_text name (code_points_of key.now)) refl
  where
    of_key : (q : Bor (String Global)) → code_points_of q.now ≡ name → has_name new name ≡ (same_text name (code_points_of key.now) || has_name old name)
    of_key q e =
        subst (λ (n : List ℕ). has_name new n ≡ (same_text n (code_points_of key.now) || has_name old n)) e
        (sym (found-same q new.keys) ∙ h.0 q
        ∙ rw (is_eq-slice_cmp (string_bytes key.now) (string_bytes q.now), same-bytes key.now q.now, found-same q old.keys, flip-same (code_points_of key.now) (code_points_of q.now))
        (either-or (same_text (code_points_of q.now) (code_points_of key.now)) (has_name old (code_points_of q.now))))

    by_key : IsKey name ⊎ (has_name new name ≡ false) → IsKey name ⊎ (has_name old name ≡ false) → (b : Bool) → same_text name (code_points_of key.now) ≡ b
        → has_name new name ≡ (same_text name (code_points_of key.now) || has_name old name)
    by_key (inl k) u b e = of_key k.0 k.1
    by_key (inr t) (inl k) b e = of_key k.0 k.1
    by_key (inr t) (inr u) true e = of_key key (sym ((bytes_eq-Decides name (code_points_of key.now)).0 e))
    by_key (inr t) (inr u) false e = rw (t, e, u) refl

-- what it answers, by names
pub added-names : (names : BTreeSet (Bor (String Global))) (name : Bor (String Global)) (added : Bool)
    → added ≡ not (list_any (λ n. is_eq (slice_cmp nat_cmp (string_bytes name.now) (string_bytes n.now))) names.keys) → has_name names (code_points_of name.now) ≡ not added
added-names names name added h = sym (found-same name names.keys) ∙ sym (not-not _) ∙ ap not (sym h)

-- names so far, and those of what is still to come, are those of the whole
abbrev pub AreRest : (whole rest : Pattern) → BTreeSet (Bor (String Global)) → Type 0
AreRest whole rest names =
    (name : List ℕ) → (has_name names name || (is_name name && among (names_of rest) name)) ≡ (is_name name && among (names_of whole) name)

regrouped : (h n a b : Bool) → ((h || (n && a)) || (n && b)) ≡ (h || (n && (a || b)))
regrouped true n a b = refl
regrouped false true a b = refl
regrouped false false a b = refl

fewer : (whole rest p q : Pattern) (names more all : BTreeSet (Bor (String Global))) → names_of rest ≡ names_of p ++ names_of q → AreRest whole rest names
    → ((name : List ℕ) → has_name all name ≡ (has_name names name || has_name more name))
    → ((name : List ℕ) → has_name more name ≡ (is_name name && among (names_of p) name))
    → AreRest whole q all
fewer whole rest p q names more all split left both of name =
    rw (
      both name,
      of name,
      regrouped (has_name names name) (is_name name) (among (names_of p) name) (among (names_of q) name),
      ← list_any-append (same_text name) (names_of p) (names_of q),
      ← split,
    ) (left name)

named : (h n a b : Bool) → (h || (n && a)) ≡ (n && b) → h ≡ true → n ≡ true
named h true a b e k = refl
named true false a b e k = sym e
named false false a b e k = k

last : (h n : Bool) → h ≡ (h || (n && false))
last true n = refl
last false true = refl
last false false = refl

none-held : (names : BTreeSet (Bor (String Global))) → names.keys ≡ [] → (name : List ℕ) → has_name names name ≡ false
none-held names empty name = ap (λ keys. holds_text name keys) empty

-- terms still to come, behind names: they stand apart where the whole does
abbrev pub AreTermsLeft : (whole rest : Pattern) → BTreeSet (Bor (String Global)) → Type 0
AreTermsLeft whole rest names = AreRest whole rest names × (names_apart whole ≡ (names_apart rest && not (list_any (has_name names) (names_of rest))))

-- before the first term
pub terms-first : (whole : Pattern) (names : BTreeSet (Bor (String Global))) → names.keys ≡ [] → AreTermsLeft whole whole names
terms-first whole names empty = (
  λ name. rw (none-held names empty name) refl,
  rw (none-passes (has_name names) (names_of whole) (λ name m. none-held names empty name)) (sym (and-true (names_apart whole))),
)

-- what stands in an alternative from one place on
terms-from : (terms : List (Term Syntax)) (i : ℕ) (item : Term Syntax) → i < length terms → item ≡ get_or terms i item
    → trees_of (drop i terms) ≡ term_trees tree item ++ trees_of (drop (i + 1) terms)
terms-from terms i item within read = rw (drop_more terms i item within, ← read) refl

-- the terms from one on
pub terms-split : (terms : List (Term Syntax)) (i : ℕ) (item : Term Syntax) (term : Syntax) → i < length terms → item ≡ get_or terms i item → item ≡ One term
    → sequence_of (trees_of (drop i terms)) ≡ sequence (tree term) (sequence_of (trees_of (drop (i + 1) terms)))
terms-split terms i item term within read is =
    ap sequence_of (terms-from terms i item within read ∙ ap (λ t. term_trees tree t ++ trees_of (drop (i + 1) terms)) is)

-- behind characters, which have no names
characters-left : (whole : Pattern) (names : BTreeSet (Bor (String Global))) (cs : List ℕ) (ps : List Pattern)
    → AreTermsLeft whole (sequence_of (map character cs ++ ps)) names → AreTermsLeft whole (sequence_of ps) names
characters-left whole names [] ps left = left
characters-left whole names (c ∷ cs) ps left =
    let rest : Pattern = sequence_of (map character cs ++ ps) in
    characters-left whole names cs ps (left.0, left.1 ∙ ap (λ b. b && not (list_any (has_name names) (names_of rest))) (and-true (names_apart rest)))

-- behind a text
pub text-left : (whole : Pattern) (terms : List (Term Syntax)) (i : ℕ) (item : Term Syntax) (points : Vec ℕ Global) (names : BTreeSet (Bor (String Global)))
    → i < length terms → item ≡ get_or terms i item → item ≡ Text points
    → AreTermsLeft whole (sequence_of (trees_of (drop i terms))) names → AreTermsLeft whole (sequence_of (trees_of (drop (i + 1) terms))) names
text-left whole terms i item points names within read is left =
    let from : trees_of (drop i terms) ≡ map character points.items ++ trees_of (drop (i + 1) terms) =
    terms-from terms i item within read ∙ ap (λ t. term_trees tree t ++ trees_of (drop (i + 1) terms)) is in
    characters-left whole names points.items (trees_of (drop (i + 1) terms)) (subst (λ ps. AreTermsLeft whole (sequence_of ps) names) from left)

-- a term that does not stand apart
pub terms-none : (whole rest p q : Pattern) (names : BTreeSet (Bor (String Global))) → rest ≡ sequence p q → AreTermsLeft whole rest names
    → names_apart p ≡ false → names_apart whole ≡ false
terms-none whole rest p q names split left none = left.1 ∙ rw (split, none) refl

-- one more term
pub terms-more : (whole rest p q : Pattern) (names more all : BTreeSet (Bor (String Global))) (apart : Bool) → rest ≡ sequence p q → AreTermsLeft whole rest names
    → IsNaming p (Some more) → AreJoined names more all apart
    → AreRest whole q all × (names_apart whole ≡ (apart && (names_apart q && not (list_any (has_name all) (names_of q)))))
terms-more whole rest p q names more all apart split left naming joined =
    let ts = names_of p in
    let rs = names_of q in
    let h = has_name names in
    let of = naming.1 in
    let before = list_any-append h ts rs in
    let met = meets h ts apart (λ x k. named (h x) (is_name x) _ _ (left.0 x) k)
    (λ yes x k. sym (of x) ∙ joined.1.0 yes x k, λ g. joined.1.1 (λ x k. of x ∙ g x k)) in
    let behind = agreeing (has_name all) (λ x. h x || (is_name x && among ts x)) rs (λ x. joined.0 x ∙ ap (λ b. h x || b) (of x))
    ∙ either-passes h (λ x. is_name x && among ts x) rs ∙ ap (λ b. list_any h rs || b) (share-same rs ts) in (
      fewer whole rest p q names more all (ap names_of split) left.0 joined.0 of,
      left.1 ∙ rw (split, naming.0, before, met, behind) (joined-apart (names_apart q) (share_a_name ts rs) apart (list_any h rs)),
    )

-- behind the last term
pub terms-last : (whole : Pattern) (names : BTreeSet (Bor (String Global))) → AreTermsLeft whole nothing names → IsNaming whole (Some names)
terms-last whole names left = (left.1, λ name. last (has_name names name) (is_name name) ∙ left.0 name)

-- alternatives still to come, behind names
abbrev pub AreArmsLeft : (whole rest : Pattern) → BTreeSet (Bor (String Global)) → Type 0
AreArmsLeft whole rest names = AreRest whole rest names × (names_apart whole ≡ names_apart rest)

-- the alternatives from one on
pub arms-split : (arms : List Syntax) (i : ℕ) (arm : Syntax) → i < length arms → arm ≡ get_or arms i arm
    → choice_of (map tree (drop i arms)) ≡ choice_of (tree arm ∷ map tree (drop (i + 1) arms))
arms-split arms i arm within read = rw (drop_more arms i arm within, ← read) refl

choice-names : (p : Pattern) (ps : List Pattern) → names_of (choice_of (p ∷ ps)) ≡ names_of p ++ names_of (choice_of ps)
choice-names p [] = sym (append-nil (names_of p))
choice-names p (q ∷ ps) = refl

choice-apart : (p : Pattern) (ps : List Pattern) → names_apart (choice_of (p ∷ ps)) ≡ (names_apart p && names_apart (choice_of ps))
choice-apart p [] = sym (and-true (names_apart p))
choice-apart p (q ∷ ps) = refl

-- before the first alternative
pub arms-first : (whole : Pattern) (names : BTreeSet (Bor (String Global))) → names.keys ≡ [] → AreArmsLeft whole whole names
arms-first whole names empty = (λ name. rw (none-held names empty name) refl, refl)

-- an alternative that does not stand apart
pub arms-none : (whole rest p : Pattern) (ps : List Pattern) (names : BTreeSet (Bor (String Global))) → rest ≡ choice_of (p ∷ ps) → AreArmsLeft whole rest names
    → names_apart p ≡ false → names_apart whole ≡ false
arms-none whole rest p ps names split left none = left.1 ∙ ap names_apart split ∙ choice-apart p ps ∙ rw none refl

-- one more alternative
pub arms-more : (whole rest p : Pattern) (ps : List Pattern) (names more all : BTreeSet (Bor (String Global))) (apart : Bool) → rest ≡ choice_of (p ∷ ps)
    → AreArmsLeft whole rest names → IsNaming p (Some more) → AreJoined names more all apart → AreArmsLeft whole (choice_of ps) all
arms-more whole rest p ps names more all apart split left naming joined = (
  fewer whole rest p (choice_of ps) names more all (ap names_of split ∙ choice-names p ps) left.0 joined.0 naming.1,
  left.1 ∙ ap names_apart split ∙ choice-apart p ps ∙ rw naming.0 refl,
)

-- behind the last alternative
pub arms-last : (whole : Pattern) (names : BTreeSet (Bor (String Global))) → AreArmsLeft whole nothing names → IsNaming whole (Some names)
arms-last whole names left = (left.1, λ name. last (has_name names name) (is_name name) ∙ left.0 name)

-- a text is a name where it is not empty
pub is_name-text : (text : String Global) → is_name (code_points_of text) ≡ not (string_len text == 0)
is_name-text text = go (string_bytes text) (code_points_of text) (encodes-chars (string_bytes text) (IsUtf8-string_bytes text)) ∙ ap (λ n. not (n == 0)) count
  where
    count : length (string_bytes text) ≡ string_len text
    count = omega (arith, text.bytes.ok.0)

    go : (bytes name : List ℕ) → encodes name ≡ bytes → is_name name ≡ not (length bytes == 0)
    go [] [] e = refl
    go [] (c ∷ name) e = let longer = length-le-encodes (c ∷ name) in let none = ap length e in absurd (omega arith)
    go (b ∷ bytes) [] e = absurd (cc)
    go (b ∷ bytes) (c ∷ name) e = grind (arith, nat_tests)

-- a group without a name has those inside
pub unnamed : (p : Pattern) (found : Option (BTreeSet (Bor (String Global)))) → IsNaming p found → IsNaming (capture 0 None p) found
unnamed p None h = h
unnamed p (Some names) h = (h.0, λ name. h.1 name ∙ unlike name)
  where
    unlike : (name : List ℕ) → (is_name name && among (names_of p) name) ≡ (is_name name && (same_text name [] || among (names_of p) name))
    unlike [] = refl
    unlike (c ∷ name) = refl

-- the empty text is no name
pub empty_name : (name : List ℕ) (p : Pattern) (found : Option (BTreeSet (Bor (String Global)))) → is_name name ≡ false → IsNaming p found → IsNaming (capture 0 (Some name) p) found
empty_name [] p None e h = rw h refl
empty_name [] p (Some names) e h = let inside = unnamed p (Some names) h in (rw h.0 refl, inside.1)
empty_name (c ∷ name) p found e h = let full : is_name (c ∷ name) ≡ true = grind (arith, nat_tests) in absurd (cc)

-- a group whose name stands inside it
pub capture-taken : (name : List ℕ) (p : Pattern) (names : BTreeSet (Bor (String Global))) → is_name name ≡ true → IsNaming p (Some names) → has_name names name ≡ true
    → names_apart (capture 0 (Some name) p) ≡ false
capture-taken name p names full naming taken = rw (sym (naming.1 name) ∙ taken) (and-false (names_apart p))

put-name : (s n a h : Bool) → (s ≡ true → n ≡ true) → h ≡ (n && a) → (s || h) ≡ (n && (s || a))
put-name true true a h f g = refl
put-name true false a h f g = sym (f refl)
put-name false n a h f g = g

-- a group whose name does not
pub capture-added : (name : List ℕ) (p : Pattern) (names all : BTreeSet (Bor (String Global))) → is_name name ≡ true → IsNaming p (Some names) → has_name names name ≡ false
    → ((other : List ℕ) → has_name all other ≡ (same_text other name || has_name names other)) → IsNaming (capture 0 (Some name) p) (Some all)
capture-added name p names all full naming free both = (
  rw (sym (naming.1 name) ∙ free, naming.0) refl,
  λ other. both other ∙ put-name (same_text other name) (is_name other) (among (names_of p) other) (has_name names other)
      (λ e. ap is_name ((bytes_eq-Decides other name).0 e) ∙ full) (naming.1 other),
)

-- a group with its name, where the name is added to those inside it
pub capture-named : (name : List ℕ) (p : Pattern) (names : BTreeSet (Bor (String Global))) (found : Option (BTreeSet (Bor (String Global)))) → is_name name ≡ true → IsNaming p (Some names)
    → IsAdding names name found → IsNaming (capture 0 (Some name) p) found
capture-named name p names None full naming adding = capture-taken name p names full naming adding
capture-named name p names (Some all) full naming adding = capture-added name p names all full naming adding.0 adding.1
