-- The least number past the last code point, of lists joined end to end, and the law on range.
use Rattle.std.proofs.Common.{◌≡◌, ℕ, zero, suc, ◌<◌, ◌⊎◌, Bool, true, false, cond, nat_lt, List, [], ◌∷◌, ◌++◌, get_or, map, fold, min, All, Option, String, Vec, Global, Some, None, MatchOption, IfSome, refl, sym, ap, subst, ◌∙◌, inl, inr, arith}
use Rattle.std.specs.List.{Contains, flat_map, filter_map, cons_option, reduce}
use Rattle.std.proofs.lemmas.Bool.{cases_lt, ltb-true, false≢true, lt-ltb}
use Rattle.std.proofs.lemmas.List.Elements.{All-append, All-map, filter-append, Contains-get_or, Contains-append_left, Contains-append_right, Contains-append_cases}
use Rattle.regress_meaning.specs.Table.{last_code_point}
use Rattle.regress_meaning.specs.TableParts.{TableParts, KeepsRange, is_code_point}
use Rattle.regress_front_tables.specs.declared.tables.parts.TableParts.{TableParts as RawParts}
use Rattle.regress_front_tables.specs.Parts.{parts_of}
use Rattle.regress_front_tables.specs.Entries.{entry_of}
use Rattle.regress_front_tables.specs.Breaking.{IsLeast, least_past, numbers, numbers_of, numbers_in}
use Rattle.regress_front_tables.specs.Telling.{lesser}
use Rattle.regress_front_sets.proofs.ListLemmas.{All-parts, All-from_map, All-flat_map, All-from_flat_map, flat_map-map}

-- ---- the least of a list

fold_min-min : (x y : ℕ) (ys : List ℕ) → fold min (min x y) ys ≡ min x (fold min y ys)
fold_min-min x y [] = refl
fold_min-min x y (z ∷ zs) =
    let swapped : min (min x y) z ≡ min x (min y z) = omega arith in
    ap (λ n. fold min n zs) swapped ∙ fold_min-min x (min y z) zs

reduce_min-cons : (x : ℕ) (xs : List ℕ) → reduce min (x ∷ xs) ≡ lesser (Some x) (reduce min xs)
reduce_min-cons x [] = refl
reduce_min-cons x (y ∷ ys) = ap Some (fold_min-min x y ys)

lesser_assoc : (a b c : Option ℕ) → lesser (lesser a b) c ≡ lesser a (lesser b c)
lesser_assoc None b c = refl
lesser_assoc (Some x) None c = refl
lesser_assoc (Some x) (Some y) None = refl
lesser_assoc (Some x) (Some y) (Some z) = ap Some (omega arith)

reduce_min-append : (xs ys : List ℕ) → reduce min (xs ++ ys) ≡ lesser (reduce min xs) (reduce min ys)
reduce_min-append [] ys = refl
reduce_min-append (x ∷ xs) ys =
    reduce_min-cons x (xs ++ ys) ∙ ap (lesser (Some x)) (reduce_min-append xs ys)
    ∙ sym (lesser_assoc (Some x) (reduce min xs) (reduce min ys)) ∙ ap (λ o. lesser o (reduce min ys)) (sym (reduce_min-cons x xs))

-- the least past the last code point of two lists is the lesser of both
pub least_past-append : (xs ys : List ℕ) → least_past (xs ++ ys) ≡ lesser (least_past xs) (least_past ys)
least_past-append xs ys = rw (filter-append (nat_lt last_code_point) xs ys) (reduce_min-append _ _)

reduce_min-cons_option : (o : Option ℕ) (xs : List ℕ) → reduce min (cons_option o xs) ≡ lesser o (reduce min xs)
reduce_min-cons_option None xs = refl
reduce_min-cons_option (Some x) xs = reduce_min-cons x xs

-- the least past the last code point of many lists is the least of those of each
pub least_past-flat_map : {X : Type 0} (f : X → List ℕ) (xs : List X) → reduce min (filter_map (λ x. least_past (f x)) xs) ≡ least_past (flat_map f xs)
least_past-flat_map f [] = refl
least_past-flat_map f (x ∷ xs) =
    reduce_min-cons_option (least_past (f x)) _ ∙ ap (lesser (least_past (f x))) (least_past-flat_map f xs)
    ∙ sym (least_past-append (f x) (flat_map f xs))

-- ---- what it says

-- nothing where no number is so, and else the least that is
abbrev NoneOrLeast : Option ℕ → (ℕ → Type 0) → Type 0
NoneOrLeast told P = MatchOption told ((c : ℕ) → P c → ⊥) (IsLeast P)

-- c is past the last code point, and stands in the list
abbrev IsPast : List ℕ → ℕ → Type 0
IsPast xs c = (last_code_point < c) × Contains xs c

NoneOrLeast-same : (P Q : ℕ → Type 0) → ((c : ℕ) → P c → Q c) → ((c : ℕ) → Q c → P c) → (told : Option ℕ) → NoneOrLeast told P → NoneOrLeast told Q
NoneOrLeast-same P Q to from None h = λ c q. h c (from c q)
NoneOrLeast-same P Q to from (Some c) h = record { holds = to c h.holds; least = λ d l q. h.least d l (from d q) }

NoneOrLeast-either : (P Q : ℕ → Type 0) (a b : Option ℕ) → NoneOrLeast a P → NoneOrLeast b Q → NoneOrLeast (lesser a b) (λ c. P c ⊎ Q c)
NoneOrLeast-either P Q None None h k = λ c r. elim r [ inl p ↦ h c p | inr q ↦ k c q ]
NoneOrLeast-either P Q None (Some d) h k =
    record { holds = inr k.holds; least = λ e l r. elim r [ inl p ↦ h e p | inr q ↦ k.least e l q ] }
NoneOrLeast-either P Q (Some c) None h k =
    record { holds = inl h.holds; least = λ e l r. elim r [ inl p ↦ h.least e l p | inr q ↦ k e q ] }
NoneOrLeast-either P Q (Some c) (Some d) h k =
    let neither : (e : ℕ) → e < c → e < d → P e ⊎ Q e → ⊥ = λ e l m r. elim r [ inl p ↦ h.least e l p | inr q ↦ k.least e m q ] in
    elim (cases_lt c d) [
      | inl l ↦ subst (IsLeast (λ e. P e ⊎ Q e)) {x = c} (omega arith) (record { holds = inl h.holds; least = λ e m. neither e m (omega arith) })
      | inr l ↦ subst (IsLeast (λ e. P e ⊎ Q e)) {x = d} (omega arith) (record { holds = inr k.holds; least = λ e m. neither e (omega arith) m })
    ]

Contains-one : (x c : ℕ) → Contains (x ∷ []) c → x ≡ c
Contains-one x c (zero, l, e) = e
Contains-one x c (suc k, l, e) = absurd (omega arith)

least_past-one : (x : ℕ) → NoneOrLeast (least_past (x ∷ [])) (IsPast (x ∷ []))
least_past-one x = go (nat_lt last_code_point x) refl
  where
    go : (b : Bool) → nat_lt last_code_point x ≡ b → NoneOrLeast (reduce min (cond b (x ∷ []) [])) (IsPast (x ∷ []))
    go true h = record {
      holds = (ltb-true last_code_point x h, (zero, omega arith, refl));
      least = λ d l past. let same = Contains-one x d past.1 in omega arith;
    }
    go false h = λ c past.
        let same = Contains-one x c past.1 in
        let above : last_code_point < x = omega arith in
        false≢true (sym h ∙ lt-ltb last_code_point x above)

-- it is the least number of the list that is past the last code point, where there is one
least_past-told : (xs : List ℕ) → NoneOrLeast (least_past xs) (IsPast xs)
least_past-told [] = λ c past. absurd (omega (arith, past.1.1))
least_past-told (x ∷ xs) =
    let P : ℕ → Type 0 = λ c. IsPast (x ∷ []) c ⊎ IsPast xs c in
    let to : (c : ℕ) → P c → IsPast (x ∷ xs) c = λ c r. elim r [
      | inl p ↦ (p.0, Contains-append_left (x ∷ []) xs c p.1)
      | inr q ↦ (q.0, Contains-append_right (x ∷ []) xs c q.1)
    ] in
    let from : (c : ℕ) → IsPast (x ∷ xs) c → P c = λ c past.
    elim (Contains-append_cases (x ∷ []) xs c past.1) [ inl p ↦ inl (past.0, p) | inr q ↦ inr (past.0, q) ] in
    rw (least_past-append (x ∷ []) xs)
    (NoneOrLeast-same P (IsPast (x ∷ xs)) to from (lesser (least_past (x ∷ [])) (least_past xs))
    (NoneOrLeast-either _ _ (least_past (x ∷ [])) (least_past xs) (least_past-one x) (least_past-told xs)))

-- where none is told, all numbers are code points
pub All-from_least_past : (xs : List ℕ) → least_past xs ≡ None → All is_code_point xs
All-from_least_past xs e =
    let none = rw e at (least_past-told xs) in
    λ k d l. elim (cases_lt last_code_point (get_or xs k d)) [
      | inl past ↦ absurd (none _ (past, Contains-get_or xs k d l))
      | inr kept ↦ kept
    ]

-- what is told is the least of them
pub IsLeast-from_least_past : (xs : List ℕ) (told : Option ℕ) → told ≡ least_past xs → IfSome told (IsLeast (IsPast xs))
IsLeast-from_least_past xs None e = tt
IsLeast-from_least_past xs (Some c) e = rw (← e) at (least_past-told xs)

-- ---- the law on range

-- both numbers of a pair are code points
abbrev IsPair : ℕ × ℕ → Type 0
IsPair p = is_code_point p.0 × is_code_point p.1

All-numbers_of : (pairs : List (ℕ × ℕ)) → All IsPair pairs → All is_code_point (numbers_of pairs)
All-numbers_of pairs all =
    All-append is_code_point _ _ (All-map is_code_point (λ p. p.0) pairs (λ k d l. (all k d l).0)) (All-map is_code_point (λ p. p.1) pairs (λ k d l. (all k d l).1))

All-from_numbers_of : (pairs : List (ℕ × ℕ)) → All is_code_point (numbers_of pairs) → All IsPair pairs
All-from_numbers_of pairs all =
    let both = All-parts is_code_point (map (λ p. p.0) pairs) _ all in
    let from = All-from_map is_code_point (λ p. p.0) pairs both.0 in
    let to = All-from_map is_code_point (λ p. p.1) pairs both.1 in
    λ k d l. (from k d l, to k d l)

-- where all numbers are code points, the law on range is kept
pub KeepsRange-from_numbers : (parts : TableParts) → All is_code_point (numbers parts) → KeepsRange parts
KeepsRange-from_numbers parts all =
    let two = All-parts is_code_point (numbers_of parts.fold ++ numbers_of parts.upper) _ all in
    let pairs = All-parts is_code_point (numbers_of parts.fold) _ two.0 in
    let strings = All-from_flat_map is_code_point (λ e. flat_map (λ s. s) e.1) parts.sequences two.1 in (
      (All-from_numbers_of parts.fold pairs.0, All-from_numbers_of parts.upper pairs.1),
      λ k d l. All-from_flat_map is_code_point (λ s. s) (get_or parts.sequences k d).1 (strings k d l),
    )

-- where the law on range is kept, all numbers are code points
pub All-numbers : (parts : TableParts) → KeepsRange parts → All is_code_point (numbers parts)
All-numbers parts kept =
    All-append is_code_point _ _ (All-append is_code_point _ _ (All-numbers_of parts.fold kept.0.0) (All-numbers_of parts.upper kept.0.1))
    (All-flat_map is_code_point (λ e. flat_map (λ s. s) e.1) parts.sequences (λ k d l. All-flat_map is_code_point (λ s. s) (get_or parts.sequences k d).1 (kept.1 k d l)))

-- ---- the lists of a value of parts

numbers_in-entries : (entries : List (String Global × Vec (Vec ℕ Global) Global)) → flat_map (λ e. flat_map (λ s. s.items) e.1.items) entries
    ≡ numbers_in (map (entry_of (λ v. map (λ s. s.items) v.items)) entries)
numbers_in-entries [] = refl
numbers_in-entries (e ∷ entries) =
    simp (flat_map-map (λ (s : List ℕ). s) (λ (s : Vec ℕ Global). s.items) e.1.items, numbers_in-entries entries)

-- the least number past the last code point is searched for in the lists in turn
pub least_past-parts : (p : RawParts) → lesser (lesser (least_past (numbers_of p.fold.items)) (least_past (numbers_of p.upper.items)))
    (least_past (flat_map (λ e. flat_map (λ s. s.items) e.1.items) p.sequences.items)) ≡ least_past (numbers (parts_of p))
least_past-parts p =
    ap (λ n. lesser (lesser (least_past (numbers_of p.fold.items)) (least_past (numbers_of p.upper.items))) (least_past n)) (numbers_in-entries p.sequences.items)
    ∙ ap (λ o. lesser o (least_past (numbers_in (parts_of p).sequences))) (sym (least_past-append (numbers_of p.fold.items) (numbers_of p.upper.items)))
    ∙ sym (least_past-append (numbers_of p.fold.items ++ numbers_of p.upper.items) (numbers_in (parts_of p).sequences))
