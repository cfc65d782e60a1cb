-- The names of a tree's groups, each in the place of its number.
use Rattle.std.specs.Prelude.{cond, if◌then◌else◌}
use Rattle.std.specs.Option.{option_or}
use Rattle.std.proofs.Common.{◌≡◌, ◌≢◌, ℕ, zero, suc, ◌+◌, ◌-◌, ◌<◌, ◌≤◌, ◌==◌, ◌&&◌, ◌⊎◌, inl, inr, Bool, true, false, nat_le, nat_lt, List, [], ◌∷◌, ◌++◌, length, get_or, replicate, slice_get, Option, Some, None, unwrap_or, is_some, length-append, refl, sym, ap, ◌∙◌, arith}
use Rattle.std.proofs.lemmas.Bool.{cases_eq, cases_lt}
use Rattle.std.proofs.lemmas.Bool.Decides.{nat_tests}
use Rattle.std.proofs.lemmas.List.{append_assoc, append-nil, length-set, length-replicate, get_or-set_same, get_or-set_other}
use Rattle.std.proofs.lemmas.Option.{slice_get_past, slice_get-get_or}
use Rattle.regress_front_nodes.specs.Trees.{Tree, cat, alt, capture, submatch, loop, single_loop}
use Rattle.regress_front_nodes.specs.Names.{padded, placed, names_with, names_in}
use Rattle.regress_front_nodes.specs.WellFormed.{group_ids, AreNumbered, name_by_number}
use Rattle.regress_front_nodes.proofs.CountLemmas.{times, count-append, count-cons}

-- ---- a name in its place

empty-behind : (names : List (List ℕ)) (n i : ℕ) → get_or (names ++ replicate n []) i [] ≡ get_or names i []
empty-behind [] zero i = refl
empty-behind [] (suc n) zero = refl
empty-behind [] (suc n) (suc i) = empty-behind [] n i
empty-behind (name ∷ names) n zero = refl
empty-behind (name ∷ names) n (suc i) = empty-behind names n i

length-padded : (k : ℕ) (names : List (List ℕ)) → length (padded k names) ≡ length names + (suc k - length names)
length-padded k names = length-append names (replicate (suc k - length names) []) ∙ ap (λ n. length names + n) (length-replicate (suc k - length names) [])

-- one more empty name changes nothing where the place has none yet
pub padded-more : (k : ℕ) (names : List (List ℕ)) → length names ≤ k → padded k (names ++ [] ∷ []) ≡ padded k names
padded-more k names few =
    let left : ℕ = suc k - suc (length names) in
    let long : length (names ++ [] ∷ []) ≡ suc (length names) = length-append names ([] ∷ []) ∙ omega arith in
    let one : suc left ≡ suc k - length names = omega (arith, few) in
    ap (λ n. (names ++ [] ∷ []) ++ replicate (suc k - n) []) long ∙ append_assoc names ([] ∷ []) (replicate left [])
    ∙ ap (λ n. names ++ replicate n []) one

-- and where it has one there is none to add
pub padded-full : (k : ℕ) (names : List (List ℕ)) → k < length names → padded k names ≡ names
padded-full k names full =
    let none : suc k - length names ≡ 0 = omega (arith, full) in ap (λ n. names ++ replicate n []) none ∙ append-nil names

length-placed : (k : ℕ) (name : List ℕ) (names : List (List ℕ)) → length (placed k name names) ≡ length names + (suc k - length names)
length-placed k name names = length-set (padded k names) k name ∙ length-padded k names

-- ---- the names of a tree, at one number

-- Adding the names of a tree changes no name whose number no group has, and puts a name that one group has in its place.
abbrev Told : ℕ → Tree → Type 0
Told k t =
    (times k (group_ids t) ≡ 0 → (name_by_number k t ≡ None) × ((names : List (List ℕ)) → get_or (names_with names t) k [] ≡ get_or names k []))
    × (times k (group_ids t) ≡ 1 → (name : List ℕ) × (name_by_number k t ≡ Some name)
    × ((names : List (List ℕ)) → (get_or (names_with names t) k [] ≡ name) × (k < length (names_with names t))))

-- It adds no fewer names than there were, and none past the numbers of its groups.
abbrev Counted : Tree → Type 0
Counted t = (names : List (List ℕ)) → (length names ≤ length (names_with names t))
    × ((n : ℕ) → length names ≤ n → ((k : ℕ) → n ≤ k → times k (group_ids t) ≡ 0) → length (names_with names t) ≤ n)

-- two trees side by side
counted-both : (a b : Tree) → Counted a → Counted b → Counted (cat a b)
counted-both a b h g = λ names. let first = (h names).0 in let second = (g (names_with names a)).0 in (
  omega (arith, first, second),
  λ n few none. (g (names_with names a)).1 n ((h names).1 n few (λ k past. omega (arith, count-append k (group_ids a) (group_ids b), none k past)))
      (λ k past. omega (arith, count-append k (group_ids a) (group_ids b), none k past)),
)

told-both : (k : ℕ) (a b : Tree) → Counted b → Told k a → Told k b → Told k (cat a b)
told-both k a b more h g = (λ none. absent (omega (arith, counted, none)) (omega (arith, counted, none)), λ one. of_two one (times k (group_ids a)) refl)
  where
    counted : times k (group_ids a ++ group_ids b) ≡ times k (group_ids a) + times k (group_ids b)
    counted = count-append k (group_ids a) (group_ids b)

    absent : times k (group_ids a) ≡ 0 → times k (group_ids b) ≡ 0
        → (name_by_number k (cat a b) ≡ None) × ((names : List (List ℕ)) → get_or (names_with names (cat a b)) k [] ≡ get_or names k [])
    absent e f = (ap (λ o. option_or o (name_by_number k b)) (h.0 e).0 ∙ (g.0 f).0, λ names. (g.0 f).1 (names_with names a) ∙ (h.0 e).1 names)

    of_two : times k (group_ids a ++ group_ids b) ≡ 1 → (m : ℕ) → times k (group_ids a) ≡ m
        → (name : List ℕ) × (name_by_number k (cat a b) ≡ Some name)
        × ((names : List (List ℕ)) → (get_or (names_with names (cat a b)) k [] ≡ name) × (k < length (names_with names (cat a b))))
    of_two one zero e =
        let (name, by_number, there) = g.1 (omega (arith, counted, one, e)) in
        (name, ap (λ o. option_or o (name_by_number k b)) (h.0 e).0 ∙ by_number, λ names. there (names_with names a))
    of_two one (suc m) e =
        let (name, by_number, there) = h.1 (omega (arith, counted, one, e)) in
        let none : times k (group_ids b) ≡ 0 = omega (arith, counted, one, e) in (
          name,
          ap (λ o. option_or o (name_by_number k b)) by_number,
          λ names. let within = (there names).1 in let grown = (more (names_with names a)).0 in
              ((g.0 none).1 (names_with names a) ∙ (there names).0, omega (arith, within, grown)),
        )

-- a number of the tree's groups is another than this
numbered-apart : (k j : ℕ) (ids : List ℕ) → times k (j ∷ ids) ≡ 0 → (k ≢ j) × (times k ids ≡ 0)
numbered-apart k j ids none =
    let counted = count-cons k j ids in (λ e. absurd (grind (arith, nat_tests, counted, none, e)), omega (arith, counted, none))

counted-group : (j : ℕ) (name : Option (List ℕ)) (a : Tree) → Counted a → Counted (capture j name a)
counted-group j name a h = λ names. let inner = h (placed j (unwrap_or name []) names) in let grown = length-placed j (unwrap_or name []) names in (
  (let more = inner.0 in omega (arith, more, grown)),
  λ n few none. inner.1 n (small n few none grown (cases_lt j n)) (λ k past. (numbered-apart k j (group_ids a) (none k past)).1),
)
  where
    small : {l m : ℕ} (n : ℕ) → m ≤ n → ((k : ℕ) → n ≤ k → times k (j ∷ group_ids a) ≡ 0) → l ≡ m + (suc j - m) → (j < n) ⊎ (n ≤ j) → l ≤ n
    small n few none grown (inl h) = omega (arith, few, grown, h)
    small n few none grown (inr h) = absurd ((numbered-apart j j (group_ids a) (none j h)).0 refl)

told-group : (k j : ℕ) (name : Option (List ℕ)) (a : Tree) → Counted a → Told k a → Told k (capture j name a)
told-group k j name a more h = by_number (cases_eq j k)
  where
    counted : times k (j ∷ group_ids a) ≡ cond (j == k) 1 0 + times k (group_ids a)
    counted = count-cons k j (group_ids a)

    by_number : (j ≡ k) ⊎ (j ≢ k) → Told k (capture j name a)
    by_number (inl e) =
        let same : (j == k) ≡ true = grind (arith, nat_tests, e) in
        let both : times k (j ∷ group_ids a) ≡ 1 + times k (group_ids a) = counted ∙ ap (λ (b : Bool). cond b 1 0 + times k (group_ids a)) same in (
          λ none. absurd (omega (arith, both, none)),
          λ one. let inside = (h.0 (omega (arith, both, one))).1 in (
            unwrap_or name [],
            ap (λ (b : Bool). if b then Some (unwrap_or name []) else name_by_number k a) same,
            λ names. let long = length-padded j names in let grown = length-placed j (unwrap_or name []) names in let last = (more (placed j (unwrap_or name []) names)).0 in (
              inside (placed j (unwrap_or name []) names) ∙ ap (λ i. get_or (placed j (unwrap_or name []) names) i []) (sym e)
                  ∙ get_or-set_same (padded j names) j (unwrap_or name []) [] (omega (arith, long)),
              omega (arith, e, grown, last),
            ),
          ),
        )
    by_number (inr apart) =
        let other : (j == k) ≡ false = grind (arith, nat_tests, apart) in
        let same : times k (j ∷ group_ids a) ≡ times k (group_ids a) =
        let c = counted ∙ ap (λ (b : Bool). cond b 1 0 + times k (group_ids a)) other in omega (arith, c) in
        let told = ap (λ (b : Bool). if b then Some (unwrap_or name []) else name_by_number k a) other in (
          λ none. let inside = h.0 (sym same ∙ none) in (
            told ∙ inside.0,
            λ names. inside.1 (placed j (unwrap_or name []) names) ∙ get_or-set_other (padded j names) j k (unwrap_or name []) [] (λ e. apart (sym e)) ∙ empty-behind names (suc j - length names) k,
          ),
          λ one. let (found, by_number, there) = h.1 (sym same ∙ one) in (found, told ∙ by_number, λ names. there (placed j (unwrap_or name []) names)),
        )

counted-names : (t : Tree) → Counted t
counted-names (cat a b) = counted-both a b (counted-names a) (counted-names b)
counted-names (alt a b) = counted-both a b (counted-names a) (counted-names b)
counted-names (capture j name a) = counted-group j name a (counted-names a)
counted-names (submatch kind first last a) = counted-names a
counted-names (loop a first last least most greedy) = counted-names a
counted-names (single_loop a least most greedy) = counted-names a
counted-names _ = λ names. (omega arith, λ n few none. few)

told : (k : ℕ) (t : Tree) → Told k t
told k (cat a b) = told-both k a b (counted-names b) (told k a) (told k b)
told k (alt a b) = told-both k a b (counted-names b) (told k a) (told k b)
told k (capture j name a) = told-group k j name a (counted-names a) (told k a)
told k (submatch kind first last a) = told k a
told k (loop a first last least most greedy) = told k a
told k (single_loop a least most greedy) = told k a
told k _ = (λ none. (refl, λ names. refl), λ one. absurd (omega (arith, one)))

-- ---- the names of a tree whose groups are numbered

module _ (n : ℕ) (t : Tree) (numbered : AreNumbered 0 n (group_ids t)) where
  once : (k : ℕ) → k < n → times k (group_ids t) ≡ 1
  once k h =
      let inside : (nat_le 0 k && nat_lt k n) ≡ true = grind (arith, nat_tests) in numbered.once k ∙ ap (λ (b : Bool). if b then 1 else 0) inside

  never : (k : ℕ) → n ≤ k → times k (group_ids t) ≡ 0
  never k h =
      let outside : (nat_le 0 k && nat_lt k n) ≡ false = grind (arith, nat_tests) in numbered.once k ∙ ap (λ (b : Bool). if b then 1 else 0) outside

  -- there is one for each group
  pub names-counted : length (names_in t) ≡ n
  names-counted = by_number n refl ((counted-names t []).1 n (omega arith) never)
    where
      by_number : (m : ℕ) → n ≡ m → length (names_in t) ≤ n → length (names_in t) ≡ n
      by_number zero e few = omega (arith, e, few)
      by_number (suc m) e few = let last = (((told m t).1 (once m (omega (arith, e)))).2 []).1 in omega (arith, e, few, last)

  -- and it is the group's name
  pub names-by-number : (k : ℕ) → name_by_number k t ≡ slice_get (names_in t) k
  names-by-number k = by_place (cases_lt k n)
    where
      by_place : (k < n) ⊎ (n ≤ k) → name_by_number k t ≡ slice_get (names_in t) k
      by_place (inl h) =
          let (name, by_number, there) = (told k t).1 (once k h) in
          by_number ∙ ap Some (sym (there []).0) ∙ sym (slice_get-get_or (names_in t) k [] (there []).1)
      by_place (inr h) =
          ((told k t).0 (never k h)).0 ∙ sym (slice_get_past (names_in t) k (let counted = names-counted in omega (arith, counted, h)))

-- lists with the same in each place are the same
same-at-each : {A : Type 0} (xs ys : List A) → ((k : ℕ) → slice_get xs k ≡ slice_get ys k) → xs ≡ ys
same-at-each [] [] same = refl
same-at-each [] (y ∷ ys) same = absurd (let e = ap is_some (same 0) in grind (arith, e))
same-at-each (x ∷ xs) [] same = absurd (let e = ap is_some (same 0) in grind (arith, e))
same-at-each (x ∷ xs) (y ∷ ys) same =
    let head = ap (λ o. unwrap_or o x) (same 0) in let tail = same-at-each xs ys (λ k. same (suc k)) in λ i. head i ∷ tail i

-- a list that has the name of each group by its number, and no more, is the list of them
pub names-are : (n : ℕ) (t : Tree) (names : List (List ℕ)) → AreNumbered 0 n (group_ids t) → ((k : ℕ) → name_by_number k t ≡ slice_get names k) → names_in t ≡ names
names-are n t names numbered each = same-at-each (names_in t) names (λ k. sym (names-by-number n t numbered k) ∙ each k)
