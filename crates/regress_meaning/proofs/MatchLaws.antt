-- What is found in a text of n code points, by what is attempted at each place: a search goes on from its first item, its
-- items rise, and there are at most as many as places.
use Rattle.std.proofs.Common.{◌≡◌, ℕ, zero, suc, ◌+◌, ◌-◌, ◌<◌, ◌≤◌, ◌⊎◌, inl, inr, ◌==◌, List, [], ◌∷◌, length, Option, Some, None, replicate, All, IfSome, refl, sym, ap, ◌∙◌, arith}
use Rattle.std.specs.Option.{option_or, option_map_or}
use Rattle.std.proofs.lemmas.Bool.{cond_both, eqb-true, eqb-false, cases_lt}
use Rattle.std.proofs.lemmas.Option.{IfSome_then}
use Rattle.std.proofs.lemmas.List.{length-replicate}
use Rattle.std.proofs.lemmas.List.Elements.{All-nil, All-cons, All-head, All-replicate}
use Rattle.regress_meaning.specs.Meaning.{State, Forward, Outcomes, Context}
use Rattle.regress_meaning.specs.Matches.{Item, item_at, first_from, next_place, list_from, attempt_by, first_found, all_found}
use Rattle.regress_meaning.specs.Laws.{LiesIn, IsInside, IsItemInside, ItemsRise}
use Rattle.regress_meaning.proofs.StepLaws.{Leads, Goes}

-- the items from what was found on; n bounds how many come after it
abbrev items_from : (ℕ → Option Item) → ℕ → Option Item → List Item
items_from found n o = option_map_or (λ i. i ∷ list_from found n (next_place i)) o []

-- n bounds how many items there are
list_from-bounded : (found : ℕ → Option Item) (n p : ℕ) → length (list_from found n p) ≤ n
unfolding list_from
list_from-bounded found zero p = omega arith
list_from-bounded found (suc n) p = go (found p) (list_from-bounded found n)
  where
    go : (o : Option Item) → ((q : ℕ) → length (list_from found n q) ≤ n) → length (items_from found n o) ≤ suc n
    go None rest = omega arith
    go (Some i) rest = omega (arith, rest (next_place i))

-- an item that starts at a place or later, and ends no sooner than it starts
pub record IsFrom (p : ℕ) (i : Item) : Type 0 where
  pub start : p ≤ i.start
  pub end : i.start ≤ i.end

-- the first item, if any, starts at the place or later
abbrev StartsFrom : ℕ → List Item → Type 0
StartsFrom p [] = Unit {0}
StartsFrom p (i ∷ items) = p ≤ i.start

-- where the search goes on is past the start, and no sooner than the end
pub next_place-past : (i : Item) → i.start ≤ i.end → (i.start < next_place i) × (i.end ≤ next_place i)
next_place-past i h =
    cond_both (i.start == i.end) (i.start + 1) i.end (λ n. (i.start < n) × (i.end ≤ n))
    (λ e. let s : i.start ≡ i.end = eqb-true _ _ e in (omega arith, omega arith))
    (λ e. let s : i.start ≡ i.end → ⊥ = eqb-false _ _ e in (omega arith, omega arith))

ItemsRise-cons : (i : Item) (items : List Item) → i.start ≤ i.end → StartsFrom (next_place i) items → ItemsRise items
    → ItemsRise (i ∷ items)
ItemsRise-cons i [] h from rises = h
ItemsRise-cons i (j ∷ items) h from rises =
    let past = next_place-past i h in (h, omega arith, omega arith, rises)

-- a search whose items start where it looks or later has items that rise
list_from-rise : (found : ℕ → Option Item) → ((p : ℕ) → IfSome (found p) (IsFrom p)) → (n p : ℕ)
    → StartsFrom p (list_from found n p) × ItemsRise (list_from found n p)
unfolding list_from
list_from-rise found each zero p = (tt, tt)
list_from-rise found each (suc n) p = go (found p) (each p) (list_from-rise found each n)
  where
    go : (o : Option Item) → IfSome o (IsFrom p)
        → ((q : ℕ) → StartsFrom q (list_from found n q) × ItemsRise (list_from found n q))
        → StartsFrom p (items_from found n o) × ItemsRise (items_from found n o)
    go None h rest = (tt, tt)
    go (Some i) h rest =
        let q = next_place i in (h.start, ItemsRise-cons i (list_from found n q) h.end (rest q).0 (rest q).1)

-- what holds of each item that is found holds of each item of the list
list_from-keeps : (P : Item → Type 0) (found : ℕ → Option Item) → ((p : ℕ) → IfSome (found p) P) → (n p : ℕ) → All P (list_from found n p)
unfolding list_from
list_from-keeps P found each zero p = All-nil P
list_from-keeps P found each (suc n) p = go (found p) (each p) (list_from-keeps P found each n)
  where
    go : (o : Option Item) → IfSome o P → ((q : ℕ) → All P (list_from found n q)) → All P (items_from found n o)
    go None h rest = All-nil P
    go (Some i) h rest = All-cons P i (list_from found n (next_place i)) h (rest (next_place i))

-- the least place from p on is p or later
first_from-from : (try : ℕ → Option Item) → ((p : ℕ) → IfSome (try p) (IsFrom p)) → (n p : ℕ)
    → IfSome (first_from try n p) (IsFrom p)
unfolding first_from
first_from-from try each zero p = tt
first_from-from try each (suc n) p = go (try p) (each p) (first_from-from try each n (p + 1))
  where
    go : (o : Option Item) → IfSome o (IsFrom p) → IfSome (first_from try n (p + 1)) (IsFrom (p + 1))
        → IfSome (option_or o (first_from try n (p + 1))) (IsFrom p)
    go None h rest =
        IfSome_then (first_from try n (p + 1)) rest (λ i f. record { start = omega (arith, f.start); end = f.end })
    go (Some i) h rest = h

-- what holds of each item at a place up to size holds of the first
first_from-keeps : (P : Item → Type 0) (try : ℕ → Option Item) (size : ℕ) → ((p : ℕ) → p ≤ size → IfSome (try p) P) → (n p : ℕ)
    → n ≤ size + 1 - p → IfSome (first_from try n p) P
unfolding first_from
first_from-keeps P try size each zero p room = tt
first_from-keeps P try size each (suc n) p room =
    go (try p) (each p (omega arith)) (first_from-keeps P try size each n (p + 1) (omega arith))
  where
    go : (o : Option Item) → IfSome o P → IfSome (first_from try n (p + 1)) P → IfSome (option_or o (first_from try n (p + 1))) P
    go None h rest = rest
    go (Some i) h rest = h

-- a search that finds nothing past place n
module _ (found : ℕ → Option Item) (each : (p : ℕ) → IfSome (found p) (IsFrom p)) (n : ℕ) (past : (p : ℕ) → n < p → found p ≡ None) where
  -- has no items there
  list_from_past : (m p : ℕ) → n < p → list_from found m p ≡ []
  unfolding list_from
  list_from_past zero p h = refl
  list_from_past (suc m) p h = ap (items_from found m) (past p h)

  -- and any two bounds that reach place n give the same items
  list_from-same : (m k p : ℕ) → n + 1 - p ≤ m → n + 1 - p ≤ k → list_from found m p ≡ list_from found k p
  unfolding list_from
  list_from-same zero k p h g = sym (list_from_past k p (omega arith))
  list_from-same (suc m) zero p h g = list_from_past (suc m) p (omega arith)
  list_from-same (suc m) (suc k) p h g = go (found p) (each p) (list_from-same m k)
    where
      go : (o : Option Item) → IfSome o (IsFrom p) → ((q : ℕ) → n + 1 - q ≤ m → n + 1 - q ≤ k → list_from found m q ≡ list_from found k q)
          → items_from found m o ≡ items_from found k o
      go None from rest = refl
      go (Some i) from rest =
          let later = (next_place-past i from.end).0 in
          ap (λ (items : List Item). i ∷ items) (rest (next_place i) (omega (arith, from.start)) (omega (arith, from.start)))

  -- behind the first item come those from the next place on
  list_from-goes : (p : ℕ) (i : Item) → found p ≡ Some i → list_from found (n + 1 - p) p ≡ i ∷ list_from found (n + 1 - next_place i) (next_place i)
  unfolding list_from
  list_from-goes p i e = go (cases_lt n p)
    where
      go : (n < p) ⊎ (p ≤ n) → list_from found (n + 1 - p) p ≡ i ∷ list_from found (n + 1 - next_place i) (next_place i)
      go (inl h) = let none = past p h in absurd (cc)
      go (inr h) =
          let left : n + 1 - p ≡ suc (n - p) = omega arith in
          let from : IsFrom p i = rw e at (each p) in
          let later = (next_place-past i from.end).0 in
          rw (left, e) (ap (λ (items : List Item). i ∷ items) (list_from-same (n - p) (n + 1 - next_place i) (next_place i) (omega (arith, from.start)) (omega arith)))

-- where nothing is found there are no items
list_from-ends : (found : ℕ → Option Item) (m p : ℕ) → found p ≡ None → list_from found m p ≡ []
unfolding list_from
list_from-ends found zero p e = refl
list_from-ends found (suc m) p e = ap (items_from found m) e

module _ (attempt : ℕ → Option Item) (n : ℕ) where
  -- past the end nothing is found
  pub first_found-past : (q : ℕ) → n < q → first_found attempt n q ≡ None
  unfolding first_from
  first_found-past q h = let left : n + 1 - q ≡ 0 = omega arith in rw left refl

  -- what is attempted at a place is found there
  pub first_found-here : (q : ℕ) (i : Item) → q ≤ n → attempt q ≡ Some i → first_found attempt n q ≡ Some i
  unfolding first_from
  first_found-here q i within found = let left : n + 1 - q ≡ suc (n - q) = omega arith in rw (left, found) refl

  -- or else at the next
  pub first_found-more : (q : ℕ) → q ≤ n → attempt q ≡ None → first_found attempt n q ≡ first_found attempt n (q + 1)
  unfolding first_from
  first_found-more q within none =
      let left : n + 1 - q ≡ suc (n - q) = omega arith in
      let behind : n + 1 - (q + 1) ≡ n - q = omega arith in
      rw (left, none, behind) refl

  -- what holds of each attempt in the text holds of each item
  pub first_found-keeps : (P : Item → Type 0) → ((p : ℕ) → p ≤ n → IfSome (attempt p) P) → (q : ℕ) → IfSome (first_found attempt n q) P
  first_found-keeps P each q = first_from-keeps P attempt n each (n + 1 - q) q (omega arith)

  pub all_found-keep : (P : Item → Type 0) → ((p : ℕ) → p ≤ n → IfSome (attempt p) P) → (q : ℕ) → All P (all_found attempt n q)
  all_found-keep P each q = list_from-keeps P (first_found attempt n) (first_found-keeps P each) (n + 1 - q) q

  pub all_found-bounded : (q : ℕ) → length (all_found attempt n q) ≤ n + 1 - q
  all_found-bounded q = list_from-bounded (first_found attempt n) (n + 1 - q) q

  pub all_found-ends : (q : ℕ) → first_found attempt n q ≡ None → all_found attempt n q ≡ []
  all_found-ends q e = list_from-ends (first_found attempt n) (n + 1 - q) q e

  module _ (from : (q : ℕ) → IfSome (attempt q) (IsFrom q)) where
    -- the first item from a place on starts there or later, and ends no sooner than it starts
    pub first_found-from : (q : ℕ) → IfSome (first_found attempt n q) (IsFrom q)
    first_found-from q = first_from-from attempt from (n + 1 - q) q

    pub first_found-later : (q : ℕ) (i : Item) → first_found attempt n q ≡ Some i → q ≤ i.start
    first_found-later q i e = let first : IsFrom q i = rw e at (first_found-from q) in first.start

    pub all_found-rise : (q : ℕ) → ItemsRise (all_found attempt n q)
    all_found-rise q = (list_from-rise (first_found attempt n) first_found-from (n + 1 - q) q).1

    pub all_found-goes : (q : ℕ) (i : Item) → first_found attempt n q ≡ Some i → all_found attempt n q ≡ i ∷ all_found attempt n (next_place i)
    all_found-goes q i e = list_from-goes (first_found attempt n) first_found-from n first_found-past q i e

-- the first item is the same where each place of the text has the same
first_from-same : (f g : ℕ → Option Item) (last n p : ℕ) → ((q : ℕ) → q ≤ last → f q ≡ g q) → (0 < n → p + n ≤ last + 1) → first_from f n p ≡ first_from g n p
unfolding first_from
first_from-same f g last zero p each within = refl
first_from-same f g last (suc n) p each within =
    rw (each p (omega (arith, within (omega arith))), first_from-same f g last n (p + 1) each (λ some. omega (arith, within (omega arith)))) refl

-- Attempts that agree in a text of n code points find the same there.
module _ (f g : ℕ → Option Item) (n : ℕ) (agree : (q : ℕ) → q ≤ n → f q ≡ g q) where
  pub first_found-same : (q : ℕ) → first_found f n q ≡ first_found g n q
  first_found-same q = first_from-same f g n (n + 1 - q) q agree (λ some. omega arith)

  pub all_found-same : (q : ℕ) → all_found f n q ≡ all_found g n q
  all_found-same q = ap (λ (found : ℕ → Option Item). list_from found (n + 1 - q) q) (λ i r. first_found-same r i)

-- What is attempted by outcomes that go ahead and stay inside.
module _ (context : Context) (f : Outcomes) (goes : Goes context Forward f) (count : ℕ) where
  -- where an attempt begins
  abbrev begin : ℕ → State
  begin q = record { place = q; groups = replicate count None }

  -- an item starts at its place, and ends ahead of it
  pub attempt_by-from : (q : ℕ) → IfSome (attempt_by f count q) (IsFrom q)
  attempt_by-from q = go (f (begin q)) (goes (begin q))
    where
      go : (ts : List State) → All (Leads context.text Forward (begin q)) ts → IfSome (item_at q ts) (IsFrom q)
      go [] h = tt
      go (t ∷ ts) h = record { start = omega arith; end = (All-head (Leads context.text Forward (begin q)) t ts h).ahead }

  -- from a place in the text it lies in the text, and has the groups that there are
  pub attempt_by-inside : (q : ℕ) → q ≤ length context.text
      → IfSome (attempt_by f count q) (λ i. IsItemInside context.text i × (length i.groups ≡ count))
  attempt_by-inside q within = go (f (begin q)) (goes (begin q))
    where
      begins : IsInside context.text (begin q)
      begins = record { place = within; groups = All-replicate (λ g. IfSome g (LiesIn (length context.text))) count None tt }

      go : (ts : List State) → All (Leads context.text Forward (begin q)) ts
          → IfSome (item_at q ts) (λ i. IsItemInside context.text i × (length i.groups ≡ count))
      go [] h = tt
      go (t ∷ ts) h =
          let first = All-head (Leads context.text Forward (begin q)) t ts h in
          (record { range = (first.ahead, (first.inside begins).place); groups = (first.inside begins).groups }, first.count ∙ length-replicate count None)
