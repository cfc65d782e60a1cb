-- The images that more than one code point has, and the classes that are listed for them.
use Rattle.std.proofs.Common.{◌≡◌, ◌≢◌, ℕ, zero, suc, ◌+◌, ◌-◌, ◌<◌, ◌≤◌, ◌==◌, not, Bool, true, false, cond, List, [], ◌∷◌, ◌++◌, length, get_or, filter, map, All, Contains, Some, None, refl, sym, ap, subst, ◌∙◌, inl, inr, arith, length-append}
use Rattle.std.proofs.lemmas.Bool.{eq-eqb, ne_eqb, cases_eq, cases_lt, false≢true}
use Rattle.std.proofs.lemmas.List.{get_or_append_left, get_or-append_right}
use Rattle.std.proofs.lemmas.List.Elements.{All-map, All-filter}
use Rattle.regress_meaning.specs.TableParts.{image, is_code_point}
use Rattle.regress_front_tables.specs.Classes.{list_numbered}
use Rattle.regress_front_tables.specs.Folding.{Lists, IsCaseMap, IsClass, place_in}
use Rattle.regress_front_tables.proofs.ImageLemmas.{All-image, image-unlisted, image_cases}
use Rattle.regress_front_tables.proofs.PlaceLemmas.{place_cases}

-- ---- images of other code points

-- the images of the pairs of two different code points
abbrev pub moved : List (ℕ × ℕ) → List ℕ
moved pairs = map (λ p. p.1) (filter (λ p. not (p.0 == p.1)) pairs)

-- they are code points, and each is its own image
pub moved-own : (pairs : List (ℕ × ℕ)) → IsCaseMap pairs → All (λ d. is_code_point d × (image pairs d ≡ d)) (moved pairs)
moved-own pairs lawful =
    All-map (λ d. is_code_point d × (image pairs d ≡ d)) (λ p. p.1) (filter (λ p. not (p.0 == p.1)) pairs)
    (All-filter (λ p. not (p.0 == p.1)) (λ p. is_code_point p.1 × (image pairs p.1 ≡ p.1)) pairs
    (λ k d l.
    let p = get_or pairs k d in
    let listed = All-image pairs lawful.order k d l in
    ((lawful.range k d l).1, ap (image pairs) (sym listed) ∙ lawful.idempotent p.0 ∙ listed)))

-- the image of each pair of two different code points is there
moved-listed : (pairs : List (ℕ × ℕ)) (c d k : ℕ) → c ≢ d → k < length pairs → get_or pairs k (c, d) ≡ (c, d) → Contains (moved pairs) d
moved-listed [] c d k ne l e = absurd (omega (arith, l))
moved-listed (p ∷ pairs) c d zero ne l e =
    go (not (p.0 == p.1)) (ap not (ap (λ q. q.0 == q.1) e ∙ ne_eqb c d ne)) (ap (λ q. q.1) e)
  where
    go : (b : Bool) → b ≡ true → p.1 ≡ d
        → Contains (map (λ q. q.1) (cond b (p ∷ filter (λ q. not (q.0 == q.1)) pairs) (filter (λ q. not (q.0 == q.1)) pairs))) d
    go true passes same = (0, omega arith, same)
    go false fails same = absurd (false≢true fails)
moved-listed (p ∷ pairs) c d (suc k) ne l e =
    go (not (p.0 == p.1)) (moved-listed pairs c d k ne (omega (arith, l)) e)
  where
    go : (b : Bool) → Contains (moved pairs) d
        → Contains (map (λ q. q.1) (cond b (p ∷ filter (λ q. not (q.0 == q.1)) pairs) (filter (λ q. not (q.0 == q.1)) pairs))) d
    go true h = (suc h.0, omega (arith, h.1), h.2)
    go false h = h

-- what is not its own image has its image there
pub moved-all : (pairs : List (ℕ × ℕ)) (c : ℕ) → image pairs c ≢ c → Contains (moved pairs) (image pairs c)
moved-all pairs c ne = elim (image_cases pairs c) [
  | inl unlisted ↦ absurd (ne (image-unlisted pairs c unlisted))
  | inr listed ↦ moved-listed pairs c (image pairs c) listed.0 (λ e. ne (sym e)) listed.1 listed.2
]

-- ---- listed classes

-- under 0 stands nothing
pub list_numbered-none : (lists : List (List ℕ)) (k : ℕ) → k ≡ 0 → list_numbered lists k ≡ None
unfolding list_numbered
list_numbered-none lists k e = rw (eq-eqb k 0 e) refl

-- and under another number a list
pub list_numbered-some : (lists : List (List ℕ)) (k : ℕ) → 0 < k → list_numbered lists k ≡ Some (get_or lists (k - 1) [])
unfolding list_numbered
list_numbered-some lists k l =
    let some : (k == 0) ≡ false = ne_eqb k 0 (λ z. omega (arith, z, l)) in rw some refl

-- the first n images have their classes in the lists
pub record AreListed (pairs : List (ℕ × ℕ)) (images : List ℕ) (n : ℕ) (lists : List (List ℕ)) : Type 0 where
  pub size : length lists ≡ n
  pub each : (k : ℕ) → k < n → Lists (λ c. image pairs c == get_or images k 0) (get_or lists k [])

module _ (pairs : List (ℕ × ℕ)) (images : List ℕ) where
  pub AreListed-none : AreListed pairs images 0 []
  AreListed-none = record { size = refl; each = λ k l. absurd (omega (arith, l)) }

  -- one class more
  pub AreListed-more : (n : ℕ) (lists : List (List ℕ)) (members : List ℕ) (to : ℕ) → AreListed pairs images n lists
      → get_or images n 0 ≡ to → image pairs to ≡ to → Lists (λ c. image pairs c == image pairs to) members
      → AreListed pairs images (n + 1) (lists ++ members ∷ [])
  AreListed-more n lists members to h at own listed = record {
    size = length-append lists (members ∷ []) ∙ ap (λ k. k + 1) h.size;
    each = λ k l. elim (cases_lt k n) [
      | inl before ↦
          let IsFor : List ℕ → Type 0 = λ cs. Lists (λ c. image pairs c == get_or images k 0) cs in
          subst IsFor (sym (get_or_append_left lists (members ∷ []) [] k (omega (arith, before, h.size)))) (h.each k before)
      | inr behind ↦
          let here : k ≡ n = omega (arith, l, behind) in
          let none : k - n ≡ 0 = omega (arith, here) in
          let last : members ≡ get_or (lists ++ members ∷ []) k [] =
          sym (get_or-append_right lists (members ∷ []) n k [] h.size behind ∙ ap (λ j. get_or (members ∷ []) j []) none) in
          let same : image pairs to ≡ get_or images k 0 = own ∙ sym at ∙ ap (λ j. get_or images j 0) (sym here) in
          let IsFor : List ℕ → Type 0 = λ cs. Lists (λ c. image pairs c == get_or images k 0) cs in
          let IsOf : ℕ → Type 0 = λ x. Lists (λ c. image pairs c == x) members in
          subst IsFor last (subst IsOf same listed)
    ];
  }

  module _ (lists : List (List ℕ)) (h : AreListed pairs images (length images) lists) where
    -- no place is past the lists
    pub place_in-bounded : (c : ℕ) → place_in images c ≤ length lists
    place_in-bounded c = elim (place_cases images c) [
      | inl absent ↦ omega (arith, absent.0)
      | inr there ↦ omega (arith, there.1, there.2, h.size)
    ]

    -- under the place of an image stands its class
    pub IsClass-listed : ((c : ℕ) → image pairs c ≢ c → Contains images (image pairs c))
        → (to k : ℕ) → k ≡ place_in images to → IsClass (image pairs) to (list_numbered lists k)
    IsClass-listed all to k e = elim (place_cases images to) [
      | inl absent ↦ rw (list_numbered-none lists k (e ∙ absent.0)) (λ c same. elim (cases_eq (image pairs c) c) [
        | inl own ↦ sym own ∙ same
        | inr other ↦
            let there = all c other in
            absurd (absent.1 there.0 (image pairs c) there.1 (there.2 ∙ same))
      ])
      | inr there ↦
          let IsAt : ℕ → Type 0 = λ j. Lists (λ c. image pairs c == get_or images there.0 0) (get_or lists j []) in
          let IsOf : ℕ → Type 0 = λ x. Lists (λ c. image pairs c == x) (get_or lists (k - 1) []) in
          let place : there.0 ≡ k - 1 = omega (arith, e, there.1) in
          let some : 0 < k = omega (arith, e, there.1) in
          rw (list_numbered-some lists k some) (subst IsOf there.3 (subst IsAt place (h.each there.0 there.2)))
    ]
