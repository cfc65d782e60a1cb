-- Trees of words: they hold nothing else, and match their words.
use Rattle.std.proofs.Common.{◌≡◌, ℕ, ◌+◌, ◌≤◌, ◌⊎◌, Bool, true, false, ◌&&◌, List, [], ◌∷◌, ◌++◌, length, map, filter, take, drop, chars, nat_eq, if◌then◌else◌, refl, sym, ap, ◌∙◌, inl, inr, arith}
use Rattle.std.specs.List.{flat_map, starts_with}
use Rattle.std.proofs.lemmas.Bool.{false≢true, and_parts, cases_lt}
use Rattle.std.proofs.lemmas.List.{append-nil}
use Rattle.std.proofs.lemmas.List.Elements.{All-weaker}
use Rattle.std.proofs.lemmas.List.Folds.{flat_map-map}
use Rattle.std.proofs.lemmas.Grind.{flat_map-append}
use Rattle.regress_meaning.specs.Text.{same_text}
use Rattle.regress_meaning.specs.Meaning.{State, Direction, Forward, Backward, Context}
use Rattle.regress_meaning.specs.Laws.{IsInside}
use Rattle.regress_meaning.proofs.StepLaws.{To, Goes-step}
use Rattle.regress_front_nodes.specs.Trees.{Tree, empty, bytes, cat, no_part, alt}
use Rattle.regress_front_nodes.specs.TreeMeaning.{literal_steps, node_outcomes}
use Rattle.regress_front_nodes.specs.Forms.{is_cat}
use Rattle.regress_front_nodes.specs.Sizes.{loops}
use Rattle.regress_front_nodes.specs.WellFormed.{group_ids, goals, AreLawful}
use Rattle.regress_front_nodes.proofs.StepLemmas.{flat_map-again}
use Rattle.regress_front_nodes.proofs.PieceOutcomes.{step-in, step-out, flat_map-agree}
use Rattle.regress_front_rules.specs.Words.{is_of_words, words, AreFoundAlike}
use Rattle.regress_front_rules.specs.Weight.{pending}
use Rattle.regress_front_rules.proofs.StepLemmas.{literals-joined}
use Rattle.regress_front_rules.proofs.MeasureLemmas.{pending-loops}

-- ---- what a tree of words holds

-- the parts of a sequence
pub cat-words : (a b : Tree) → is_of_words (cat a b) ≡ true → (is_of_words a ≡ true) × (is_of_words b ≡ true) × (is_cat b ≡ true)
cat-words a b h =
    let p = and_parts (is_of_words a && is_of_words b) (is_cat b) h in
    let q = and_parts (is_of_words a) (is_of_words b) p.0 in
    (q.0, q.1, p.1)

none-both : (xs ys : List ℕ) → xs ≡ [] → ys ≡ [] → xs ++ ys ≡ []
none-both xs ys h k = rw (h, k) refl

pub words-ids : (t : Tree) → is_of_words t ≡ true → group_ids t ≡ []
words-ids empty h = refl
words-ids (bytes bs) h = refl
words-ids (cat a b) h = let p = cat-words a b h in none-both (group_ids a) (group_ids b) (words-ids a p.0) (words-ids b p.1)
words-ids no_part h = refl
words-ids (alt a b) h = let p = and_parts (is_of_words a) (is_of_words b) h in none-both (group_ids a) (group_ids b) (words-ids a p.0) (words-ids b p.1)
words-ids _ h = absurd (false≢true h)

pub words-goals : (t : Tree) → is_of_words t ≡ true → goals t ≡ 0
words-goals empty h = refl
words-goals (bytes bs) h = refl
words-goals (cat a b) h = let p = cat-words a b h in omega (arith, words-goals a p.0, words-goals b p.1)
words-goals no_part h = refl
words-goals (alt a b) h = let p = and_parts (is_of_words a) (is_of_words b) h in omega (arith, words-goals a p.0, words-goals b p.1)
words-goals _ h = absurd (false≢true h)

pub words-loops : (t : Tree) → is_of_words t ≡ true → loops t ≡ 0
words-loops empty h = refl
words-loops (bytes bs) h = refl
words-loops (cat a b) h = let p = cat-words a b h in omega (arith, words-loops a p.0, words-loops b p.1)
words-loops no_part h = refl
words-loops (alt a b) h = let p = and_parts (is_of_words a) (is_of_words b) h in omega (arith, words-loops a p.0, words-loops b p.1)
words-loops _ h = absurd (false≢true h)

pub words-pending : (t : Tree) → is_of_words t ≡ true → pending t ≡ 0
words-pending t h = omega (arith, words-loops t h, pending-loops t)

pub words-lawful : (n : ℕ) (t : Tree) → is_of_words t ≡ true → AreLawful 0 t → AreLawful n t
words-lawful n empty h l = tt
words-lawful n (bytes bs) h l = l
words-lawful n (cat a b) h l = let p = cat-words a b h in (words-lawful n a p.0 l.0, words-lawful n b p.1 l.1)
words-lawful n no_part h l = tt
words-lawful n (alt a b) h l = let p = and_parts (is_of_words a) (is_of_words b) h in (words-lawful n a p.0 l.0, words-lawful n b p.1 l.1)
words-lawful n _ h l = absurd (false≢true h)

-- ---- what it matches

-- tests of each of at most one element, in either order
few-turned : {X Y Z : Type 0} (f : X → Y → List Z) (xs : List X) → (xs ≡ []) ⊎ ((x : X) × (xs ≡ x ∷ [])) → (ys : List Y)
    → flat_map (λ x. flat_map (f x) ys) xs ≡ flat_map (λ y. flat_map (λ x. f x y) xs) ys
few-turned {X = X} {Y = Y} {Z = Z} f xs (inl e) ys = rw e (sym (none ys))
  where
    none : (ys : List Y) → flat_map (λ y. flat_map (λ x. f x y) []) ys ≡ []
    none [] = refl
    none (y ∷ ys) = none ys
few-turned {X = X} {Y = Y} {Z = Z} f xs (inr (x, e)) ys = rw e (one ys)
  where
    one : (ys : List Y) → flat_map (f x) ys ++ [] ≡ flat_map (λ y. f x y ++ []) ys
    one [] = refl
    one (y ∷ ys) = append-nil (f x y ++ flat_map (f x) ys) ∙ (λ i. sym (append-nil (f x y)) i ++ (sym (append-nil (flat_map (f x) ys)) ∙ one ys) i)

-- what leads nowhere may be left out
filtered : {X Y : Type 0} (f : X → List Y) (test : X → Bool) → ((x : X) → test x ≡ false → f x ≡ []) → (xs : List X) → flat_map f xs ≡ flat_map f (filter test xs)
filtered f test none [] = refl
filtered f test none (x ∷ xs) = by_test (test x) refl (filtered f test none xs)
  where
    by_test : (b : Bool) → test x ≡ b → flat_map f xs ≡ flat_map f (filter test xs) → f x ++ flat_map f xs ≡ flat_map f (if b then x ∷ filter test xs else filter test xs)
    by_test true e rest = ap (λ ys. f x ++ ys) rest
    by_test false e rest = rw (none x e) rest

module _ (w : Context) where
  -- a literal, read forward
  abbrev found : State → List ℕ → List State
  found s x = literal_steps w Forward x s

  found-few : (s : State) (x : List ℕ) → (found s x ≡ []) ⊎ ((r : State) × (found s x ≡ r ∷ []))
  found-few s x =
      elim (cases_lt (length w.text) (s.place + length x)) [
        | inl out ↦ inl (step-out w (length x) (same_text x) s out)
        | inr room ↦ by_test (same_text x (take (length x) (drop s.place w.text))) (step-in w (length x) (same_text x) s room)
      ]
    where
      by_test : (b : Bool) → found s x ≡ (if b then record s { place = s.place + length x } ∷ [] else []) → (found s x ≡ []) ⊎ ((r : State) × (found s x ≡ r ∷ []))
      by_test true e = inr (record s { place = s.place + length x }, e)
      by_test false e = inl e

  -- where the text begins otherwise a literal leads nowhere
  not-found : (s : State) (x : List ℕ) → starts_with nat_eq (drop s.place w.text) x ≡ false → found s x ≡ []
  not-found s x h =
      elim (cases_lt (length w.text) (s.place + length x)) [
        | inl out ↦ step-out w (length x) (same_text x) s out
        | inr room ↦ rw (step-in w (length x) (same_text x) s room, h) refl
      ]

  nothing-found : (s : State) → IsInside w.text s → found s [] ++ [] ≡ s ∷ []
  nothing-found s inside =
      let room : s.place + 0 ≤ length w.text = omega (arith, inside.place) in
      let same : s.place + 0 ≡ s.place = omega arith in
      append-nil (found s []) ∙ step-in w 0 (same_text []) s room ∙ (λ i. record { place = same i; groups = s.groups } ∷ [])

  -- A tree of words matches its words, the earlier preferred.
  pub words-outcomes : (t : Tree) → is_of_words t ≡ true → (s : State) → IsInside w.text s → node_outcomes w t Forward s ≡ flat_map (found s) (words t)
  unfolding node_outcomes
  words-outcomes empty h s inside = sym (nothing-found s inside)
  words-outcomes no_part h s inside = sym (nothing-found s inside)
  words-outcomes (bytes bs) h s inside = sym (append-nil (found s (chars bs)))
  words-outcomes (alt a b) h s inside =
      let p = and_parts (is_of_words a) (is_of_words b) h in
      (λ i. words-outcomes a p.0 s inside i ++ words-outcomes b p.1 s inside i) ∙ sym (flat_map-append (found s) (words a) (words b))
  words-outcomes (cat a b) h s inside =
      let p = cat-words a b h in
      ap (flat_map (node_outcomes w b Forward)) (words-outcomes a p.0 s inside)
      ∙ flat_map-again (node_outcomes w b Forward) (found s) (words a)
      ∙ (λ i. flat_map (λ x. behind x (λ r k. words-outcomes b p.1 r k) i) (words a))
      ∙ sym (flat_map-again (found s) (λ x. map (λ y. x ++ y) (words b)) (words a))
    where
      behind : (x : List ℕ) → ((r : State) → IsInside w.text r → node_outcomes w b Forward r ≡ flat_map (found r) (words b))
          → flat_map (node_outcomes w b Forward) (found s x) ≡ flat_map (found s) (map (λ y. x ++ y) (words b))
      behind x rest =
          flat_map-agree (IsInside w.text) (node_outcomes w b Forward) (λ r. flat_map (found r) (words b)) rest (found s x)
          (All-weaker (To w Forward s) (IsInside w.text) (λ r l. l.inside inside) (found s x) (Goes-step w Forward (length x) (same_text x) s))
          ∙ few-turned found (found s x) (found-few s x) (words b)
          ∙ (λ i. flat_map (λ y. literals-joined w Forward x y s i) (words b))
          ∙ sym (flat_map-map (found s) (λ y. x ++ y) (words b))
  words-outcomes _ h s inside = absurd (false≢true h)

  -- Two trees of words that are found alike lead to the same outcomes.
  pub words-same : (dir : Direction) → dir ≡ Forward → (t u : Tree) → is_of_words t ≡ true → is_of_words u ≡ true → AreFoundAlike (words t) (words u) → (s : State) → IsInside w.text s
      → node_outcomes w t dir s ≡ node_outcomes w u dir s
  words-same Backward e t u h k alike s inside = absurd (cc)
  words-same Forward e t u h k alike s inside =
      let text : List ℕ = drop s.place w.text in
      words-outcomes t h s inside ∙ filtered (found s) (starts_with nat_eq text) (not-found s) (words t)
      ∙ ap (flat_map (found s)) (alike text)
      ∙ sym (filtered (found s) (starts_with nat_eq text) (not-found s) (words u)) ∙ sym (words-outcomes u k s inside)
