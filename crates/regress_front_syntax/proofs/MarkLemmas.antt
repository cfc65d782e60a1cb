-- Code points that are marks, and what is counted of them in the rear of a text.
use Rattle.std.specs.Prelude.{count_by}
use Rattle.std.proofs.lemmas.List.Sums.{sum_by-take-drop}
use Rattle.std.proofs.lemmas.Bool.{or_parts, eq-eqb}
use Rattle.std.proofs.Common.{cond, ◌≡◌, ℕ, zero, suc, ◌<◌, ◌≤◌, Bool, true, false, ◌==◌, List, [], ◌∷◌, length, drop, Some, None, refl, sym, eqb-true, codes, length-drop, arith}
use Rattle.regress_meaning.specs.Text.{holds, is_at}
use Rattle.regress_meaning.specs.Tokens.{Bounds, bounds_at}
use Rattle.regress_meaning.specs.Limits.{opens_nesting, opens_group, opens_quantifier}
use Rattle.regress_front_tokens.specs.declared.cursor.Cursor.{Cursor}
use Rattle.regress_front_tokens.specs.Cursors.{unread, SameText}
use Rattle.regress_front_syntax.specs.Parsing.{Leads}
use Rattle.regress_front_tokens.proofs.CountLemmas.{count-less, count-opening}
use Rattle.regress_front_syntax.proofs.AnswerLemmas.{at}

-- a fact of each
abbrev Each : (ℕ → Type 0) → List ℕ → Type 0
Each P [] = Unit {0}
Each P (c ∷ cs) = P c × Each P cs

-- no mark of a list that doesn't hold c is c
each_differs : (cs : List ℕ) (c : ℕ) → holds cs c ≡ false → Each (λ d. (c == d) ≡ false) cs
each_differs [] c h = tt
each_differs (d ∷ cs) c h = let (here, behind) = or_parts (d == c) (holds cs c) h in (differ_back d c here, each_differs cs c behind)
  where
    differ_back : (a b : ℕ) → (a == b) ≡ false → (b == a) ≡ false
    differ_back a b h = go (b == a) refl
      where
        go : (t : Bool) → (b == a) ≡ t → (b == a) ≡ false
        go false e = e
        go true e = let same = eq-eqb a b (sym (eqb-true b a e)) in cc

-- what begins with no mark of a quantifier begins none
no_quantifier : (t : List ℕ) → is_at opens_quantifier t ≡ false → bounds_at t ≡ None
unfolding bounds_at
no_quantifier [] h = refl
no_quantifier (c ∷ t) h = let e = each_differs (codes "*+?{") c h in rw (e.0, e.1.0, e.1.1.0, e.1.1.1.0) refl

-- a quantifier begins with such a mark
pub quantifier-mark : (t : List ℕ) (x : Bounds × List ℕ) → bounds_at t ≡ Some x → is_at opens_quantifier t ≡ true
quantifier-mark t x e = go (is_at opens_quantifier t) refl
  where
    go : (b : Bool) → is_at opens_quantifier t ≡ b → b ≡ true
    go true h = refl
    go false h = let none = no_quantifier t h in absurd (cc)

-- the rear of a text counts no more
count-drop : (test : ℕ → Bool) (i : ℕ) (t : List ℕ) → count_by test (drop i t) ≤ count_by test t
count-drop test i t = let e = sum_by-take-drop (λ x. cond (test x) 1 0) t i in omega arith

count-rear : (test : ℕ → Bool) (xs : List ℕ) (i j : ℕ) → length (drop j xs) ≤ length (drop i xs) → count_by test (drop j xs) ≤ count_by test (drop i xs)
count-rear test [] zero zero h = omega arith
count-rear test [] zero (suc j) h = omega arith
count-rear test [] (suc i) zero h = omega arith
count-rear test [] (suc i) (suc j) h = omega arith
count-rear test (c ∷ xs) zero j h = count-drop test j (c ∷ xs)
count-rear test (c ∷ xs) (suc i) zero h = absurd (omega (arith, length-drop i xs))
count-rear test (c ∷ xs) (suc i) (suc j) h = count-rear test xs i j h

-- and less behind one that counts
count-behind : (test : ℕ → Bool) (xs : List ℕ) (i j : ℕ) → length (drop j xs) < length (drop i xs) → is_at test (drop i xs) ≡ true → count_by test (drop j xs) < count_by test (drop i xs)
count-behind test [] zero zero h e = cc
count-behind test [] zero (suc j) h e = cc
count-behind test [] (suc i) zero h e = cc
count-behind test [] (suc i) (suc j) h e = cc
count-behind test (c ∷ xs) zero zero h e = absurd (omega arith)
count-behind test (c ∷ xs) zero (suc j) h e = let one = count-opening test c xs e in let rear = count-drop test j xs in omega arith
count-behind test (c ∷ xs) (suc i) zero h e = absurd (omega (arith, length-drop i xs))
count-behind test (c ∷ xs) (suc i) (suc j) h e = count-behind test xs i j h e

-- a cursor that stands further on in the same text
module _ (a b : Cursor) (same : SameText a b) where
  pub count-further : (test : ℕ → Bool) → length (unread b) ≤ length (unread a) → count_by test (unread b) ≤ count_by test (unread a)
  count-further test less = rw same (count-rear test a.points.now a.position b.position (rw same at less))

  pub count-beyond : (test : ℕ → Bool) → length (unread b) < length (unread a) → is_at test (unread a) ≡ true → count_by test (unread b) < count_by test (unread a)
  count-beyond test less marked = rw same (count-behind test a.points.now a.position b.position (rw same at less) marked)

  pub Leads_further : (n k r : ℕ) → length (unread b) ≤ length (unread a) → Leads (at n k r (unread a)) (at n k r (unread b))
  Leads_further n k r less =
      let nesting = count-further opens_nesting less in
      let groups = count-further opens_group less in
      let loops = count-further opens_quantifier less in
      record { nested = omega arith; grouped = omega arith; looped = omega arith }

  -- where a mark is still counted
  pub Leads_behind : (c n k r : ℕ) → length (unread b) ≤ length (unread a) → Leads (at n k r (c ∷ unread a)) (at n k r (unread b))
  Leads_behind c n k r less =
      let nesting = count-further opens_nesting less in
      let groups = count-further opens_group less in
      let loops = count-further opens_quantifier less in
      let nesting_mark = count-less opens_nesting c (unread a) in
      let groups_mark = count-less opens_group c (unread a) in
      let loops_mark = count-less opens_quantifier c (unread a) in
      record { nested = omega arith; grouped = omega arith; looped = omega arith }

  -- behind a parenthesis, one level deeper, with at most one group more
  pub Leads_inside : (n k l r : ℕ) → l ≤ suc k → length (unread b) ≤ length (unread a) → Leads (at n k r (0x28 ∷ unread a)) (at (suc n) l r (unread b))
  Leads_inside n k l r more less =
      let nesting = count-further opens_nesting less in
      let groups = count-further opens_group less in
      let loops = count-further opens_quantifier less in
      let nesting_mark = count-opening opens_nesting 0x28 (unread a) refl in
      let groups_mark = count-opening opens_group 0x28 (unread a) refl in
      let loops_mark = count-less opens_quantifier 0x28 (unread a) in
      record { nested = omega arith; grouped = omega arith; looped = omega arith }
