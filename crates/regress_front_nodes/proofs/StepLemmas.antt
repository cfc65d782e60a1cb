-- Steps over code points: two tests that agree step alike.
use Rattle.std.proofs.Common.{◌≡◌, ℕ, ◌+◌, ◌-◌, ◌≤◌, Bool, true, false, List, [], ◌∷◌, ◌++◌, length, Option, Some, None, if◌then◌else◌, drop, nat_le, slice_range, All, refl, ap, ◌∙◌, arith, length-drop}
use Rattle.std.specs.List.{flat_map, list_all}
use Rattle.std.proofs.lemmas.Bool.{leb-true}
use Rattle.std.proofs.lemmas.List.{length-take}
use Rattle.std.proofs.lemmas.List.Elements.{All-head, All-tail, All-take, All-drop}
use Rattle.std.proofs.lemmas.Grind.{flat_map-append}
use Rattle.regress_meaning.specs.TableParts.{is_code_point}
use Rattle.regress_meaning.specs.Meaning.{State, Direction, Forward, Backward, Context, beside, stepped, step}

-- two tests that agree on code points agree on lists of them
pub list_all-agree : (p q : ℕ → Bool) → ((c : ℕ) → is_code_point c → p c ≡ q c) → (cs : List ℕ) → All is_code_point cs → list_all p cs ≡ list_all q cs
list_all-agree p q same [] h = refl
list_all-agree p q same (c ∷ cs) h = rw (same c (All-head is_code_point c cs h), list_all-agree p q same cs (All-tail is_code_point c cs h)) refl

-- all steps from what all steps lead to
pub flat_map-again : {X Y Z : Type 0} (f : Y → List Z) (g : X → List Y) (xs : List X) → flat_map f (flat_map g xs) ≡ flat_map (λ x. flat_map f (g x)) xs
flat_map-again f g [] = refl
flat_map-again f g (x ∷ xs) = flat_map-append f (g x) (flat_map g xs) ∙ ap (λ ys. flat_map f (g x) ++ ys) (flat_map-again f g xs)

pub flat_map-self : {X : Type 0} (xs : List X) → flat_map (λ x. x ∷ []) xs ≡ xs
flat_map-self [] = refl
flat_map-self (x ∷ xs) = ap (λ ys. x ∷ ys) (flat_map-self xs)

module _ (w : Context) (valid : All is_code_point w.text) where
  -- code points beside a place are the text's
  pub beside-valid : (dir : Direction) (k p : ℕ) (cs : List ℕ) (q : ℕ) → beside w dir k p ≡ Some (cs, q) → All is_code_point cs
  unfolding beside
  beside-valid Forward k p cs q e = by_room (nat_le (p + k) (length w.text)) e
    where
      by_room : (b : Bool) → (let found : Option (List ℕ × ℕ) = Some (slice_range w.text p (p + k), p + k) in (if b then found else None) ≡ Some (cs, q)) → All is_code_point cs
      by_room true h = let pair : ◌≡◌ {A = List ℕ × ℕ} (slice_range w.text p (p + k), p + k) (cs, q) = cc in let same : slice_range w.text p (p + k) ≡ cs = ap (λ (x : List ℕ × ℕ). x.0) pair in
          rw (← same) (All-take is_code_point (p + k - p) (drop p w.text) (All-drop is_code_point p w.text valid))
      by_room false h = absurd (cc)
  beside-valid Backward k p cs q e = by_room (nat_le k p) e
    where
      by_room : (b : Bool) → (let found : Option (List ℕ × ℕ) = Some (slice_range w.text (p - k) p, p - k) in (if b then found else None) ≡ Some (cs, q)) → All is_code_point cs
      by_room true h = let pair : ◌≡◌ {A = List ℕ × ℕ} (slice_range w.text (p - k) p, p - k) (cs, q) = cc in let same : slice_range w.text (p - k) p ≡ cs = ap (λ (x : List ℕ × ℕ). x.0) pair in
          rw (← same) (All-take is_code_point (p - (p - k)) (drop (p - k) w.text) (All-drop is_code_point (p - k) w.text valid))
      by_room false h = absurd (cc)

  -- two tests that agree on lists of code points step alike
  pub step-agree : (dir : Direction) (k : ℕ) (f g : List ℕ → Bool) → ((cs : List ℕ) → All is_code_point cs → f cs ≡ g cs) → (s : State) → step w dir k f s ≡ step w dir k g s
  unfolding step
  step-agree dir k f g same s = by_found (beside w dir k s.place) refl
    where
      by_found : (o : Option (List ℕ × ℕ)) → beside w dir k s.place ≡ o → stepped f s o ≡ stepped g s o
      by_found None e = refl
      by_found (Some (cs, p)) e = rw (same cs (beside-valid dir k s.place cs p e)) refl

module _ (w : Context) (valid : All is_code_point w.text) (dir : Direction) (s : State) (inside : s.place ≤ length w.text) where
  pub beside-length : (d : Direction) (k : ℕ) (cs : List ℕ) (q : ℕ) → beside w d k s.place ≡ Some (cs, q) → length cs ≡ k
  unfolding beside
  beside-length Forward k cs q e = by_room (nat_le (s.place + k) (length w.text)) refl e
    where
      by_room : (b : Bool) → nat_le (s.place + k) (length w.text) ≡ b → (let found : Option (List ℕ × ℕ) = Some (slice_range w.text s.place (s.place + k), s.place + k) in (if b then found else None) ≡ Some (cs, q)) → length cs ≡ k
      by_room true h e =
          let pair : ◌≡◌ {A = List ℕ × ℕ} (slice_range w.text s.place (s.place + k), s.place + k) (cs, q) = cc in
          let same : slice_range w.text s.place (s.place + k) ≡ cs = ap (λ (x : List ℕ × ℕ). x.0) pair in
          let room = leb-true (s.place + k) (length w.text) h in
          rw (← same) (omega (arith, length-take (s.place + k - s.place) (drop s.place w.text), length-drop s.place w.text))
      by_room false h e = absurd (cc)
  beside-length Backward k cs q e = by_room (nat_le k s.place) refl e
    where
      by_room : (b : Bool) → nat_le k s.place ≡ b → (let found : Option (List ℕ × ℕ) = Some (slice_range w.text (s.place - k) s.place, s.place - k) in (if b then found else None) ≡ Some (cs, q)) → length cs ≡ k
      by_room true h e =
          let pair : ◌≡◌ {A = List ℕ × ℕ} (slice_range w.text (s.place - k) s.place, s.place - k) (cs, q) = cc in
          let same : slice_range w.text (s.place - k) s.place ≡ cs = ap (λ (x : List ℕ × ℕ). x.0) pair in
          let room = leb-true k s.place h in
          rw (← same) (omega (arith, length-take (s.place - (s.place - k)) (drop (s.place - k) w.text), length-drop (s.place - k) w.text))
      by_room false h e = absurd (cc)

  -- tests that agree on the texts of one length step alike by that length
  pub sized-agree : (k : ℕ) (f g : List ℕ → Bool) → ((cs : List ℕ) → length cs ≡ k → All is_code_point cs → f cs ≡ g cs) → step w dir k f s ≡ step w dir k g s
  unfolding step
  sized-agree k f g agree = by_found (beside w dir k s.place) refl
    where
      by_found : (o : Option (List ℕ × ℕ)) → beside w dir k s.place ≡ o → stepped f s o ≡ stepped g s o
      by_found None e = refl
      by_found (Some (cs, p)) e = rw (agree cs (beside-length dir k cs p e) (beside-valid w valid dir k s.place cs p e)) refl
