-- Steps over several characters as steps one after another.
use Rattle.std.proofs.Common.{◌≡◌, ℕ, ◌+◌, ◌-◌, ◌<◌, ◌≤◌, Bool, true, false, ◌&&◌, List, [], ◌∷◌, ◌++◌, length, if◌then◌else◌, nat_eq, take, drop, refl, inl, inr, arith, length-append}
use Rattle.std.specs.List.{flat_map}
use Rattle.std.proofs.lemmas.Bool.{cases_lt}
use Rattle.std.proofs.lemmas.List.{append-nil, take-take, drop-take, drop-drop}
use Rattle.regress_meaning.specs.Text.{same_text}
use Rattle.regress_meaning.specs.Meaning.{State, Direction, Forward, Backward, Context, step}
use Rattle.regress_front_nodes.specs.TreeMeaning.{literal_steps}
use Rattle.regress_front_nodes.proofs.PieceOutcomes.{step-in, step-out, back-in, back-out}
use Rattle.regress_front_rules.specs.Rules.{joined}

and_again : (a b c d : Bool) → d ≡ (b && c) → (a && d) ≡ ((a && b) && c)
and_again true b c d e = e
and_again false b c d e = refl

-- equal texts, by their fronts and rests
pub same_text-append : (xs ys cs : List ℕ) → same_text (xs ++ ys) cs ≡ (same_text xs (take (length xs) cs) && same_text ys (drop (length xs) cs))
same_text-append [] ys cs = refl
same_text-append (x ∷ xs) ys [] = refl
same_text-append (x ∷ xs) ys (c ∷ cs) = and_again (nat_eq x c) (same_text xs (take (length xs) cs)) (same_text ys (drop (length xs) cs)) (same_text (xs ++ ys) cs) (same_text-append xs ys cs)

module _ (w : Context) where
  -- forward, a step over several characters is one over the first of them, and then one over the others
  step-split : (p q t : List ℕ → Bool) (k m : ℕ) → ((cs : List ℕ) → t cs ≡ (p (take k cs) && q (drop k cs))) → (s : State)
      → flat_map (step w Forward m q) (step w Forward k p s) ≡ step w Forward (k + m) t s
  step-split p q t k m split s =
      elim (cases_lt (length w.text) (s.place + k)) [
        | inl out ↦ rw (step-out w k p s out, step-out w (k + m) t s (omega arith)) refl
        | inr room ↦ rw (step-in w k p s room) (by_room room)
      ]
    where
      next : State
      next = record s { place = s.place + k }

      last : State
      last = record s { place = s.place + (k + m) }

      here : List ℕ
      here = drop s.place w.text

      first : t (take (k + m) here) ≡ (p (take k here) && q (take m (drop (s.place + k) w.text)))
      first = rw (split (take (k + m) here), take-take k (k + m) here (omega arith), drop-take k m here, drop-drop k s.place w.text) refl

      by_tests : (a b : Bool) → s.place + k + m ≤ length w.text → q (take m (drop (s.place + k) w.text)) ≡ b
          → flat_map (step w Forward m q) (if a then next ∷ [] else []) ≡ (if a && b then last ∷ [] else [])
      by_tests false b room e = refl
      by_tests true b room e =
          let there : s.place + k + m ≡ s.place + (k + m) = omega arith in
          rw (step-in w m q next room, e, there) (append-nil (if b then last ∷ [] else []))

      by_room : s.place + k ≤ length w.text → flat_map (step w Forward m q) (if p (take k here) then next ∷ [] else []) ≡ step w Forward (k + m) t s
      by_room room =
          elim (cases_lt (length w.text) (s.place + (k + m))) [
            | inl out ↦ rw (step-out w (k + m) t s out) (none (p (take k here)) out)
            | inr more ↦ rw (step-in w (k + m) t s more, first) (by_tests (p (take k here)) (q (take m (drop (s.place + k) w.text))) (omega arith) refl)
          ]
        where
          none : (a : Bool) → length w.text < s.place + (k + m) → flat_map (step w Forward m q) (if a then next ∷ [] else []) ≡ []
          none true out = rw (step-out w m q next (omega arith)) refl
          none false out = refl

  -- backward, it is one over the last of them, and then one over the others
  back-split : (p q t : List ℕ → Bool) (k m : ℕ) → ((cs : List ℕ) → t cs ≡ (p (take k cs) && q (drop k cs))) → (s : State)
      → flat_map (step w Backward k p) (step w Backward m q s) ≡ step w Backward (k + m) t s
  back-split p q t k m split s =
      elim (cases_lt s.place m) [
        | inl out ↦ rw (back-out w m q s out, back-out w (k + m) t s (omega arith)) refl
        | inr room ↦ rw (back-in w m q s room) (by_room room)
      ]
    where
      next : State
      next = record s { place = s.place - m }

      last : State
      last = record s { place = s.place - (k + m) }

      here : List ℕ
      here = drop (s.place - (k + m)) w.text

      first : k + m ≤ s.place → t (take (k + m) here) ≡ (p (take k here) && q (take m (drop (s.place - m) w.text)))
      first room =
          let there : s.place - (k + m) + k ≡ s.place - m = omega arith in
          rw (split (take (k + m) here), take-take k (k + m) here (omega arith), drop-take k m here, drop-drop k (s.place - (k + m)) w.text, there) refl

      by_tests : (a b : Bool) → k + m ≤ s.place → p (take k here) ≡ a
          → flat_map (step w Backward k p) (if b then next ∷ [] else []) ≡ (if a && b then last ∷ [] else [])
      by_tests true false room e = refl
      by_tests false false room e = refl
      by_tests a true room e =
          let there : s.place - m - k ≡ s.place - (k + m) = omega arith in
          rw (back-in w k p next (omega arith), there, e) (ends a)
        where
          ends : (a : Bool) → (if a then last ∷ [] else []) ++ [] ≡ (if a && true then last ∷ [] else [])
          ends true = refl
          ends false = refl

      by_room : m ≤ s.place → flat_map (step w Backward k p) (if q (take m (drop (s.place - m) w.text)) then next ∷ [] else []) ≡ step w Backward (k + m) t s
      by_room room =
          elim (cases_lt s.place (k + m)) [
            | inl out ↦ rw (back-out w (k + m) t s out) (none (q (take m (drop (s.place - m) w.text))) out)
            | inr more ↦ rw (back-in w (k + m) t s more, first more) (by_tests (p (take k here)) (q (take m (drop (s.place - m) w.text))) more refl)
          ]
        where
          none : (a : Bool) → s.place < k + m → flat_map (step w Backward k p) (if a then next ∷ [] else []) ≡ []
          none true out = rw (back-out w k p next (omega arith)) refl
          none false out = refl

  -- two literals one after another are one, in the order of the text
  pub literals-joined : (dir : Direction) (xs ys : List ℕ) (s : State) → flat_map (literal_steps w dir ys) (literal_steps w dir xs s) ≡ literal_steps w dir (joined dir xs ys) s
  literals-joined Forward xs ys s =
      rw (length-append xs ys) (step-split (same_text xs) (same_text ys) (same_text (xs ++ ys)) (length xs) (length ys) (same_text-append xs ys) s)
  literals-joined Backward xs ys s =
      rw (length-append ys xs) (back-split (same_text ys) (same_text xs) (same_text (ys ++ xs)) (length ys) (length xs) (same_text-append ys xs) s)
