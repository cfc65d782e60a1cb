-- Going back character by character: at places it undoes going on.
use Rattle.std.specs.Prelude.{slice_get}
use Rattle.std.proofs.Common.{◌≡◌, ℕ, zero, suc, ◌+◌, ◌-◌, ◌<◌, ◌≤◌, ◌==◌, Bool, true, false, List, [], ◌∷◌, ◌++◌, length, Option, Some, None, if◌then◌else◌, get_or, option_map, refl, sym, ap, ◌∙◌, arith}
use Rattle.std.proofs.lemmas.Option.{slice_get-get_or}
use Rattle.std.proofs.lemmas.Bool.{eq-eqb, ne_eqb}
use Rattle.regress_meaning.specs.Meaning.{Direction, Forward, Backward}
use Rattle.regress_meaning.specs.Offsets.{Reading, offset}
use Rattle.regress_meaning.specs.Inputs.{Input, Tells, point_told}
use Rattle.regress_engine_runs.specs.Runs.{against, gap, back_to, given_back}
use Rattle.regress_engine_runs.specs.UndoStack.{MovesOn}
use Rattle.regress_meaning.proofs.OffsetLemmas.{offsets-far}

-- what stands behind the first offset on the way back
abbrev behind_first : (Option (ℕ × ℕ) → List ℕ) → ℕ → Bool → Option (ℕ × ℕ) → List ℕ
behind_first go far b o = if b then far ∷ [] else far ∷ go o

module _ (input : Input) where
  abbrev more_back : ℕ → Direction → ℕ → Option (ℕ × ℕ) → List ℕ
  more_back n dir near o = elim o [ None ↦ [] | Some x ↦ back_to input n dir near x.1 ]

  -- where nothing is between there is one offset
  pub back_to-end : (n : ℕ) (dir : Direction) (near far : ℕ) → gap dir near far ≡ 0 → back_to input n dir near far ≡ far ∷ []
  unfolding back_to
  back_to-end zero dir near far e = refl
  back_to-end (suc n) dir near far e =
      ap (λ b. behind_first (more_back n dir near) far b (input.next (against dir) far)) (eq-eqb (gap dir near far) 0 e)

  -- else one, and then those from the character before on
  pub back_to-more : (n : ℕ) (dir : Direction) (near far c q : ℕ) → 0 < gap dir near far → input.next (against dir) far ≡ Some (c, q)
      → back_to input (suc n) dir near far ≡ far ∷ back_to input n dir near q
  unfolding back_to
  back_to-more n dir near far c q some e =
      ap (λ b. behind_first (more_back n dir near) far b (input.next (against dir) far)) (ne_eqb (gap dir near far) 0 (λ f. absurd (omega (arith, f, some))))
      ∙ ap (λ o. far ∷ more_back n dir near o) e

  -- what is before an offset is less far ahead
  less_far : MovesOn input → (dir : Direction) (near far c q : ℕ) → input.next (against dir) far ≡ Some (c, q) → 0 < gap dir near far → gap dir near q < gap dir near far
  less_far moves Forward near far c q e some = let past = moves Backward far c q e in omega (arith, past, some)
  less_far moves Backward near far c q e some = let past = moves Forward far c q e in omega (arith, past, some)

  module _ (moves : MovesOn input) (dir : Direction) where
    -- every bound past the gap gives the same
    back_to-same : (n m near far : ℕ) → gap dir near far ≤ n → gap dir near far ≤ m → back_to input n dir near far ≡ back_to input m dir near far
    unfolding back_to
    back_to-same zero m near far few less =
        let none : gap dir near far ≡ 0 = omega (arith, few) in sym (back_to-end m dir near far none)
    back_to-same (suc n) zero near far few less =
        let none : gap dir near far ≡ 0 = omega (arith, less) in back_to-end (suc n) dir near far none
    back_to-same (suc n) (suc m) near far few less =
        by_gap (gap dir near far == 0) refl (input.next (against dir) far) refl (λ q. back_to-same n m near q)
      where
        by_gap : (b : Bool) → (gap dir near far == 0) ≡ b → (o : Option (ℕ × ℕ)) → input.next (against dir) far ≡ o
            → ((q : ℕ) → gap dir near q ≤ n → gap dir near q ≤ m → back_to input n dir near q ≡ back_to input m dir near q)
            → behind_first (more_back n dir near) far b o ≡ behind_first (more_back m dir near) far b o
        by_gap true e o next rest = refl
        by_gap false e None next rest = refl
        by_gap false e (Some (c, q)) next rest =
            let some : 0 < gap dir near far = positive (gap dir near far) e in
            let shrinks = less_far moves dir near far c q next some in
            ap (λ xs. far ∷ xs) (rest q (omega (arith, shrinks, few)) (omega (arith, shrinks, less)))
          where
            positive : (n : ℕ) → (n == 0) ≡ false → 0 < n
            positive zero e = absurd (grind arith)
            positive (suc n) e = omega arith

    -- So what is given back goes on from the character before.
    pub given_back-more : (near far c q : ℕ) → 0 < gap dir near far → input.next (against dir) far ≡ Some (c, q)
        → given_back input dir near far ≡ far ∷ given_back input dir near q
    given_back-more near far c q some e = by_size (gap dir near far) refl
      where
        shrinks : gap dir near q < gap dir near far
        shrinks = less_far moves dir near far c q e some

        by_size : (n : ℕ) → gap dir near far ≡ n → back_to input n dir near far ≡ far ∷ given_back input dir near q
        by_size zero size = absurd (omega (arith, size, some))
        by_size (suc n) size =
            back_to-more n dir near far c q some e
            ∙ ap (λ xs. far ∷ xs) (back_to-same n (gap dir near q) near q (omega (arith, shrinks, size)) (omega arith))

-- ---- at places

-- the place so many further
abbrev pub ahead : Direction → ℕ → ℕ → ℕ
ahead Forward p k = p + k
ahead Backward p k = p - k

module _ (input : Input) (reading : Reading) (tells : Tells reading input) where
  -- there is such a place
  abbrev pub HasPlace : Direction → ℕ → ℕ → Type 0
  HasPlace Forward p k = p + k ≤ length reading.points
  HasPlace Backward p k = (k ≤ p) × (p ≤ length reading.points)

  -- the offset there
  abbrev pub offset_ahead : Direction → ℕ → ℕ → ℕ
  offset_ahead dir p k = offset reading (ahead dir p k)

  pub ahead-none : (dir : Direction) (p : ℕ) → ahead dir p 0 ≡ p
  ahead-none Forward p = omega arith
  ahead-none Backward p = omega arith

  pub ahead-on : (dir : Direction) (p k : ℕ) → ahead dir (ahead dir p 1) k ≡ ahead dir p (suc k)
  ahead-on Forward p k = omega arith
  ahead-on Backward p k = omega arith

  pub HasPlace-none : (dir : Direction) (p : ℕ) → p ≤ length reading.points → HasPlace dir p 0
  HasPlace-none Forward p room = omega (arith, room)
  HasPlace-none Backward p room = (omega arith, room)

  pub HasPlace-here : (dir : Direction) (p k : ℕ) → HasPlace dir p k → ahead dir p k ≤ length reading.points
  HasPlace-here Forward p k h = h
  HasPlace-here Backward p k h = let room = h.1 in omega (arith, room)

  pub HasPlace-on : (dir : Direction) (p k : ℕ) → HasPlace dir p 1 → HasPlace dir (ahead dir p 1) k → HasPlace dir p (suc k)
  HasPlace-on Forward p k h g = omega (arith, h, g)
  HasPlace-on Backward p k h g = let one = h.0 in let all = g.0 in (omega (arith, one, all), h.1)

  HasPlace-rest : (dir : Direction) (p k : ℕ) → HasPlace dir p (suc k) → HasPlace dir (ahead dir p 1) k
  HasPlace-rest Forward p k h = omega (arith, h)
  HasPlace-rest Backward p k h = let all = h.0 in let room = h.1 in (omega (arith, all), omega (arith, room))

  HasPlace-less : (dir : Direction) (p k : ℕ) → HasPlace dir p (suc k) → HasPlace dir p k
  HasPlace-less Forward p k h = omega (arith, h)
  HasPlace-less Backward p k h = let all = h.0 in (omega (arith, all), h.1)

  -- before a place stands the character behind the place before
  next-back : (dir : Direction) (p k : ℕ) → HasPlace dir p (suc k)
      → (c : ℕ) × (input.next (against dir) (offset_ahead dir p (suc k)) ≡ Some (c, offset_ahead dir p k))
  next-back Forward p k room =
      let c : ℕ = get_or reading.points (p + k) 0 in
      let own : slice_get reading.points (p + k) ≡ Some c = slice_get-get_or reading.points (p + k) 0 (omega (arith, room)) in
      let e : p + suc k ≡ suc (p + k) = omega arith in (
        c,
        ap (λ q. input.next Backward (offset reading q)) e ∙ tells.next Backward (suc (p + k)) (omega (arith, room))
            ∙ ap (λ (o : Option ℕ). option_map (point_told reading) (option_map (λ c. (c, p + k)) o)) own,
      )
  next-back Backward p k (below, room) =
      let q : ℕ = p - suc k in
      let c : ℕ = get_or reading.points q 0 in
      let own : slice_get reading.points q ≡ Some c = slice_get-get_or reading.points q 0 (omega (arith, below, room)) in
      let e : suc q ≡ p - k = omega (arith, below) in (
        c,
        tells.next Forward q (omega (arith, room)) ∙ ap (λ (o : Option ℕ). option_map (point_told reading) (option_map (λ c. (c, suc q)) o)) own
            ∙ ap (λ x. Some (c, offset reading x)) e,
      )

  -- offsets are at least as far apart as their places
  gap-far : (dir : Direction) (p k : ℕ) → HasPlace dir p k → k ≤ gap dir (offset reading p) (offset_ahead dir p k)
  gap-far Forward p k room = let far = offsets-far reading tells.rise k p room in omega (arith, far)
  gap-far Backward p k (below, room) =
      let far = offsets-far reading tells.rise k (p - k) (omega (arith, below, room)) in
      let e : p - k + k ≡ p = omega (arith, below) in
      let same : offset reading (p - k + k) ≡ offset reading p = ap (offset reading) e in
      omega (arith, far, same)

  gap-same : (dir : Direction) (o : ℕ) → gap dir o o ≡ 0
  gap-same Forward o = omega arith
  gap-same Backward o = omega arith

  -- from one place back to another: it ends one character later where it goes one place further back
  back_to-further : (dir : Direction) (k p f g : ℕ) → HasPlace dir p (suc k) → suc k ≤ f → k ≤ g
      → back_to input f dir (offset reading p) (offset_ahead dir p (suc k))
      ≡ back_to input g dir (offset_ahead dir p 1) (offset_ahead dir p (suc k)) ++ offset reading p ∷ []
  back_to-further dir k p zero g room few enough = absurd (omega (arith, few))
  back_to-further dir zero p (suc f) g room few enough =
      let (c, e) = next-back dir p zero room in
      let far = gap-far dir p 1 room in
      let none : gap dir (offset reading p) (offset_ahead dir p 0) ≡ 0 =
      ap (λ q. gap dir (offset reading p) (offset reading q)) (ahead-none dir p) ∙ gap-same dir (offset reading p) in
      back_to-more input f dir (offset reading p) (offset_ahead dir p 1) c (offset_ahead dir p 0) (omega (arith, far)) e
      ∙ ap (λ xs. offset_ahead dir p 1 ∷ xs) (back_to-end input f dir (offset reading p) (offset_ahead dir p 0) none)
      ∙ ap (λ q. offset_ahead dir p 1 ∷ offset reading q ∷ []) (ahead-none dir p)
      ∙ ap (λ xs. xs ++ offset reading p ∷ []) (sym (back_to-end input g dir (offset_ahead dir p 1) (offset_ahead dir p 1) (gap-same dir (offset_ahead dir p 1))))
  back_to-further dir (suc k) p (suc f) zero room few enough = absurd (omega (arith, enough))
  back_to-further dir (suc k) p (suc f) (suc g) room few enough =
      let (c, e) = next-back dir p (suc k) room in
      let whole = gap-far dir p (suc (suc k)) room in
      let part = gap-far dir (ahead dir p 1) (suc k) (HasPlace-rest dir p (suc k) room) in
      let same : gap dir (offset_ahead dir p 1) (offset reading (ahead dir (ahead dir p 1) (suc k))) ≡ gap dir (offset_ahead dir p 1) (offset_ahead dir p (suc (suc k))) =
      ap (λ q. gap dir (offset_ahead dir p 1) (offset reading q)) (ahead-on dir p (suc k)) in
      back_to-more input f dir (offset reading p) (offset_ahead dir p (suc (suc k))) c (offset_ahead dir p (suc k)) (omega (arith, whole)) e
      ∙ ap (λ xs. offset_ahead dir p (suc (suc k)) ∷ xs) (back_to-further dir k p f g (HasPlace-less dir p (suc k) room) (omega (arith, few)) (omega (arith, enough)))
      ∙ ap (λ xs. xs ++ offset reading p ∷ [])
      (sym (back_to-more input g dir (offset_ahead dir p 1) (offset_ahead dir p (suc (suc k))) c (offset_ahead dir p (suc k)) (omega (arith, part, same)) e))

  -- at one place nothing is between
  pub given_back-none : (dir : Direction) (p : ℕ) → given_back input dir (offset reading p) (offset_ahead dir p 0) ≡ offset reading p ∷ []
  given_back-none dir p =
      let none : gap dir (offset reading p) (offset_ahead dir p 0) ≡ 0 =
      ap (λ q. gap dir (offset reading p) (offset reading q)) (ahead-none dir p) ∙ gap-same dir (offset reading p) in
      back_to-end input (gap dir (offset reading p) (offset_ahead dir p 0)) dir (offset reading p) (offset_ahead dir p 0) none
      ∙ ap (λ q. offset reading q ∷ []) (ahead-none dir p)

  -- What is given back to a place is what is given back to the next, and the place itself.
  pub given_back-further : (dir : Direction) (k p : ℕ) → HasPlace dir p (suc k)
      → given_back input dir (offset reading p) (offset_ahead dir p (suc k))
      ≡ given_back input dir (offset_ahead dir p 1) (offset_ahead dir p (suc k)) ++ offset reading p ∷ []
  given_back-further dir k p room =
      let whole = gap-far dir p (suc k) room in
      let part = gap-far dir (ahead dir p 1) k (HasPlace-rest dir p k room) in
      let same : gap dir (offset_ahead dir p 1) (offset reading (ahead dir (ahead dir p 1) k)) ≡ gap dir (offset_ahead dir p 1) (offset_ahead dir p (suc k)) =
      ap (λ q. gap dir (offset_ahead dir p 1) (offset reading q)) (ahead-on dir p k) in
      back_to-further dir k p (gap dir (offset reading p) (offset_ahead dir p (suc k))) (gap dir (offset_ahead dir p 1) (offset_ahead dir p (suc k)))
      room whole (omega (arith, part, same))
